use Rattle.std.proofs.Common.{rules, ◌≡◌, sym, ◌∙◌, take}
use mathlib.Core.List.{map-id}
use Rattle.voice.specs.View.{seen, shown}
use Rattle.wire.proofs.Loops.{alike}
use Rattle.wire.specs.Reads.{copy_of, env_of, seen_of, voice_of}
use Rattle.wire.proofs.VoiceFromHostVoice.from.Goals as goal

pub returns : goal.returns
unfolding seen shown seen_of voice_of
returns c =
    let h = c.args.h in
    let copies = sym (map-id _) ∙ alike _ copy_of (λ y. y) (take h.copy_count h.copies) (take h.copy_count c.first_made.result) c.first_made.ensures (λ x y k. search rules) in
    let env : c.into.result ≡ env_of h.env = c.into.ensures in
    rw (copies, env)
