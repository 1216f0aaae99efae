use Rattle.std.proofs.Common.{rules, true, ◌∙◌, take}
use mathlib.Core.List.{map-id}
use Rattle.voice.specs.View.{seen, shown}
use Rattle.wire.proofs.Loops.{alike, all-passed}
use Rattle.wire.proofs.Parts.{flag_back, first_alone}
use Rattle.wire.specs.Reads.{copy_of, copy_numbered, seen_of, voice_of, voice_numbered}
use Rattle.wire.proofs.numbers.HostVoiceFromVoice.from.Goals as goal

pub returns : goal.returns
unfolding seen shown seen_of voice_of voice_numbered
returns c =
    let v = c.args.v in
    let from = take v.copy_count v.copies in
    let made = take v.copy_count c.first_made.result in
    let copies = alike _ (λ x. x) copy_of from made c.first_made.ensures (λ x y k. search rules) ∙ map-id _ in
    let passed = all-passed copy_numbered made from (alike _ (λ _. true) copy_numbered from made c.first_made.ensures (λ x y k. search rules)) in
    let env = c.into.ensures in
    let releasing = flag_back v.releasing c.into-2.result c.into-2.ensures in
    let sustained = flag_back v.sustained c.into-3.result c.into-3.ensures in
    (rw (copies, env.0, releasing.0, sustained.0), first_alone _ _ _ _ _ env.1 releasing.1 sustained.1 passed)
