use Rattle.std.proofs.Common.{rules, ◌≡◌, refl, ◌∙◌, take}
use mathlib.Core.List.{map-id}
use Rattle.voice.specs.View.{seen}
use Rattle.held.specs.View.{number_of_note}
use Rattle.instrument.specs.View.{view}
use Rattle.wire.proofs.Loops.{alike}
use Rattle.wire.proofs.Parts.{voices-of, read-counted}
use Rattle.wire.specs.Reads.{design_of, seen_of, model_of}
use Rattle.wire.proofs.HostState.state.Goals as goal

pub returns : goal.returns
unfolding view model_of
returns c =
    let h = c.args.self.now in
    let design : c.into.result ≡ design_of h.design = c.into.ensures in
    let voices = alike _ seen_of seen (take h.voice_count h.voices) (take h.voice_count c.first_made.result) c.first_made.ensures (λ x y k. search rules) in
    let held = alike _ (λ x. x) number_of_note (take h.held_count h.held) (take h.held_count c.first_made-2.result) c.first_made-2.ensures (λ x y k. search rules) ∙ map-id _ in
    record { view = rw (design, voices, voices-of, held); counted = read-counted h _ refl refl voices }
