use Rattle.std.proofs.Common.{rules, refl, ap, sym, ◌∙◌, take}
use mathlib.Core.List.{map-id}
use lib.Dec.{leb}
use Rattle.voice.specs.declared.Voice.{Voice}
use Rattle.voice.specs.View.{seen}
use Rattle.held.specs.View.{number_of_note}
use Rattle.table.specs.View.{voices_of}
use Rattle.instrument.specs.View.{view}
use Rattle.wire.proofs.Loops.{alike}
use Rattle.wire.proofs.Parts.{flag_back, voices-of, rooms, written-numbered}
use Rattle.wire.specs.Reads.{seen_of, voice_numbered, model_of}
use Rattle.wire.proofs.numbers.HostStateFromRefInstrument.from.Goals as goal

pub returns : goal.returns
unfolding view model_of
returns c =
    let s = c.args.s.now in
    let n = s.table.count in
    let from = take n s.table.voices in
    let made = take n c.first_made.result in
    let design = c.into.ensures in
    let voices = alike _ seen seen_of from made c.first_made.ensures (λ x y k. search rules) in
    let room = rooms made from (alike _ (λ (v : Voice). leb v.copy_count 8) voice_numbered from made c.first_made.ensures (λ x y k. search rules)) in
    let pedal = flag_back s.sustain c.into-2.result c.into-2.ensures in
    let k = s.held.count in
    let held = sym (map-id _) ∙ alike _ number_of_note (λ y. y) (take k s.held.notes) (take k c.first_made-2.result) c.first_made-2.ensures (λ x y k. search rules) in
    record {
      model = λ i. record {
        design = design.0 i;
        voices = (sym (voices-of made) ∙ ap voices_of voices) i;
        next = s.next_handle;
        pedal = pedal.0 i;
        bend = s.bend;
        brightness = s.brightness;
        vib_phase = s.vib_phase;
        flt_phase = s.flt_phase;
        trem_phase = s.trem_phase;
        trem = s.trem;
        held = held i;
        frames = s.frames;
      };
      numbered = written-numbered _ _ refl refl design.1 pedal.1 room;
    }
