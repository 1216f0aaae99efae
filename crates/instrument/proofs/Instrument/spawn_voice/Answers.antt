use mathlib.Core.Path.{◌∙◌}
use Rattle.voice.proofs.Born.{new-voice-is}
use Rattle.instrument.specs.View.{view}
use Rattle.instrument.specs.Calls.{placed_as}
use Rattle.instrument.proofs.Ons.{handle-number, spawn-silent, spawn-started}
use Rattle.instrument.proofs.Instrument.spawn_voice.Goals as goal

pub returns-then-not-built : goal.returns-then-not-built
unfolding placed_as
returns-then-not-built c =
    spawn-silent c.args.self c.requires.0 _ _ _ _ c.if-not-built.true c.answered.ensures

pub returns : goal.returns
unfolding placed_as view
returns c =
    let born = c.new_voice-voice.ensures ∙ new-voice-is (view c.args.self) c.requires.1 _ _ in
    spawn-started c.args.self c.requires.0 _ _ _ _ c.if-not-built.false c.requires.1 _ _ born c.add-added.ensures _ _
    (handle-number _ _ c.and_then.ensures) (handle-number _ _ c.and_then-2.ensures) c.answered-2.ensures
