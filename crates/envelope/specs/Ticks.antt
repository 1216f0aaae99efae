-- The tick (document 01, "envelope.rs": as in `EnvGen::tick`, each operation rounded once, in its order).
use Rattle.std.specs.Prelude.{cond, Float}
use Rattle.std.specs.Float.{binary32}
use Rattle.std.specs.Float.Ieee.{add, sub, mul, div, le}
use Rattle.float32.specs.Numbers.{zero, one}
use Rattle.envelope.specs.declared.EnvGen.{EnvGen}
use Rattle.envelope.specs.declared.Stage.{Stage}
use Rattle.envelope.specs.declared.Stage.TheVariants.{Idle, Attack, Decay, Sustain, Release}
use Rattle.envelope.specs.Gates.{at}

-- the level after one frame of each sloping stage, before it is held against the stage's end
unfoldable pub rise : EnvGen → Float
rise e = add binary32 e.level (div binary32 one (mul binary32 e.a e.sr))

unfoldable pub fall : EnvGen → Float
fall e = sub binary32 e.level (div binary32 (sub binary32 one e.s) (mul binary32 e.d e.sr))

unfoldable pub decline : EnvGen → Float
decline e = sub binary32 e.level (div binary32 e.rel_from (mul binary32 e.r e.sr))

-- at once where the time is not above 0; else by one slope, up to 1
unfoldable pub ticked_attack : EnvGen → EnvGen
ticked_attack e = cond (le e.a zero) (at e Decay one) (cond (le one (rise e)) (at e Decay one) (at e Attack (rise e)))

-- down to the sustain level
unfoldable pub ticked_decay : EnvGen → EnvGen
ticked_decay e = cond (le e.d zero) (at e Sustain e.s) (cond (le (fall e) e.s) (at e Sustain e.s) (at e Decay (fall e)))

-- down to 0
unfoldable pub ticked_release : EnvGen → EnvGen
ticked_release e = cond (le e.r zero) (at e Idle zero) (cond (le (decline e) zero) (at e Idle zero) (at e Release (decline e)))

abbrev pub ticked_in : Stage → EnvGen → EnvGen
ticked_in Idle e = at e Idle zero
ticked_in Attack e = ticked_attack e
ticked_in Decay e = ticked_decay e
ticked_in Sustain e = at e Sustain e.s
ticked_in Release e = ticked_release e

unfoldable pub ticked : EnvGen → EnvGen
ticked e = ticked_in e.stage e
