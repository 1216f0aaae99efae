-- The gates of an envelope, and what is asked of it (document 01, "envelope.rs", from "gate_off in Idle" to "Faded").
use Rattle.std.specs.Prelude.{Bool, true, false, not, ◌&&◌, cond, Float}
use Rattle.std.specs.Float.{binary32}
use Rattle.std.specs.Float.Ieee.{of_bits, le}
use Rattle.float32.specs.Numbers.{min_of}
use Rattle.envelope.specs.declared.EnvGen.{EnvGen}
use Rattle.envelope.specs.declared.Stage.{Stage}
use Rattle.envelope.specs.declared.Stage.TheVariants.{Idle, Attack, Decay, Sustain, Release}

abbrev pub is_idle : Stage → Bool
is_idle Idle = true
is_idle Attack = false
is_idle Decay = false
is_idle Sustain = false
is_idle Release = false

abbrev pub is_sustain : Stage → Bool
is_sustain Idle = false
is_sustain Attack = false
is_sustain Decay = false
is_sustain Sustain = true
is_sustain Release = false

abbrev pub is_release : Stage → Bool
is_release Idle = false
is_release Attack = false
is_release Decay = false
is_release Sustain = false
is_release Release = true

-- the envelope in the stage st at the level x
unfoldable pub at : EnvGen → Stage → Float → EnvGen
at e st x = record { a = e.a; d = e.d; s = e.s; r = e.r; sr = e.sr; stage = st; level = x; rel_from = e.rel_from }

-- as `gate_on`: the attack, from the present level
unfoldable pub gated_on : EnvGen → EnvGen
gated_on e = at e Attack e.level

-- in Release with the release time r, the present level taken as the release start
unfoldable pub released : EnvGen → Float → EnvGen
released e r = record { a = e.a; d = e.d; s = e.s; r = r; sr = e.sr; stage = Release; level = e.level; rel_from = e.level }

-- with another release time
unfoldable pub with_release : EnvGen → Float → EnvGen
with_release e r = record { a = e.a; d = e.d; s = e.s; r = r; sr = e.sr; stage = e.stage; level = e.level; rel_from = e.rel_from }

-- "gate_off in Idle does nothing; otherwise it takes the present level as the release start, also when already releasing"
unfoldable pub gated_off : EnvGen → EnvGen
gated_off e = cond (is_idle e.stage) e (released e e.r)

-- 0.005
abbrev pub kill_time : Float
kill_time = of_bits binary32 0x3ba3_d70a

-- "kill first lowers r to at most 0.005"
unfoldable pub killed : EnvGen → EnvGen
killed e = gated_off (with_release e (min_of e.r kill_time))

unfoldable pub is_active : EnvGen → Bool
is_active e = not (is_idle e.stage)

-- "Faded: stage Sustain and s at most 38D1B717"
unfoldable pub is_faded : EnvGen → Bool
is_faded e = is_sustain e.stage && le e.s (of_bits binary32 0x38d1_b717)
