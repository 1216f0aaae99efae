-- A new envelope (document 01, "envelope.rs", its second and third sentence).
use Rattle.std.specs.Prelude.{Bool, not, ◌&&◌, cond, ℕ, leb, Float, pos, Result, Ok, Err}
use Rattle.std.specs.Float.{binary32}
use Rattle.std.specs.Float.Ieee.{of_int}
use Rattle.std.specs.Float.Ieee.Scale.{finite}
use Rattle.float32.specs.Numbers.{zero, one, max_of, clamp_of}
use Rattle.outcome.specs.declared.Outcome.{Outcome}
use Rattle.outcome.specs.declared.Refusal.{Refusal}
use Rattle.outcome.specs.declared.Refusal.TheVariants.{OutsideLimits, NotFinite}
use Rattle.outcome.specs.Numbers.{number_of}
use Rattle.envelope.specs.declared.EnvGen.{EnvGen}
use Rattle.envelope.specs.declared.Stage.TheVariants.{Idle}

-- document 01's number for each answer, 0 where nothing is refused
abbrev pub refusal_of : Result (Unit {0}) Refusal → ℕ
refusal_of (Ok _) = 0
refusal_of (Err reason) = number_of reason

-- "Limits: rate 8,000 to 192,000"
unfoldable pub rate_fits : ℕ → Bool
rate_fits rate = leb 8000 rate && leb rate 192000

-- what refusal 3 asks of the settings
unfoldable pub all_finite : Float → Float → Float → Float → Bool
all_finite a d s r = finite a && (finite d && (finite s && finite r))

-- "a record of zeros, Idle"
abbrev pub no_env : EnvGen
no_env = record { a = zero; d = zero; s = zero; r = zero; sr = zero; stage = Idle; level = zero; rel_from = zero }

abbrev pub refused_env : Refusal → Outcome EnvGen (Unit {0})
refused_env reason = record { state = no_env; reply = Err reason }

-- "a, d, r below 0 become 0; s is clamped to 0..1"
unfoldable pub settled : Float → Float → Float → Float → ℕ → EnvGen
settled a d s r rate = record {
  a = max_of a zero;
  d = max_of d zero;
  s = clamp_of s zero one;
  r = max_of r zero;
  sr = of_int binary32 (pos rate);
  stage = Idle;
  level = zero;
  rel_from = zero;
}

-- "refuses 2 for the rate, then 3 for a setting"
unfoldable pub new_env : Float → Float → Float → Float → ℕ → Outcome EnvGen (Unit {0})
new_env a d s r rate =
    cond (not (rate_fits rate)) (refused_env OutsideLimits)
    (cond (not (all_finite a d s r)) (refused_env NotFinite) (record { state = settled a d s r rate; reply = Ok tt }))
