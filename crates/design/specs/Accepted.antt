-- What a design must be (document 01, rows 2 and 3 of the table of refusals, and "Limits").
use Rattle.std.specs.Prelude.{Bool, not, ◌&&◌, ◌||◌, cond, ℕ, leb, eqb, Float, Result, Ok, Err}
use Rattle.std.specs.Float.Ieee.{lt}
use Rattle.std.specs.Float.Ieee.Scale.{finite}
use Rattle.float32.specs.Numbers.{zero}
use Rattle.envelope.specs.Start.{rate_fits, all_finite}
use Rattle.design.specs.declared.InstrumentDesign.{InstrumentDesign}
use Rattle.design.specs.declared.Modulation.{Modulation}
use Rattle.outcome.specs.declared.Refusal.{Refusal}
use Rattle.outcome.specs.declared.Refusal.TheVariants.{OutsideLimits, NotFinite}
use Rattle.outcome.specs.Numbers.{number_of}

-- document 01's number for each answer, 0 where nothing is refused
abbrev pub refusal_of : Result (Unit {0}) Refusal → ℕ
refusal_of (Ok _) = 0
refusal_of (Err reason) = number_of reason

-- an LFO counts where its depth and its rate are above 0
unfoldable pub lfo_active : Float → Float → Bool
lfo_active depth rate = lt zero depth && lt zero rate

-- `is_active`: some LFO counts
unfoldable pub modulated : Modulation → Bool
modulated m =
    lfo_active m.vibrato_cents m.vibrato_rate
    || (lfo_active m.tremolo_depth m.tremolo_rate || lfo_active m.filter_octaves m.filter_rate)

unfoldable pub modulation_finite : Modulation → Bool
modulation_finite m =
    all_finite m.vibrato_rate m.vibrato_cents m.tremolo_rate m.tremolo_depth && (finite m.filter_rate && finite m.filter_octaves)

-- "rate 8,000 to 192,000; max 1 to 32; unison 0 to 8"
unfoldable pub numbers_fit : InstrumentDesign → Bool
numbers_fit d = rate_fits d.sample_rate && (leb 1 d.max_voices && (leb d.max_voices 32 && leb d.unison 8))

-- every float of the design is a number
unfoldable pub floats_fit : InstrumentDesign → Bool
floats_fit d =
    all_finite d.amp.a d.amp.d d.amp.s d.amp.r && (finite d.unison_width && (finite d.glide && modulation_finite d.modulation))

-- "2, 3 at the start"
unfoldable pub design_reply : InstrumentDesign → Result (Unit {0}) Refusal
design_reply d = cond (not (numbers_fit d)) (Err OutsideLimits) (cond (not (floats_fit d)) (Err NotFinite) (Ok tt))

-- an accepted design
unfoldable pub is_accepted : InstrumentDesign → Bool
is_accepted d = numbers_fit d && floats_fit d

-- "unison 0 to 8, where 0 acts as 1"
unfoldable pub copies_of : InstrumentDesign → ℕ
copies_of d = cond (eqb d.unison 0) 1 d.unison
