-- What a voice adds to the mix, and what is written of the sums (document 01, "Copies, Plan and Mix": `render_block` in its order).
use Rattle.std.specs.Prelude.{◌≡◌, Bool, not, ◌||◌, List, ℕ, ◌+◌, ◌*◌, ◌≤◌, Float, length, take, drop}
use Rattle.stream.specs.declared.UnisonCopy.{UnisonCopy}
use Rattle.envelope.specs.declared.EnvGen.{EnvGen}
use Rattle.envelope.specs.Gates.{is_active, is_faded}
use Rattle.model.specs.Voices.{aged}
use Rattle.model.specs.Mix.{mixing, side_voice, interleave, on_left, on_right}
use Rattle.voice.specs.declared.Voice.{Voice}
use Rattle.voice.specs.View.{shown}

-- a block of n frames, 1,024 at most: n samples of each copy from p on, and a sum of each side for each frame
pub record Fits (v : Voice) (n p : ℕ) (samples left right : List Float) : Type 0 where
  pub frames : n ≤ 1024
  pub inputs : p + n * length (shown v).copies ≤ length samples
  pub left_sums : n ≤ length left
  pub right_sums : n ≤ length right

-- the sums of one side with the voice v added, whose samples stand from p on
abbrev pub added_voice : (UnisonCopy → Float) → Voice → ℕ → Float → List Float → ℕ → List Float → List Float
added_voice side v n trem samples p sums = (side_voice side n trem (mixing (drop p samples) sums) (shown v)).sums

-- r is the envelope of the voice v after the frames; the sums of both sides at entry and at exit
pub record AddedAs (v : Voice) (n : ℕ) (trem : Float) (samples : List Float) (p : ℕ) (left₀ right₀ left right : List Float) (r : EnvGen) : Type 0 where
  pub env : Fits v n p samples left₀ right₀ → r ≡ aged n v.env
  pub left_sums : Fits v n p samples left₀ right₀ → left ≡ added_voice on_left v n trem samples p left₀
  pub right_sums : Fits v n p samples left₀ right₀ → right ≡ added_voice on_right v n trem samples p right₀
  -- numbers of another size leave all as it is
  pub refused : (Fits v n p samples left₀ right₀ → ⊥) → (r ≡ v.env) × (left ≡ left₀) × (right ≡ right₀)

-- the voice with another envelope
unfoldable pub with_env : Voice → EnvGen → Voice
with_env v env = record {
  handle = v.handle;
  note = v.note;
  copies = v.copies;
  copy_count = v.copy_count;
  built_hz = v.built_hz;
  env = env;
  gain = v.gain;
  releasing = v.releasing;
  sustained = v.sustained;
}

-- two places of the output for each of m frames, and a sum of each side
pub record FitsOut (m : ℕ) (left right out : List Float) : Type 0 where
  pub left_sums : m ≤ length left
  pub right_sums : m ≤ length right
  pub places : 2 * m ≡ length out

-- "left first"
pub record PutAs (left right : List Float) (m : ℕ) (old new : List Float) : Type 0 where
  pub written : FitsOut m left right old → new ≡ interleave (take m left) (take m right)
  pub refused : (FitsOut m left right old → ⊥) → new ≡ old

-- `retain`: a voice stays while its envelope is neither Idle nor faded
abbrev pub goes_on : EnvGen → Bool
goes_on env = not (not (is_active env) || is_faded env)
