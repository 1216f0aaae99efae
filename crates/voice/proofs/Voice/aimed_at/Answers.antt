use mathlib.Core.Path.{◌≡◌, ap, ◌∙◌}
use Prim.Native.Nat.{ℕ}
use lib.Ieee.{Float, binary32, div}
use borrow.Author.Rules.{rules}
use Rattle.note.specs.Frequency.{freq_of}
use Rattle.stream.specs.Pitch.{glided_to}
use Rattle.model.specs.Types as model
use Rattle.model.specs.Voices.{with_copies, with_voice, aimed_at}
use Rattle.voice.specs.View.{shown, Seen, seen}
use Rattle.voice.specs.Changes.{on_seen}
use Rattle.voice.proofs.Voice.aimed_at.Goals as goal

-- with another note

abbrev noted : ℕ → model.Voice → model.Voice
noted n v = with_voice v n v.copies v.env v.gain v.releasing v.sustained

aims : (n : ℕ) (coeff hz : Float) (x : Seen) → hz ≡ freq_of n
    → on_seen (noted n) (on_seen (with_copies (glided_to (div binary32 hz x.voice.built_hz) coeff)) x) ≡ on_seen (aimed_at coeff n) x
unfolding on_seen aimed_at with_copies with_voice
aims n coeff hz x e = rw e

pub returns : goal.returns
unfolding seen shown on_seen with_voice
returns c = ap (on_seen (noted _)) (c.with_copies-v.ensures _ (λ a b p. search rules)) ∙ aims _ _ _ _ c.freq.ensures
