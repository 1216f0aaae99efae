use mathlib.Core.Path.{◌≡◌, refl}
use mathlib.Core.Bool.{Bool, true, ◌&&◌}
use Prim.Native.Nat.{ℕ, ◌+◌, ◌*◌, ◌-◌, ◌^◌, ◌<◌}
use borrow.Author.Tests.{leb-true}
use lib.Dec.{leb}
use lib.Ieee.{Float, nan, of_bits}
use lib.Ieee.Positive.{num, den, positive}
use Rattle.lists.specs.Choose.{both}
use Rattle.lists.specs.Every.{every, every-at}
use Rattle.note.specs.Frequency.{frequencies, freq_of}
use Rattle.note.specs.Temperament.{Tempered}
use Rattle.note.proofs.temperament.Goals as goal

-- The rule is one test that antt computes over the whole table, and one law that turns it into the rule of each entry.

abbrev near : ℕ → Float → Bool
near n x =
    positive x
    && (leb ((440 * (2 ^ 20 - 1) * den x) ^ 12 * 2 ^ n) ((2 ^ 20 * num x) ^ 12 * 2 ^ 69)
    && leb ((2 ^ 20 * num x) ^ 12 * 2 ^ 69) ((440 * (2 ^ 20 + 1) * den x) ^ 12 * 2 ^ n))

tempered : (n : ℕ) (x : Float) → near n x ≡ true → Tempered n x
tempered n x e =
    let a = both (positive x) _ e in
    let b = both _ _ a.1 in
    record { number = a.0; at_least = leb-true _ _ b.0; at_most = leb-true _ _ b.1 }

computed : every near 0 frequencies ≡ true
unfolding of_bits
computed = refl

all : (n : ℕ) → n < 256 → Tempered n (freq_of n)
unfolding freq_of
all n h = tempered n _ (every-at near nan frequencies n computed h)

pub returns : goal.returns
unfolding freq_of
returns c = record { near = all; concert_a = refl }
