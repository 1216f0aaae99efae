-- The rule of the frequency table (document 01, "note.rs", the sentences that begin "Rule" and "Entry 69").
use Rattle.std.specs.Prelude.{◌≡◌, true, ℕ, ◌+◌, ◌*◌, ◌-◌, ◌^◌, ◌≤◌, ◌<◌, Float}
use Rattle.std.specs.Float.{binary32}
use Rattle.std.specs.Float.Ieee.{of_bits}
use Rattle.std.specs.Float.Ieee.Positive.{num, den, positive}
use Rattle.note.specs.Frequency.{freq_of}

-- x = num / den is within one part in 2 ^ 20 of 440 × 2 ^ ((n - 69) / 12). Both sides of each inequality are raised to the twelfth power
-- and multiplied out: x ^ 12 against 440 ^ 12 × 2 ^ n / 2 ^ 69, times (1 ± 2 ^ -20) ^ 12.
pub record Tempered (n : ℕ) (x : Float) : Type 0 where
  pub number : positive x ≡ true
  pub at_least : (440 * (2 ^ 20 - 1) * den x) ^ 12 * 2 ^ n ≤ (2 ^ 20 * num x) ^ 12 * 2 ^ 69
  pub at_most : (2 ^ 20 * num x) ^ 12 * 2 ^ 69 ≤ (440 * (2 ^ 20 + 1) * den x) ^ 12 * 2 ^ n

pub record Temperament : Type 0 where
  pub near : (n : ℕ) → n < 256 → Tempered n (freq_of n)
  pub concert_a : freq_of 69 ≡ of_bits binary32 0x43dc_0000
