-- What a byte does: one law for each class of bytes.
use Prim.Native.Nat.{ℕ, ◌≤◌, ◌<◌}
use mathlib.Core.Path.{◌≡◌}
use mathlib.Core.Bool.{true, false}
use native.Mathlib.Omega.{arith}
use Rattle.std.proofs.lemmas.Bool.Decides.{nat_tests}
use Rattle.midi.specs.Bytes.{within}
use Rattle.midi.specs.Steps.{scan_of, data_byte, fed}
use Rattle.midi.specs.declared.Part.{Part}
use Rattle.midi.specs.declared.Part.TheVariants.{Status}
use Rattle.midi.specs.declared.Scan.{Scan}
use Rattle.std.specs.declared.ops.ControlFlow.TheVariants.{Continue}

module _ (low high b : ℕ) where
  pub amid : low ≤ b → b ≤ high → within low high b ≡ true
  amid p q = grind (arith, nat_tests)

  pub under : b < low → within low high b ≡ false
  under p = grind (arith, nat_tests)

  pub over : low ≤ b → high < b → within low high b ≡ false
  over p q = grind (arith, nat_tests)

pub fed-status : (scan : Scan) (b : ℕ) → 0x80 ≤ b → b ≤ 0xEF → fed scan b ≡ Continue (scan_of b Status)
fed-status scan b p q = grind (arith, nat_tests)

pub fed-data : (q : ℕ) (part : Part) (b : ℕ) → 0x80 ≤ q → b < 0x80 → fed (scan_of q part) b ≡ data_byte q part b
fed-data q part b p h = grind (arith, nat_tests)
