-- What a rate within the limits is, and the laws that the functions name.
use mathlib.Core.Path.{◌≡◌}
use mathlib.Core.Bool.{true}
use Prim.Native.Nat.{ℕ, ◌≤◌, ◌^◌}
use native.Mathlib.Omega.{arith}
use borrow.Author.Tests.{leb-true}
use lib.Dec.{T, leb, le→leb}
use lib.Ieee.{in_float, binary32}
use lib.IntN.{pos}
use Rattle.std.proofs.lemmas.Iterator.{YieldsList-from_slice}
use Rattle.std.proofs.lemmas.Iterator.Search.{all_from_yields_List}
use Rattle.lists.specs.Choose.{both}
use Rattle.envelope.specs.Start.{rate_fits}

pub rate-most : (n : ℕ) → rate_fits n ≡ true → n ≤ 192000
unfolding rate_fits
rate-most n e = leb-true n 192000 (both (leb 8000 n) (leb n 192000) e).1

-- a rate within the limits is a float
pub rate-float : (n : ℕ) → rate_fits n ≡ true → T (in_float binary32 (pos n))
unfolding in_float
rate-float n e = le→leb n (2 ^ 24) (let h = rate-most n e in omega arith)

-- that `all` looks at each element
pub ruleset each = (YieldsList-from_slice, all_from_yields_List)

pub ruleset rates = (rate-float)
