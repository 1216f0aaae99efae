-- The roots: none is listed beyond that of 8, and each is the float nearest to the real root.
use Rattle.std.proofs.Common.{◌≡◌, ℕ, zero, suc, ◌+◌, ◌*◌, ◌^◌, ◌<◌, refl, sym, true, false, ltb, leb, arith, ltb-true, leb-true, get_or}
use Rattle.std.specs.Prelude.{Float}
use Rattle.std.specs.Float.{nan, binary32}
use Rattle.std.specs.Float.Ieee.{of_bits, round}
use lib.ListN.{get_or-eq_default}
use Rattle.float32.specs.Root.{root_of, roots, NearestRoot, RootsNearest}

pub listed : (n : ℕ) → get_or roots n nan ≡ root_of n
unfolding root_of
listed n = refl

pub none_past : (n : ℕ) → 8 < n → of_bits binary32 0x7fc0_0000 ≡ root_of n
unfolding root_of of_bits
none_past n h = sym (get_or-eq_default roots nan {n = n} (omega arith))

-- Each root is checked at its 24 digits by squares of whole numbers, which antt computes.
checked : (n p k : ℕ) (x : Float) → x ≡ round binary32 false p (2 ^ k) → leb (2 ^ 23) p ≡ true → ltb p (2 ^ 24) ≡ true
    → ltb (4 * (p * p) + 1) (4 * (n * 2 ^ (2 * k)) + 4 * p) ≡ true → ltb (4 * (n * 2 ^ (2 * k))) (4 * (p * p) + 4 * p + 1) ≡ true → NearestRoot n x
checked n p k x v a b c d = record { p = p; k = k; value = v; digits = (leb-true _ _ a, ltb-true _ _ b); above = ltb-true _ _ c; under = ltb-true _ _ d }

pub nearest : RootsNearest
unfolding RootsNearest root_of of_bits round
nearest zero h k = let z : ⊥ = omega arith in absurd z
nearest (suc zero) h k = checked 1 0x80_0000 23 _ refl refl refl refl refl
nearest (suc (suc zero)) h k = checked 2 0xb5_04f3 23 _ refl refl refl refl refl
nearest (suc (suc (suc zero))) h k = checked 3 0xdd_b3d7 23 _ refl refl refl refl refl
nearest (suc (suc (suc (suc zero)))) h k = checked 4 0x80_0000 22 _ refl refl refl refl refl
nearest (suc (suc (suc (suc (suc zero))))) h k = checked 5 0x8f_1bbd 22 _ refl refl refl refl refl
nearest (suc (suc (suc (suc (suc (suc zero)))))) h k = checked 6 0x9c_c471 22 _ refl refl refl refl refl
nearest (suc (suc (suc (suc (suc (suc (suc zero))))))) h k = checked 7 0xa9_53fd 22 _ refl refl refl refl refl
nearest (suc (suc (suc (suc (suc (suc (suc (suc zero)))))))) h k = checked 8 0xb5_04f3 22 _ refl refl refl refl refl
nearest (suc (suc (suc (suc (suc (suc (suc (suc (suc n))))))))) h k = let z : ⊥ = omega arith in absurd z
