-- What the numbers of an accepted design are at most.
use mathlib.Core.Path.{◌≡◌}
use mathlib.Core.Bool.{true}
use Prim.Native.Nat.{ℕ, ◌≤◌}
use native.Mathlib.Omega.{arith}
use borrow.Author.Tests.{leb-true}
use lib.Dec.{leb, eqb}
use Rattle.lists.specs.Choose.{both, chosen}
use Rattle.envelope.specs.Start.{rate_fits}
use Rattle.design.specs.declared.InstrumentDesign.{InstrumentDesign}
use Rattle.design.specs.Accepted.{numbers_fit, floats_fit, is_accepted, copies_of}

module _ (d : InstrumentDesign) (e : is_accepted d ≡ true) where
  numbers : numbers_fit d ≡ true
  unfolding is_accepted
  numbers = (both (numbers_fit d) (floats_fit d) e).0

  pub rate-fits : rate_fits d.sample_rate ≡ true
  unfolding numbers_fit
  rate-fits = (both (rate_fits d.sample_rate) _ numbers).0

  voices-fit : (1 ≤ d.max_voices) × (d.max_voices ≤ 32) × (d.unison ≤ 8)
  unfolding numbers_fit
  voices-fit =
      let a = both (rate_fits d.sample_rate) _ numbers in
      let b = both (leb 1 d.max_voices) _ a.1 in
      let c = both (leb d.max_voices 32) (leb d.unison 8) b.1 in
      (leb-true 1 _ b.0, leb-true _ 32 c.0, leb-true _ 8 c.1)

  pub voices-some : 1 ≤ d.max_voices
  voices-some = voices-fit.0

  pub voices-most : d.max_voices ≤ 32
  voices-most = voices-fit.1

  pub copies-most : copies_of d ≤ 8
  unfolding copies_of
  copies-most = chosen (λ (k : ℕ). k ≤ 8) (eqb d.unison 0) 1 d.unison (λ _. omega arith) (λ _. voices-fit.2)
