use mathlib.Core.Path.{◌≡◌, refl, ap, sym, ◌∙◌}
use mathlib.Core.List.{List, ◌++◌}
use Prim.Native.Nat.{ℕ, ◌<◌, ◌≤◌, ◌+◌}
use native.Mathlib.Numerals.{add-one}
use native.Mathlib.Omega.{arith}
use lib.Ieee.{Float}
use lib.ListN.{length-take, length, take, set}
use lib.Seq.{take_all, take-suc-set}
use Rattle.std.proofs.Common.{take_at}
use Rattle.stream.specs.declared.UnisonCopy.{UnisonCopy}
use Rattle.stream.specs.Copies.{new_copy, caught_up}
use Rattle.voice.specs.New.{made_copies}
use Rattle.voice.proofs.new_copies.Goals as goal

-- one copy more

grows : (width bend brightness : Float) (n k : ℕ) (copies : List UnisonCopy) (u : UnisonCopy) → k < length copies
    → take k copies ≡ made_copies width bend brightness n k → u ≡ caught_up bend brightness (new_copy k n width)
    → take (k + 1) (set copies k u) ≡ made_copies width bend brightness n (k + 1)
unfolding made_copies
grows width bend brightness n k copies u h e f = rw (add-one, take-suc-set copies k u, e, f)

-- the part that was written is all of the first n

ends : (made : ℕ → List UnisonCopy) (n k : ℕ) (xs copies rest : List UnisonCopy) → length xs ≡ 8 → n ≤ 8 → length (take n xs) ≤ k → k ≤ length (take n xs)
    → length copies ≡ length (take n xs) → take k copies ≡ made k → take n (copies ++ rest) ≡ made n
ends made n k xs copies rest h most low high long e =
    let s = length-take n xs in
    let q : k ≡ n = omega (arith, s) in
    take_at copies rest n (omega (arith, s)) ∙ (sym (take_all k copies (omega arith)) ∙ (e ∙ ap made q))

pub loop-k-init : goal.loop-k-init
unfolding made_copies
loop-k-init c = refl

pub loop-k-preserved : goal.loop-k-preserved
loop-k-preserved c =
    let a = c.args in
    let auto = c.loop-k.auto in
    grows _ _ _ a.n c.loop-k.k c.loop-k.copy-items c.catch_up.result (omega arith) c.loop-k.invariant (c.catch_up.ensures ∙ rw c.new.ensures)

pub returns : goal.returns
returns c =
    let a = c.args in
    let auto = c.loop-k.auto in
    ends (made_copies a.width a.bend a.brightness a.n) a.n c.loop-k.k _ _ _ refl c.requires c.loop-k-test.false auto.k-end auto.copy-items c.loop-k.invariant
