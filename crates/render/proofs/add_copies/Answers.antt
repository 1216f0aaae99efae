use mathlib.Core.Path.{◌≡◌, refl, ◌∙◌}
use mathlib.Core.List.{◌++◌}
use Prim.Native.Nat.{◌+◌, ◌-◌, ◌*◌, ◌≤◌}
use native.Mathlib.Nat.{mul-add}
use native.Mathlib.Omega.{arith}
use lib.ListN.{length, take, drop, length-drop, length-append}
use Rattle.std.specs.Slice.Iter.{chunks_rest}
use Rattle.std.proofs.lemmas.List.{take_rest}
use Rattle.model.specs.Mix.{on_left, on_right}
use Rattle.render.proofs.Turns.{few-turn}
use Rattle.render.proofs.add_copies.Goals as goal

pub loop-few-preserved : goal.loop-few-preserved
loop-few-preserved c =
    let x = c.args in
    let l = c.loop-few in
    let few = c.in-Some.few.now in
    let before = chunks_rest l.few-iterator in
    let later = chunks_rest c.next.new.self in
    let xs = l.rest.now in
    let k = x.n * length few in
    let s = c.in-Some.ensures.steps in
    let parts : before ≡ few ++ later = s.1.0 in
    let i = l.invariant in
    let e = rw (take_rest xs x.a) at c.add_few.ensures in
    let count : length before ≡ length few + length later = rw (parts, length-append) refl in
    let all = mul-add x.n (length few) (length later) in
    let old : x.n * (length few + length later) ≤ length xs = rw count at i.1 in
    let room : x.n * length later ≤ length (take (length xs - k) (drop k xs)) = rw (take_rest xs k, length-drop) (omega (arith, all, old)) in (
      s.0 ∙ i.0,
      room,
      few-turn on_left x.n _ x.levels.now x.a xs l.left _ _ few later before parts e.on_left i.2,
      few-turn on_right x.n _ x.levels.now x.a xs l.right _ _ few later before parts e.on_right i.3,
    )
