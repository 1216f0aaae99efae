use mathlib.Core.Path.{◌≡◌, ap}
use Prim.Native.Nat.{◌<◌}
use native.Mathlib.Omega.{arith}
use borrow.Author.Rules.{rules}
use lib.ListN.{length, length-take}
use Rattle.held.proofs.Holding.{keeping_start, keeping-more, keeping-skip, keeping-end}
use Rattle.held.proofs.Held.without.Goals as goal
use Rattle.held.proofs.Held.without.Goals.{then-other-note, else-other-note}

pub loop-other-init : goal.loop-other-init
loop-other-init c = keeping_start _ _ _ (search rules)

pub loop-other-preserved : goal.loop-other-preserved
loop-other-preserved c =
    let h = c.args.self.now in
    let s = c.as_slice-other-items in
    let size = length-take h.count h.notes in
    let few = ap length s.ensures in
    let long : length h.notes ≡ 256 = search rules in
    let k = c.loop-other.invariant in
    let small : c.loop-other.count < 256 = omega arith in
    (elim c.if-other-note.branch [
      | then-other-note w ↦
          rw (w.notes-is, w.count-is) (keeping-more s.result.now _ _ _ _ (record { 0 = 0 }) c.loop-other-test.true k (omega arith) small w.if-other-note.true)
      | else-other-note w ↦ rw (w.notes-is, w.count-is) (keeping-skip s.result.now _ _ _ _ (record { 0 = 0 }) c.loop-other-test.true k w.if-other-note.false)
    ])

pub returns : goal.returns
returns c =
    let h = c.args.self.now in
    let s = c.as_slice-other-items in
    let size = length-take h.count h.notes in
    let few = ap length s.ensures in
    let long : length h.notes ≡ 256 = search rules in
    let k = c.loop-other.invariant in
    let o = k.order in
    let q = c.loop-other.auto in
    let e = keeping-end s.result.now c.args.note _ c.loop-other.other-index _ c.loop-other-test.false (omega arith) k in
    rw s.ensures at e
