use mathlib.Core.Path.{refl}
use Prim.Native.Nat.{◌+◌}
use native.Mathlib.Omega.{arith}
use Rattle.curves.proofs.Standing.{stands-glides}
use Rattle.table.proofs.Sizes.{voices-long}
use Rattle.table.proofs.Gliding.{Gliding, glide-moves, glide-stands, glided-table}
use Rattle.table.proofs.Table.glide.Goals as goal
use Rattle.table.proofs.Table.glide.Goals.{then-stands, else-stands}

pub loop-i-preserved : goal.loop-i-preserved
loop-i-preserved c =
    let p = c.loop-i.invariant in
    let rows = c.copies_shown.ensures.1 in
    let less = c.loop-i-test.true in
    let few = voices-long c.args.self c.well_formed.0 in
    let next : Gliding c.min-n.result c.min-count.result c.args.self.voices c.args.curve.now
    c.if-stands.self.voices c.if-stands.curve c.min-end.result (c.loop-i.i + 1) =
    (elim c.if-stands.branch [
      | then-stands y ↦ rw (y.curve-is, y.self-is)
          (glide-stands _ _ _ _ (omega arith) p.2 less rows c.min-end.ensures refl refl (stands-glides _ _ _ _ _ c.stands.ensures y.if-stands.true y.write_standing.ensures))
      | else-stands y ↦ rw (y.curve-is, y.self-is)
          (glide-moves _ _ _ _ (omega arith) p.2 less rows c.min-end.ensures refl refl _ y.glide_voice.ensures)
    ]) in
    (p.0, p.1, next)

pub returns : goal.returns
returns c =
    let t = c.args.self in
    let p = c.loop-i.invariant in
    glided-table _ _ _ t _ (voices-long t c.well_formed.0) c.min-n.ensures c.min-count.ensures p.2 (omega arith)
