use mathlib.Core.Path.{◌≡◌}
use Prim.Native.Nat.{◌≤◌}
use lib.ListN.{length}
use Rattle.table.proofs.Mixing.{UnderWay, mixed_to}
use Rattle.table.proofs.Table.mix.Given as goal

abbrev pub invariant-loop-i : goal.invariant-loop-i
invariant-loop-i l =
    (l.gone ≤ l.i) × (length l.left ≡ length l.initial.left) × (length l.right ≡ length l.initial.right)
    × UnderWay (mixed_to l.n l.trem l.initial.self l.samples l.initial.left l.initial.right l.i) l.initial.self.voices l.samples l.initial.ended l.left l.right l.ended l.self.voices l.gone l.at l.i
