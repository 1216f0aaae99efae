use Prim.Native.Nat.{◌≤◌}
use Rattle.table.proofs.Gliding.{Gliding}
use Rattle.table.proofs.Table.glide.Given as goal

abbrev pub invariant-loop-i : goal.invariant-loop-i
invariant-loop-i l =
    (l.count ≤ 64) × (l.n ≤ 1024) × Gliding l.n l.count l.initial.self.voices l.initial.curve l.self.voices l.curve l.at l.i
