use Prim.Native.Nat.{◌≤◌, ◌-◌}
use Rattle.levels.specs.Runs.{Ran}
use Rattle.levels.proofs.fill_all.Given as goal

abbrev pub invariant-loop-f : goal.invariant-loop-f
invariant-loop-f l = (l.f ≤ l.n) × Ran l.fn.e l.by l.initial.levels l.levels l.env l.f

abbrev pub decreases-loop-f : goal.decreases-loop-f
decreases-loop-f l = l.n - l.f
