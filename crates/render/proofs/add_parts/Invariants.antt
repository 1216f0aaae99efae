use Prim.Native.Nat.{min}
use Rattle.voice.specs.View.{shown}
use Rattle.render.proofs.Parts.{Went}
use Rattle.render.proofs.add_parts.Given as goal

abbrev pub invariant-loop-a : goal.invariant-loop-a
invariant-loop-a l = Went l.n l.trem l.samples (shown l.v) l.initial.left l.initial.right (min l.n l.a) l.e l.left l.right
