-- The bytes so far took the line to where it is, and the lines that they ended were answered.
use Rattle.std.proofs.Common.{◌≡◌, [], take, Ok}
use Rattle.std.specs.Fn.{CalledAt}
use Rattle.std.specs.List.{fold, FoldsTo}
use Rattle.lines.specs.Lines.{after}
use Rattle.lines.proofs.Line.take.Given as goal

abbrev pub invariant-loop-byte : goal.invariant-loop-byte
invariant-loop-byte g l =
    goal.F-IsAlwaysCallable g l.each
    × (l.self ≡ (fold (after g.row.N) ([], l.initial.self) (take l.byte-index l.block)).1)
    × FoldsTo (λ f line h. CalledAt g.F.FnMut f line (Ok tt) h) l.initial.each (fold (after g.row.N) ([], l.initial.self) (take l.byte-index l.block)).0 l.each
