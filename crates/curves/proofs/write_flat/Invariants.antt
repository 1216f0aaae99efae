use mathlib.Core.Path.{◌≡◌}
use mathlib.Core.List.{flat_map}
use Prim.Native.Nat.{◌*◌}
use lib.ListN.{take}
use Rattle.curves.specs.Glides.{flat}
use Rattle.curves.proofs.write_flat.Given as goal

abbrev pub invariant-loop-i : goal.invariant-loop-i
invariant-loop-i l = take (l.frames * l.i) l.curve ≡ flat_map (flat l.frames) (take l.i l.copies)
