use mathlib.Core.List.{flat_map}
use mathlib.Core.Path.{◌≡◌}
use Prim.Native.Nat.{◌*◌}
use lib.ListN.{take}
use Rattle.lists.specs.Prefix.{mapped}
use Rattle.stream.specs.Pitch.{glided, curve as curve_of}
use Rattle.curves.proofs.glide_few.Given as goal

abbrev pub invariant-loop-i : goal.invariant-loop-i
invariant-loop-i l =
    (l.copies ≡ mapped (glided l.frames) l.i l.initial.copies)
    × (take (l.frames * l.i) l.curve ≡ flat_map (curve_of l.frames) (take l.i l.initial.copies))
