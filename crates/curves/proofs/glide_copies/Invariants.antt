use mathlib.Core.List.{flat_map}
use mathlib.Core.Path.{◌≡◌}
use Prim.Native.Nat.{◌*◌, min}
use lib.ListN.{take}
use Rattle.lists.specs.Prefix.{mapped}
use Rattle.stream.specs.Pitch.{glided, curve as curve_of}
use Rattle.curves.proofs.glide_copies.Given as goal

abbrev pub invariant-loop-i : goal.invariant-loop-i
invariant-loop-i l =
    (l.copies ≡ mapped (glided l.frames) (min l.n l.i) l.initial.copies)
    × (take (l.frames * min l.n l.i) l.curve ≡ flat_map (curve_of l.frames) (take (min l.n l.i) l.initial.copies))
