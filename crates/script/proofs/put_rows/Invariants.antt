use mathlib.Core.List.{flat_map}
use Prim.Native.Nat.{◌≤◌, ◌*◌}
use lib.ListN.{length, take}
use Rattle.script.specs.Lines.{Puts}
use Rattle.script.proofs.Prints.{row}
use Rattle.script.proofs.put_rows.Given as goal

abbrev pub invariant-loop-v : goal.invariant-loop-v
invariant-loop-v l = record {
  puts : Puts (flat_map row (take l.v-index l.live)) l.initial.out l.initial.next l.out l.next;
  short : length (flat_map row (take l.v-index l.live)) ≤ 57 * l.v-index;
}
