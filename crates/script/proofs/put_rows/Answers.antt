use mathlib.Core.Path.{◌≡◌}
use mathlib.Core.List.{flat_map}
use native.Mathlib.Omega.{arith}
use lib.ListN.{length}
use Rattle.script.proofs.Prints.{puts, puts_none, rows_more, rows-done, rows-length-more, rows-length-done}
use Rattle.table.proofs.Sizes.{voices-long}
use Rattle.script.proofs.put_rows.Goals as goal

-- `script::put_rows` meets its contract: the rows of the voices so far stand behind the word.

pub loop-v-init : goal.loop-v-init
unfolding flat_map
loop-v-init c = record { puts = puts_none _ _; short = omega arith }

pub loop-v-preserved : goal.loop-v-preserved
loop-v-preserved c =
    let i = c.loop-v.invariant in
    let e = c.put_row-next.ensures in
    record {
      puts = rows_more c.live-live.result.now c.loop-v.v-index _ _ _ _ _ _ c.loop-v-test.true i.puts e.puts;
      short = rows-length-more c.live-live.result.now c.loop-v.v-index c.loop-v-test.true i.short e.v_len_bound;
    }

pub returns : goal.returns
returns c =
    let i = c.loop-v.invariant in
    let t = c.loop-v-test.false in
    let vs = c.live-live.result.now in
    let long : length c.args.table.voices ≡ 64 = voices-long c.args.table c.well_formed.0 in
    record {
      puts = rows-done vs _ c.loop-v.v-index _ _ _ _ _ c.live-live.ensures t (puts _ _ _ _ _ c.put_literal-next.ensures) i.puts;
      len_bound = rows-length-done vs c.args.table.voices _ c.loop-v.v-index long c.live-live.ensures c.loop-v.auto.v-index-end t i.short;
    }
