use Rattle.voice.specs.View.{shown}
use Rattle.script.specs.Answers.{row_text}
use Rattle.script.proofs.Prints.{puts, puts_then, flag, row-length}
use Rattle.script.proofs.put_row.Goals as goal

-- `script::put_row` meets its contract.

pub returns : goal.returns
unfolding row_text shown
returns c =
    let e = puts_then _ _ _ _ _ _ _ _ (rw c.to_bits.ensures at c.put_word-e.ensures) (puts _ _ _ _ _ c.put_literal.ensures) in
    let d = puts_then _ _ _ _ _ _ _ _ (rw (flag _ _ c.from-3.ensures) at c.put_decimal-d.ensures.puts) e in
    let b = puts_then _ _ _ _ _ _ _ _ (rw (flag _ _ c.from-2.ensures) at c.put_decimal-c.ensures.puts) d in
    let a = puts_then _ _ _ _ _ _ _ _ (rw c.from.ensures at c.put_decimal-b.ensures.puts) b in
    record {
      puts = puts_then _ _ _ _ _ _ _ _ c.put_decimal-a.ensures.puts a;
      v_len_bound = row-length (shown c.args.v) c.put_decimal-a.ensures.n_in_bounds (rw c.from.ensures at c.put_decimal-b.ensures.n_in_bounds);
    }
