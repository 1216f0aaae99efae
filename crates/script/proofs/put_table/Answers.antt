use Rattle.script.proofs.Prints.{puts, puts_then, table_length}
use Rattle.script.proofs.put_table.Goals as goal

-- `script::put_table` meets its contract.

pub returns : goal.returns
returns c = record {
  puts = puts_then _ _ _ _ _ _ _ _ c.put_rows-next.ensures.puts (puts _ _ _ _ _ c.put_literal.ensures);
  len_bound = table_length _ c.put_rows-next.ensures.len_bound;
}
