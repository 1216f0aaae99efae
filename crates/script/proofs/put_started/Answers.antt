use Rattle.script.proofs.Prints.{puts, puts_then, started_length}
use Rattle.script.proofs.put_started.Goals as goal

-- `script::put_started` meets its contract.

pub returns : goal.returns
returns c =
    let x = c.args in
    let a = c.put_decimal-a.ensures in
    let b = c.put_decimal-b.ensures in
    let d = c.put_decimal-c.ensures in
    let e = puts_then _ _ _ _ _ _ _ _ d.puts (puts _ _ _ _ _ c.put_literal.ensures) in
    record {
      puts = puts_then _ _ _ _ _ _ _ _ a.puts (puts_then _ _ _ _ _ _ _ _ b.puts e);
      taken_len_bound = started_length x.handle x.killed x.taken a.n_in_bounds b.n_in_bounds d.n_in_bounds;
    }
