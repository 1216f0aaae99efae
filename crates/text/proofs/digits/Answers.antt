use mathlib.Core.Path.{◌≡◌, refl}
use native.Mathlib.Omega.{arith}
use Rattle.text.proofs.Words.{room_small, spelling-more, digits-short, digits_none, digits-done, chunk, chunk-length}
use Rattle.text.proofs.digits.Goals as goal

-- `text::digits` meets its contract: `Spelling` holds of what was read, one digit more a turn.

pub returns-in_err-digits : goal.returns-in_err-digits
returns-in_err-digits g c = rw c.from_residual.ensures (digits-short _ _ c.in_err-digits.ensures.cases)

pub returns-in_err-d : goal.returns-in_err-d
returns-in_err-d g c =
    let d = c.in_ok-digits.ensures.cases in
    let size = chunk-length _ _ _ _ d.0 d.1 d.2 in
    rw c.from_residual-in_err-d.ensures
    (digits_none _ _ _ _ size (chunk _ _ _ _ d.0 d.1) _ _ (omega arith) c.loop-byte.invariant c.in_err-d.ensures)

pub overflow_add-value : goal.overflow_add-value
overflow_add-value g c =
    let d = c.in_ok-digits.ensures.cases in
    omega (arith, c.loop-byte.invariant.small, room_small c.loop-byte.byte-index (omega arith), c.in_ok-d.ensures.yes _ refl)

pub loop-byte-preserved : goal.loop-byte-preserved
loop-byte-preserved g c =
    let e = c.in_ok-digits.ensures.cases in
    let size = chunk-length _ _ _ _ e.0 e.1 e.2 in
    let d = c.in_ok-d.ensures.yes _ refl in
    spelling-more _ _ _ _ (omega (arith, size)) c.loop-byte.invariant d.0 d.1

pub returns : goal.returns
returns g c =
    let d = c.in_ok-digits.ensures.cases in
    let size = chunk-length _ _ _ _ d.0 d.1 d.2 in
    let e : c.loop-byte.byte-index ≡ g.row.K = omega arith in
    digits-done _ _ _ _ size (chunk _ _ _ _ d.0 d.1) _ (rw e at c.loop-byte.invariant)
