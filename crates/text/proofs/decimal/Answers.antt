use native.Mathlib.Omega.{arith}
use Rattle.text.proofs.Decimals.{cut, none-led, not-text, none-read, none-large, some-read, fails, gives, parse-none, parse-some}
use Rattle.text.proofs.decimal.Goals.{else-digits-gt1-via-then-digits-gt1+else-digits-eq48, else-digits-gt1-via-else-digits-gt1}
use Rattle.text.proofs.decimal.Goals as goal

-- `text::decimal` meets its contract: one law for each way out.

pub returns-then-digits-eq48 : goal.returns-then-digits-eq48
returns-then-digits-eq48 c =
    let s = cut _ _ _ _ _ c.min.ensures c.digits_len.ensures.value c.split_at.ensures.front c.split_at.ensures.back in
    none-led _ _ _ _ c.ranges.most.fits s (omega arith) (omega arith)

pub returns-in_err-ok : goal.returns-in_err-ok
returns-in_err-ok c =
    let s = cut _ _ _ _ _ c.min.ensures c.digits_len.ensures.value c.split_at.ensures.front c.split_at.ensures.back in
    rw c.from_residual.ensures (not-text _ _ _ _ c.ranges.most.fits s (fails _ _ _ _ c.from_utf8.ensures.cases c.in_err-ok.ensures.value))

pub returns-in_err-value : goal.returns-in_err-value
returns-in_err-value c =
    let s = cut _ _ _ _ _ c.min.ensures c.digits_len.ensures.value c.split_at.ensures.front c.split_at.ensures.back in
    let t = (gives _ _ _ _ c.from_utf8.ensures.cases c.in_ok-ok.ensures.value).0 in
    let p = parse-none c.in_ok-ok.field-0.now _ t _ c.parse.ensures.value.0 c.in_err-value.ensures.value in
    rw c.from_residual-in_err-value.ensures (none-read _ _ _ _ c.ranges.most.fits s p)

pub returns-then-value-most : goal.returns-then-value-most
returns-then-value-most c =
    let s = cut _ _ _ _ _ c.min.ensures c.digits_len.ensures.value c.split_at.ensures.front c.split_at.ensures.back in
    let t = (gives _ _ _ _ c.from_utf8.ensures.cases c.in_ok-ok.ensures.value).0 in
    let p = parse-some c.in_ok-ok.field-0.now _ t _ _ c.parse.ensures.value.0 c.in_ok-value.ensures.value in
    none-large _ _ _ _ c.ranges.most.fits s _ p.1 c.if-value-most.true

pub returns : goal.returns
returns c =
    let s = cut _ _ _ _ _ c.min.ensures c.digits_len.ensures.value c.split_at.ensures.front c.split_at.ensures.back in
    let t = (gives _ _ _ _ c.from_utf8.ensures.cases c.in_ok-ok.ensures.value).0 in
    let p = parse-some c.in_ok-ok.field-0.now _ t _ _ c.parse.ensures.value.0 c.in_ok-value.ensures.value in
    some-read _ _ _ _ c.ranges.most.fits s _ p.0 p.1 c.if-value-most.false
    (λ k z. elim c.else-digits-gt1.branch [
      | else-digits-gt1-via-then-digits-gt1+else-digits-eq48 w ↦ w.if-digits-eq48.false z
      | else-digits-gt1-via-else-digits-gt1 w ↦ let q = w.if-digits-gt1.false in omega arith
    ])
