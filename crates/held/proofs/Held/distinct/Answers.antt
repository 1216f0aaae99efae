use mathlib.Core.Path.{sym, refl}
use native.Mathlib.Omega.{arith}
use Rattle.held.proofs.Flags.{flags-start, flags-more, flags-fail, flags-end}
use Rattle.held.proofs.Held.distinct.Goals as goal

pub loop-note-init : goal.loop-note-init
loop-note-init c = flags-start _ _ refl

pub returns-then-seen-place : goal.returns-then-seen-place
returns-then-seen-place c =
    let xs = c.as_slice-note-items.result.now in
    let twice = flags-fail xs c.loop-note.note-index (record { 0 = 0 }) c.loop-note.seen c.loop-note-test.true c.loop-note.invariant _ refl (omega arith) c.if-seen-place.true in
    rw c.as_slice-note-items.ensures at (sym twice)

pub loop-note-preserved : goal.loop-note-preserved
loop-note-preserved c =
    let xs = c.as_slice-note-items.result.now in
    flags-more xs c.loop-note.note-index (record { 0 = 0 }) c.loop-note.seen c.loop-note-test.true c.loop-note.invariant _ refl (omega arith) c.if-seen-place.false

pub returns : goal.returns
returns c =
    let xs = c.as_slice-note-items.result.now in
    let once = flags-end xs c.loop-note.note-index c.loop-note.seen c.loop-note-test.false c.loop-note.invariant in
    rw c.as_slice-note-items.ensures at (sym once)
