use mathlib.Core.Path.{◌≡◌, sym, ◌∙◌}
use Prim.Native.Nat.{◌+◌, ◌-◌, ◌*◌, ◌≤◌, min}
use native.Mathlib.Nat.{mul-le-mul_left, mul-add}
use native.Mathlib.Omega.{arith}
use lib.ListN.{length, take, drop, length-take}
use Rattle.lists.specs.Parts.{part-size}
use Rattle.curves.proofs.Rows.{few-more, few-last}
use Rattle.curves.proofs.Standing.{head-glided}
use Rattle.curves.proofs.glide_copies.Goals as goal

pub write_flat-requires : goal.write_flat-requires
write_flat-requires c =
    let h = c.standing_first-head.ensures in
    let room = mul-le-mul_left c.args.frames h.0 in
    let many : length (take c.standing_first-head.result c.args.copies.now) ≡ c.standing_first-head.result = simp length-take (omega (arith, h.0)) in
    rw many (simp length-take (omega (arith, room, c.requires)))

pub loop-i-init : goal.loop-i-init
loop-i-init c =
    let m = c.standing_first-head.result in
    let h = c.standing_first-head.ensures in
    let at : min (length c.args.copies.now) m ≡ m = omega (arith, h.0) in
    rw at (head-glided c.args.frames m c.args.copies.now c.args.curve.now _ h.0 h.1 c.write_flat.ensures)

pub glide_few-requires : goal.glide_few-requires
glide_few-requires c =
    let n = c.args.frames in
    let i = c.loop-i.i in
    let e = c.min-end.result in
    let s : i + (e - i) ≡ e = omega arith in
    let all : n * e ≡ n * i + n * (e - i) = rw s at (mul-add n i (e - i)) in
    let last : e ≤ length c.args.copies.now = omega arith in
    let part : length (take (e - i) (drop i c.loop-i.copies)) ≡ e - i = part-size i (e - i) c.loop-i.copies (omega arith) in
    let m : n * e - n * i ≡ n * (e - i) = omega (arith, all) in
    let numbers = part-size (n * i) (n * (e - i)) c.loop-i.curve (omega (arith, mul-le-mul_left n last, all, c.requires)) in
    (rw part (omega arith), rw (part, m) (sym numbers))

pub loop-i-preserved : goal.loop-i-preserved
loop-i-preserved c =
    let l = c.loop-i in
    let xs = c.args.copies.now in
    let at : min (length xs) l.i ≡ l.i = omega arith in
    let next : min (length xs) (l.i + 4) ≡ c.min-end.result = omega arith in
    let i = rw at at l.invariant in
    rw next (few-more c.args.frames l.i c.min-end.result xs l.copies _ l.curve _ (omega (arith, c.requires)) (omega arith) (omega arith) i.0 i.1 c.glide_few.ensures)

pub returns-2 : goal.returns-2
returns-2 c =
    let n = c.args.frames in
    let l = c.loop-i in
    let e = c.min-end.result in
    let xs = c.args.copies.now in
    let at : min (length xs) l.i ≡ l.i = omega arith in
    let i = rw at at l.invariant in
    let all : e ≡ length xs = omega arith in
    let before : l.i ≤ e = omega arith in
    let h = mul-le-mul_left n before in
    let part : length (take (n * e - n * l.i) (drop (n * l.i) l.curve)) ≡ n * e - n * l.i = part-size (n * l.i) (n * e - n * l.i) l.curve (rw all (omega (arith, rw all at h, c.requires))) in
    few-last n l.i e xs l.copies _ l.curve _ (omega (arith, c.requires)) before all i.0 i.1 c.glide_few.ensures (c.glide_few.auto.curve ∙ part)
