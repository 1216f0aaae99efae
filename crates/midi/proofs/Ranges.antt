-- Data bytes are below 128, so what an answer carries is within its limits. The velocities are 128 numbers, tried one by one.
use Prim.Native.Nat.{ℕ, zero, suc, ◌+◌, ◌*◌, ◌<◌, ◌≤◌}
use mathlib.Core.Path.{◌≡◌, refl, subst}
use mathlib.Core.Bool.{Bool, true, false, ◌&&◌, cond}
use mathlib.Core.List.{List, [], ◌∷◌, Mem, mem-cons_self, mem-cons_of_mem}
use native.Mathlib.Omega.{arith}
use lib.Dec.{leb, ltb, eqb}
use Rattle.std.proofs.lemmas.Bool.{cond_both}
use Rattle.std.proofs.lemmas.Bool.Decides.{nat_tests, Decides-ltb, Decides-below_and}
use lib.Ieee.{binary32, to_bits, of_bits, of_int, div}
use lib.ListN.{drop}
use Rattle.midi.specs.Bytes.{within, real_time, exclusive_or_common, channel_status}
use Rattle.midi.specs.Answers.{told, Answer, values, limits}
use Rattle.midi.specs.Messages.{Message, note_off, note_on, key_pressure, control, program, channel_pressure, pitch_bend, velocity_of, event, kind, message}
use Rattle.midi.specs.Steps.{Fed, Stepped, scan_of, on_fed, answered, at_end, reading, stepped}
use Rattle.midi.specs.Streams.{AtMost}
use Rattle.midi.specs.declared.Event.{Event}
use Rattle.midi.specs.declared.Cursor.{Cursor}
use Rattle.midi.specs.declared.Part.{Part}
use Rattle.midi.specs.declared.Part.TheVariants.{Nothing, Status, First}
use Rattle.midi.specs.declared.Scan.{Scan}
use Rattle.std.specs.declared.ops.ControlFlow.TheVariants.{Continue}
use Rattle.midi.proofs.Scanned.{data-cases, fed-cases}
use Rattle.midi.proofs.Whole.{step-cases}

-- ---- the velocities

all_below : ℕ → (ℕ → Bool) → Bool
all_below zero p = true
all_below (suc n) p = p n && all_below n p

-- the bits are below those of 1 and one more
one_or_less : ℕ → Bool
one_or_less v = ltb (to_bits binary32 (velocity_of v)) 0x3F80_0001

all_one_or_less : all_below 128 one_or_less ≡ true
unfolding all_below one_or_less to_bits div of_int of_bits
all_one_or_less = refl

velocity-low : (v : ℕ) → v < 128 → to_bits binary32 (velocity_of v) ≤ 0x3F80_0000
unfolding all_below one_or_less
velocity-low v h =
    let P : ℕ → Type 0 = λ k. to_bits binary32 (velocity_of k) < 0x3F80_0001 in
    let all = Decides-below_and one_or_less P (λ n. all_below n one_or_less) (λ k. Decides-ltb _ _) refl (λ _. refl) 128 in
    omega (arith, all.0 all_one_or_less v h)

-- ---- messages of data bytes

abbrev Limited : Answer → Type 0
Limited a = AtMost (values a) (limits a)

abbrev Fits : Event → Type 0
Fits e = Limited (told e)

bit-low : (t : Bool) → cond t 1 0 ≤ 1
bit-low true = omega arith
bit-low false = omega arith

module _ (status a b : ℕ) (ha : a < 128) (hb : b < 128) where
  message-cases : (P : Message → Type 0)
      → ((c : ℕ) → P (note_off c a b)) → ((c : ℕ) → P (note_on c a b)) → ((c : ℕ) → P (key_pressure c a b)) → ((c : ℕ) → P (control c a b))
      → ((c : ℕ) → P (program c a)) → ((c : ℕ) → P (channel_pressure c a)) → ((c : ℕ) → P (pitch_bend c (a + 128 * b)))
      → P (message status a b)
  message-cases P x8 x9 x_a x_b x_c x_d x_e =
      cond_both (eqb (kind status) 0x8) _ _ P (λ _. x8 _)
      (λ _. cond_both (eqb (kind status) 0x9) _ _ P (λ _. x9 _)
      (λ _. cond_both (eqb (kind status) 0xA) _ _ P (λ _. x_a _)
      (λ _. cond_both (eqb (kind status) 0xB) _ _ P (λ _. x_b _)
      (λ _. cond_both (eqb (kind status) 0xC) _ _ P (λ _. x_c _)
      (λ _. cond_both (eqb (kind status) 0xD) _ _ P (λ _. x_d _) (λ _. x_e _))))))

  event-limited : Fits (event (message status a b))
  event-limited =
      message-cases (λ (m : Message). Fits (event m))
      (λ c. (omega arith, tt))
      (λ c. cond_both (eqb b 0) _ _ Fits (λ _. (omega arith, tt)) (λ _. (omega arith, (velocity-low b hb, tt))))
      (λ c. tt)
      (λ c. cond_both (eqb a 64) _ _ Fits (λ _. (bit-low (leb 64 b), tt)) (λ _. cond_both (within 123 127 a) _ _ Fits (λ _. tt) (λ _. tt)))
      (λ c. tt)
      (λ c. tt)
      (λ c. (omega arith, tt))

-- ---- readings of bytes

data-low : (b : ℕ) → b < 256 → real_time b ≡ false → exclusive_or_common b ≡ false → channel_status b ≡ false → b < 128
data-low b h r s t = grind (arith, nat_tests)

abbrev Low : Part → Type 0
Low Nothing = Unit
Low Status = Unit
Low (First a) = a < 128

end-limited : (from : Cursor) (part : Part) (place status : ℕ) → Limited (at_end from part place status).reply
end-limited from Nothing place status = tt
end-limited from Status place status = (omega arith, tt)
end-limited from (First a) place status = (omega arith, tt)

reading-limited : (bytes : List ℕ) → ((b : ℕ) → Mem b bytes → b < 256) → (from : Cursor) (scan : Scan) (place : ℕ) → Low scan.part
    → Limited (reading from scan place bytes).reply
reading-limited [] h from scan place l = end-limited from scan.part place scan.status
reading-limited (b ∷ rest) h from scan place l =
    let P : Fed → Type 0 = λ f. Limited (on_fed f (λ next. reading from next (place + 1) rest) (λ e. answered (told e) (place + 1) scan.status)).reply in
    let more : (next : Scan) → Low next.part → P (Continue next) =
    λ next l'. reading-limited rest (λ x m. h x (mem-cons_of_mem b m)) from next (place + 1) l' in
    let low : b < 256 = h b mem-cons_self in
    fed-cases P scan b (more scan l) (more (scan_of 0 Nothing) tt) (λ _. more (scan_of b Status) tt)
    (λ r s t. let d = data-low b low r s t in
    data-cases P scan.status scan.part b (event-limited scan.status b 0 d (omega arith)) (more (scan_of scan.status (First b)) d)
    (λ a q. event-limited scan.status a b (subst Low q l) d))

mem-drop : (n : ℕ) (l : List ℕ) {b : ℕ} → Mem b (drop n l) → Mem b l
mem-drop zero l m = m
mem-drop (suc n) [] m = m
mem-drop (suc n) (x ∷ l) m = mem-cons_of_mem x (mem-drop n l m)

pub limited : (stream : List ℕ) → ((b : ℕ) → Mem b stream → b < 256) → (c : Cursor)
    → AtMost (values (stepped stream c).reply) (limits (stepped stream c).reply)
limited stream h c =
    step-cases stream c (λ (r : Stepped). Limited r.reply) (omega arith, tt)
    (λ _ _. reading-limited (drop c.place stream) (λ b m. h b (mem-drop c.place stream m)) c (scan_of c.status Nothing) c.place tt)
