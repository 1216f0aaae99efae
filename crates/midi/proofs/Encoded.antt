-- The bytes of a message that carries its status give its event, whatever was read before.
use Prim.Native.Nat.{ℕ, ◌+◌, ◌*◌, ◌/◌, ◌%◌, ◌<◌, ◌≤◌}
use mathlib.Core.Path.{◌≡◌, refl, ap, ◌∙◌}
use mathlib.Core.Bool.{true, false}
use mathlib.Core.List.{List, [], ◌∷◌, ◌++◌, map, Mem, mem-cons_self, mem-cons_of_mem}
use native.Mathlib.Omega.{arith}
use Rattle.midi.specs.Bytes.{takes_one}
use Rattle.midi.specs.Messages.{Message, note_off, note_on, key_pressure, control, program, channel_pressure, pitch_bend, event, message, encoded, Sendable}
use Rattle.midi.specs.Steps.{scan_of}
use Rattle.midi.specs.Streams.{answers_of, encoded_all}
use Rattle.midi.specs.Answers.{told, ended}
use Rattle.midi.specs.declared.Part.TheVariants.{Nothing, Status, First}
use Rattle.midi.specs.declared.Scan.{Scan}
use Rattle.midi.proofs.Feeding.{amid, under, over, fed-status, fed-data}
use Rattle.midi.proofs.Scanned.{scanned}
use Rattle.midi.proofs.Whole.{whole}

module _ (scan : Scan) (q : ℕ) (p : 0x80 ≤ q) (h : q ≤ 0xEF) (rest : List ℕ) where
  one : (a : ℕ) → takes_one q ≡ true → a < 0x80 → scanned scan (q ∷ a ∷ rest) ≡ told (event (message q a 0)) ∷ scanned (scan_of q Nothing) rest
  one a t ha = rw (fed-status scan q p h, fed-data q Status a p ha, t)

  two : (a b : ℕ) → takes_one q ≡ false → a < 0x80 → b < 0x80
      → scanned scan (q ∷ a ∷ b ∷ rest) ≡ told (event (message q a b)) ∷ scanned (scan_of q Nothing) rest
  two a b t ha hb = rw (fed-status scan q p h, fed-data q Status a p ha, t, fed-data q (First a) b p hb)

-- the kind of a status 16 * k + channel
kind-is : (channel : ℕ) → channel < 16 → (k : ℕ) → (16 * k + channel) / 16 ≡ k
kind-is channel h k = omega arith

-- A message's bytes give its event, and leave its status running.
module _ (scan : Scan) (rest : List ℕ) where
  gives : (m : Message) → Sendable m → (q : ℕ) × (scanned scan (encoded m ++ rest) ≡ told (event m) ∷ scanned (scan_of q Nothing) rest)
  gives (note_off c n v) s =
      let q = 0x80 + c in
      (q, two scan q (omega arith) (omega arith) rest n v (under 0xC0 0xDF q (omega arith)) s.1 s.2 ∙ rw (kind-is c s.0 0x8))
  gives (note_on c n v) s =
      let q = 0x90 + c in
      (q, two scan q (omega arith) (omega arith) rest n v (under 0xC0 0xDF q (omega arith)) s.1 s.2 ∙ rw (kind-is c s.0 0x9))
  gives (key_pressure c n p) s =
      let q = 0xA0 + c in
      (q, two scan q (omega arith) (omega arith) rest n p (under 0xC0 0xDF q (omega arith)) s.1 s.2 ∙ rw (kind-is c s.0 0xA))
  gives (control c k v) s =
      let q = 0xB0 + c in
      (q, two scan q (omega arith) (omega arith) rest k v (under 0xC0 0xDF q (omega arith)) s.1 s.2 ∙ rw (kind-is c s.0 0xB))
  gives (program c n) s =
      let q = 0xC0 + c in
      (q, one scan q (omega arith) (omega arith) rest n (amid 0xC0 0xDF q (omega arith) (omega arith)) s.1 ∙ rw (kind-is c s.0 0xC))
  gives (channel_pressure c p) s =
      let q = 0xD0 + c in
      (q, one scan q (omega arith) (omega arith) rest p (amid 0xC0 0xDF q (omega arith) (omega arith)) s.1 ∙ rw (kind-is c s.0 0xD))
  gives (pitch_bend c w) s =
      let q = 0xE0 + c in
      let joined : w % 128 + 128 * (w / 128) ≡ w = omega arith in (
        q,
        two scan q (omega arith) (omega arith) rest (w % 128) (w / 128) (over 0xC0 0xDF q (omega arith) (omega arith)) (omega arith) (omega arith)
            ∙ rw (kind-is c s.0 0xE, joined),
      )

scanned-back : (ms : List Message) (status : ℕ) → ((m : Message) → Mem m ms → Sendable m)
    → scanned (scan_of status Nothing) (encoded_all ms) ≡ map (λ m. told (event m)) ms ++ (ended ∷ [])
scanned-back [] status s = refl
scanned-back (m ∷ ms) status s =
    let g = gives (scan_of status Nothing) (encoded_all ms) m (s m mem-cons_self) in
    g.1 ∙ ap (◌∷◌ (told (event m))) (scanned-back ms g.0 (λ n i. s n (mem-cons_of_mem m i)))

pub read_back : (ms : List Message) → ((m : Message) → Mem m ms → Sendable m) → answers_of (encoded_all ms) ≡ map (λ m. told (event m)) ms ++ (ended ∷ [])
read_back ms s = whole (encoded_all ms) ∙ scanned-back ms 0 s
