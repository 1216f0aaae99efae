-- What holds of every step, and of the steps over a whole stream.
use Prim.Native.Nat.{ℕ, zero, suc, ◌+◌, ◌-◌, ◌<◌, ◌≤◌}
use mathlib.Core.Path.{◌≡◌, refl, ap, sym, subst, ◌∙◌}
use mathlib.Core.Bool.{Bool, true, false, not, ◌||◌, cond}
use mathlib.Core.List.{List, [], ◌∷◌, ◌++◌}
use native.Mathlib.Omega.{arith}
use borrow.Author.Tests.{le-ltb, ltb-false, not-false}
use Rattle.std.proofs.lemmas.Bool.{cond_both, or_parts}
use lib.ListN.{length, drop, length-drop}
use Rattle.midi.specs.Bytes.{real_time, may_run}
use Rattle.outcome.specs.declared.Refusal.TheVariants.{NoSuchPlace}
use Rattle.midi.specs.Answers.{Answer, told, ended, number, is_event}
use Rattle.midi.specs.Steps.{Fed, Stepped, scan_of, fed, on_fed, refused, reading, beyond, stepped}
use Rattle.midi.specs.Streams.{answers, start, steps_for, answers_of}
use Rattle.midi.specs.declared.Event.{Event}
use Rattle.midi.specs.declared.Cursor.{Cursor}
use Rattle.midi.specs.declared.Part.TheVariants.{Nothing}
use Rattle.midi.specs.declared.Scan.{Scan}
use Rattle.std.specs.declared.ops.ControlFlow.TheVariants.{Continue, Break}
use Rattle.midi.proofs.Feeding.{amid}
use Rattle.midi.proofs.Scanned.{scanned, Found, found}

-- A step is the refusal of its cursor, or a reading of what is left, from a good cursor.
module _ (stream : List ℕ) (c : Cursor) where
  abbrev left : ℕ
  left = length (drop c.place stream)

  abbrev pub read : Stepped
  read = reading c (scan_of c.status Nothing) c.place (drop c.place stream)

  found-read : may_run c.status ≡ true
      → Found stream c c.place left read (scanned (scan_of c.status Nothing) (drop c.place stream))
  found-read e = found stream c (drop c.place stream) (scan_of c.status Nothing) c.place e refl

  ends_at : c.place ≤ length stream → c.place + left ≡ length stream
  ends_at h = omega (arith, length-drop c.place stream)

  pub step-cases : (P : Stepped → Type 0) → P (refused NoSuchPlace c) → (c.place ≤ length stream → may_run c.status ≡ true → P read)
      → P (stepped stream c)
  step-cases P bad good =
      cond_both (beyond stream c || not (may_run c.status)) _ _ P (λ _. bad)
      (λ e. let h = or_parts (beyond stream c) _ e in good (ltb-false _ _ h.0) (not-false _ h.1))

  pub moves : is_event (stepped stream c).reply ≡ true → (c.place < (stepped stream c).state.place) × ((stepped stream c).state.place ≤ length stream)
  moves =
      step-cases (λ (r : Stepped). is_event r.reply ≡ true → (c.place < r.state.place) × (r.state.place ≤ length stream)) (λ e. cc)
      (λ h e t. let f = (found-read e).goes_on t in (f.0, omega (arith, f.1, ends_at h)))

  pub at_length : (stepped stream c).reply ≡ ended → (stepped stream c).state.place ≡ length stream
  at_length =
      step-cases (λ (r : Stepped). r.reply ≡ ended → r.state.place ≡ length stream) (λ q. cc)
      (λ h e q. (found-read e).ends q ∙ ends_at h)

  pub kept : 0 < number (stepped stream c).reply → (stepped stream c).state ≡ c
  kept = step-cases (λ (r : Stepped). 0 < number r.reply → r.state ≡ c) (λ _. refl) (λ h e. (found-read e).kept)

-- Steps enough, from a good cursor, give the answers to the bytes that are left.
pub same_cond : {A : Type 0} (t : Bool) (a b r : A) → (t ≡ true → a ≡ b) → cond t a r ≡ cond t b r
same_cond true a b r f = f refl
same_cond false a b r f = refl

answers-scanned : (n : ℕ) (stream : List ℕ) (c : Cursor) → may_run c.status ≡ true → c.place ≤ length stream → length stream < n + c.place
    → answers n stream c ≡ scanned (scan_of c.status Nothing) (drop c.place stream)
answers-scanned zero stream c e h k = absurd (omega arith)
answers-scanned (suc n) stream c e h k =
    let r = read stream c in
    let f = found-read stream c e in
    rw (le-ltb _ _ h, e)
    (ap (◌∷◌ r.reply) (same_cond (is_event r.reply) _ _ []
    (λ t. let g = f.goes_on t in answers-scanned n stream r.state g.2 (omega (arith, g.1, ends_at stream c h)) (omega (arith, g.0))))
    ∙ f.same)

enough : (n : ℕ) (stream : List ℕ) → length stream < n → answers n stream start ≡ scanned (scan_of 0 Nothing) stream
enough n stream h = answers-scanned n stream start refl (omega arith) (omega arith)

pub whole : (stream : List ℕ) → answers_of stream ≡ scanned (scan_of 0 Nothing) stream
whole stream = enough (steps_for stream) stream (omega arith)

pub ends : (stream : List ℕ) (n : ℕ) → length stream < n → answers n stream start ≡ answers_of stream
ends stream n h = enough n stream h ∙ sym (whole stream)

-- A real-time byte leads on to where the reader was.
same-fed : (f : Fed) {more more' : Scan → List Answer} {stop stop' : Event → List Answer}
    → ((next : Scan) → more next ≡ more' next) → ((a : Event) → stop a ≡ stop' a) → on_fed f more stop ≡ on_fed f more' stop'
same-fed (Continue next) p q = p next
same-fed (Break a) p q = q a

scanned-ignored : (before after : List ℕ) (b : ℕ) → real_time b ≡ true → (scan : Scan)
    → scanned scan (before ++ (b ∷ after)) ≡ scanned scan (before ++ after)
scanned-ignored [] after b e scan = rw e
scanned-ignored (x ∷ before) after b e scan =
    same-fed (fed scan x) (λ next. scanned-ignored before after b e next)
    (λ a. ap (◌∷◌ (told a)) (scanned-ignored before after b e (scan_of scan.status Nothing)))

pub ignored : (before after : List ℕ) (b : ℕ) → 0xF8 ≤ b → b ≤ 0xFF → answers_of (before ++ (b ∷ after)) ≡ answers_of (before ++ after)
ignored before after b p q =
    whole (before ++ (b ∷ after)) ∙ scanned-ignored before after b (amid 0xF8 0xFF b p q) (scan_of 0 Nothing) ∙ sym (whole (before ++ after))

-- A loop over the steps: what is left to read behind an outcome, nothing once it is no event, gets less.
abbrev pub left_over : List ℕ → Stepped → ℕ
left_over stream o = cond (is_event o.reply) (suc (length stream) - o.state.place) 0

abbrev pub Inside : List ℕ → Stepped → Type 0
Inside stream o = is_event o.reply ≡ true → o.state.place ≤ length stream

pub inside : (stream : List ℕ) (c : Cursor) (o : Stepped) → o ≡ stepped stream c → Inside stream o
inside stream c o s = subst (Inside stream) (sym s) (λ e. (moves stream c e).1)

pub shrinks : (stream : List ℕ) (p : Stepped) (v : Event) → p.reply ≡ told v → Inside stream p
    → (o : Stepped) → o ≡ stepped stream p.state → left_over stream o < left_over stream p
shrinks stream p v q h o s =
    let low = h (rw q) in
    rw q (subst (λ r. left_over stream r < suc (length stream) - p.state.place) (sym s)
    (cond_both (is_event (stepped stream p.state).reply) _ _ (λ n. n < suc (length stream) - p.state.place)
    (λ t. let m = moves stream p.state t in omega (arith, low, m.0, m.1)) (λ _. omega (arith, low))))
