-- From the checks and the parts of a call to what the call promises.
use Rattle.std.specs.Prelude.{Result, Ok, Err}
use mathlib.Core.Path.{◌≡◌, refl, ap, sym, ◌∙◌}
use mathlib.Core.Bool.{Bool, true, false}
use mathlib.Core.List.{List, [], ◌∷◌, map}
use Prim.Native.Nat.{ℕ, ◌-◌, ◌≤◌}
use native.Mathlib.Omega.{arith}
use borrow.Author.Tests.{leb-true, le-leb, eq-eqb, ne_eqb, eqb-true}
use lib.Dec.{leb, eqb}
use lib.Ieee.{Float}
use lib.ListN.{length, get_or, length-map, length-set, length-take}
use Rattle.lists.specs.Choose.{both, cond-true, cond-false}
use Rattle.outcome.specs.declared.Refusal.{Refusal}
use Rattle.outcome.specs.declared.Refusal.TheVariants.{
  Malformed,
  OutsideLimits,
  NotFinite,
  Frames,
  BlockOpen,
  NoBlock,
  LentLength,
  NoHandleLeft,
  NoSuchPlace,
  CutShort,
}
use Rattle.outcome.specs.Numbers.{number_of}
use Rattle.design.specs.declared.PlayMode.{PlayMode}
use Rattle.design.specs.declared.PlayMode.TheVariants.{Poly, Mono}
use Rattle.model.specs.Types as M
use Rattle.model.specs.Changes.{placed, tuned}
use Rattle.model.specs.Voices.{changed}
use Rattle.model.specs.Formed.{well_formed}
use Rattle.model.specs.Step.{is_mix, no_block, block_open, block_missing, frames_outside, length_wrong, handles_spent, refusal, controlled, accepted, step}
use Rattle.voice.specs.View.{Seen}
use Rattle.voice.specs.Changes.{on_seen}
use Rattle.table.specs.View.{seen_in, voices_in, in_room, changed_at, Holds}
use Rattle.table.specs.declared.Table.{Table}
use Rattle.table.proofs.Changes.{map-seen, changed-seen, room-map, room-set}
use Rattle.held.specs.View.{held_in}
use Rattle.held.specs.declared.Held.{Held}
use Rattle.instrument.specs.View.{view, roomy, counted, formed}
use Rattle.instrument.specs.Calls.{Called, reply_of, refusal_of, reply_to, CallAs, Gives, answered_as, refused_as, barred_by, placed_as, tuned_as, StepAs}
use Rattle.instrument.specs.declared.Instrument.{Instrument}
use Rattle.instrument.specs.declared.Reply.{Reply}

-- ---- the play mode

-- what is not Mono is Poly
pub is-poly : (m : PlayMode) → ((x : Bool) → m ≡ Mono x → ⊥) → m ≡ Poly
is-poly Poly h = refl
is-poly (Mono legato) h = absurd (h legato refl)

-- ---- the numbers of refusals

pub some-number : (r : Refusal) → 1 ≤ number_of r
some-number Malformed = omega arith
some-number OutsideLimits = omega arith
some-number NotFinite = omega arith
some-number Frames = omega arith
some-number BlockOpen = omega arith
some-number NoBlock = omega arith
some-number LentLength = omega arith
some-number NoHandleLeft = omega arith
some-number NoSuchPlace = omega arith
some-number CutShort = omega arith

abbrev refusals : List Refusal
refusals = Malformed ∷ OutsideLimits ∷ NotFinite ∷ Frames ∷ BlockOpen ∷ NoBlock ∷ LentLength ∷ NoHandleLeft ∷ NoSuchPlace ∷ CutShort ∷ []

-- the refusal of a number
abbrev pub refusal_from : ℕ → Refusal
refusal_from n = get_or refusals (n - 1) Malformed

pub refusal-back : (r : Refusal) → refusal_from (number_of r) ≡ r
refusal-back Malformed = refl
refusal-back OutsideLimits = refl
refusal-back NotFinite = refl
refusal-back Frames = refl
refusal-back BlockOpen = refl
refusal-back NoBlock = refl
refusal-back LentLength = refl
refusal-back NoHandleLeft = refl
refusal-back NoSuchPlace = refl
refusal-back CutShort = refl

-- 0 where a check passes
abbrev pub number_in : Result (Unit {0}) Refusal → ℕ
number_in (Ok _) = 0
number_in (Err refusal) = number_of refusal

-- what is no Err
pub passed : (x : Result (Unit {0}) Refusal) → ((r : Refusal) → x ≡ Err r → ⊥) → x ≡ Ok tt
passed (Ok tt) h = refl
passed (Err r) h = absurd (h r refl)

-- ---- what bars a call

-- what not being barred says
pub record Free (s : Instrument) : Type 0 where
  pub formed : formed s ≡ true
  pub counted : counted s ≡ true
  pub well : well_formed (view s) ≡ true
  pub closed : s.frames ≡ 0

pub free : (s : Instrument) → barred_by s ≡ Ok tt → Free s
unfolding barred_by formed
free s e = by (formed s) refl (eqb s.frames 0) refl
  where
    by : (a : Bool) → formed s ≡ a → (b : Bool) → eqb s.frames 0 ≡ b → Free s
    by true p true q = let f = both (counted s) (well_formed (view s)) p in record { formed = p; counted = f.0; well = f.1; closed = eqb-true s.frames 0 q }
    by true p false q = let z : ◌≡◌ {A = ℕ} 5 0 = ap number_in (rw (p, q) at e) in let n : ⊥ = omega arith in absurd n
    by false p b q = let z : ◌≡◌ {A = ℕ} 1 0 = ap number_in (rw p at e) in let n : ⊥ = omega arith in absurd n

-- by the answer of `barred`
pub free-by : (s : Instrument) (x : Result (Unit {0}) Refusal) → x ≡ barred_by s → ((r : Refusal) → x ≡ Err r → ⊥) → Free s
free-by s x e h = free s (sym e ∙ passed x h)

module _ (s : Instrument) (c : M.Call) where
  -- a state that bars the call gives its number
  bars : is_mix c ≡ false → (barred_by s ≡ Ok tt → ⊥) → refusal_of s c ≡ number_in (barred_by s)
  unfolding barred_by refusal_of refusal formed block_open no_block view
  bars m n = by (counted s) refl (well_formed (view s)) refl (eqb s.frames 0) refl
    where
      by : (a : Bool) → counted s ≡ a → (b : Bool) → well_formed (view s) ≡ b → (d : Bool) → eqb s.frames 0 ≡ d → refusal_of s c ≡ number_in (barred_by s)
      by true p true q true r = absurd (n (rw (p, q, r)))
      by true p true q false r = rw (p, q, r, m)
      by true p false q d r = rw (p, q)
      by false p b q d r = rw p

  pub bar-number : (x : Result (Unit {0}) Refusal) (r : Refusal) → is_mix c ≡ false → x ≡ barred_by s → x ≡ Err r → refusal_of s c ≡ number_of r
  bar-number x r m e w =
      let l = some-number r in
      bars m (λ k. let z : number_of r ≡ 0 = ap number_in (sym w ∙ e ∙ k) in omega arith) ∙ ap number_in (sym e ∙ w)

  -- a check that gives the number of the call's refusal
  pub check-number : (x : Result (Unit {0}) Refusal) (r : Refusal) → number_in x ≡ refusal_of s c → x ≡ Err r → refusal_of s c ≡ number_of r
  check-number x r e w = sym e ∙ ap number_in w

  pub check-passed : (x : Result (Unit {0}) Refusal) → number_in x ≡ refusal_of s c → ((r : Refusal) → x ≡ Err r → ⊥) → refusal_of s c ≡ 0
  check-passed x e h = sym e ∙ ap number_in (passed x h)

  -- a free state refuses only for what the call itself brings
  pub unrefused : Free s → is_mix c ≡ false → frames_outside (view s) c ≡ false → length_wrong (view s) c ≡ false → handles_spent (view s) c ≡ false → refusal_of s c ≡ 0
  unfolding refusal_of refusal block_open block_missing no_block view
  unrefused f m a b d = rw (f.counted, f.well, m, eq-eqb s.frames 0 f.closed, a, b, d)

  -- the only thing in the way is that no handle is left
  pub spent : Free s → is_mix c ≡ false → frames_outside (view s) c ≡ false → length_wrong (view s) c ≡ false → handles_spent (view s) c ≡ true → refusal_of s c ≡ 8
  unfolding refusal_of refusal block_open block_missing no_block view
  spent f m a b d = rw (f.counted, f.well, m, eq-eqb s.frames 0 f.closed, a, b, d)

  pub counted_of : refusal_of s c ≡ 0 → counted s ≡ true
  unfolding refusal_of
  counted_of e = by (counted s) refl
    where
      by : (b : Bool) → counted s ≡ b → counted s ≡ true
      by true q = q
      by false q = let z : ◌≡◌ {A = ℕ} 1 0 = rw q at e in let n : ⊥ = omega arith in absurd n

  -- a refused step, and an accepted one
  step-refused : (n : ℕ) → refusal (view s) c ≡ n → (n ≡ 0 → ⊥) → M.Reply.refused n ≡ (step (view s) c).reply
  unfolding step
  step-refused n e z = rw (e, ne_eqb n 0 z)

  step-accepted : refusal (view s) c ≡ 0 → accepted (view s) c ≡ step (view s) c
  unfolding step
  step-accepted e = sym (cond-true _ _ _ (eq-eqb (refusal (view s) c) 0 e))

  pub refusal-in : counted s ≡ true → refusal (view s) c ≡ refusal_of s c
  unfolding refusal_of
  refusal-in e = sym (cond-true _ _ _ e)

  pub refused-call : (r : Refusal) → refusal_of s c ≡ number_of r → StepAs s c (M.Reply.refused (number_of r)) s
  unfolding reply_to refusal_of
  refused-call r e = record { reply = by (counted s) refl; refused = λ _. refl; in_room = λ q. absurd (some (sym e ∙ q)); next = λ q. absurd (some (sym e ∙ q)) }
    where
      some : number_of r ≡ 0 → ⊥
      some q = let l = some-number r in omega arith

      by : (b : Bool) → counted s ≡ b → M.Reply.refused (number_of r) ≡ reply_to s c
      by true p = step-refused (number_of r) (refusal-in p ∙ e) some ∙ sym (cond-true _ _ _ p)
      by false p = ap M.Reply.refused (sym e ∙ cond-false _ _ _ p) ∙ sym (cond-false _ _ _ p)

  pub accepted-step : (said : M.Reply) (t : Instrument) → refusal_of s c ≡ 0 → said ≡ (accepted (view s) c).reply → counted t ≡ true → view t ≡ (accepted (view s) c).model → StepAs s c said t
  unfolding reply_to
  accepted-step said t e f g h =
      let k = counted_of e in
      let a = step-accepted (refusal-in k ∙ e) in
      record {
        reply = f ∙ ap (λ (o : M.Outcome). o.reply) a ∙ sym (cond-true _ _ _ k);
        refused = λ q. absurd (q e);
        in_room = λ _. g;
        next = λ _. h ∙ ap (λ (o : M.Outcome). o.model) a;
      }

  pub accepted-call : (r : Called) → refusal_of s c ≡ 0 → Gives (accepted (view s) c) r → CallAs s c r
  accepted-call r e g = accepted-step (reply_of r.reply) r.state e g.reply g.in_room g.next

-- ---- the next state

pub record Counts (s : Instrument) : Type 0 where
  pub voices64 : s.table.count ≤ 64
  pub held256 : s.held.count ≤ 256
  pub room : in_room (seen_in s.table) ≡ true

pub counts : (s : Instrument) → counted s ≡ true → Counts s
unfolding counted roomy
counts s e =
    let a = both (leb s.table.count 64) _ e in
    let b = both (leb s.held.count 256) (in_room (seen_in s.table)) a.1 in
    record { voices64 = leb-true _ 64 a.0; held256 = leb-true _ 256 b.0; room = b.1 }

pub few-voices : (s : Instrument) → formed s ≡ true → s.table.count ≤ 64
unfolding formed
few-voices s e = (counts s (both (counted s) (well_formed (view s)) e).0).voices64

pub roomy_of : (t : Table) (h : Held) → t.count ≤ 64 → h.count ≤ 256 → in_room (seen_in t) ≡ true → roomy t h ≡ true
unfolding roomy
roomy_of t h a b c = rw (le-leb t.count 64 a, le-leb h.count 256 b, c)

-- a table in room that stands for these voices
pub record Stands (vs : List M.Voice) (t : Table) : Type 0 where
  pub size : t.count ≤ 64
  pub room : in_room (seen_in t) ≡ true
  pub voices : voices_in t ≡ vs

module _ (s : Instrument) (e : counted s ≡ true) where
  pub stands_same : Stands (voices_in s.table) s.table
  stands_same = let k = counts s e in record { size = k.voices64; room = k.room; voices = refl }

  few : length (seen_in s.table) ≤ 64
  few = let k = (counts s e).voices64 in simp (length-map, length-take) (omega arith)

  pub stands-mapped : (g : M.Voice → M.Voice) (t : Table) → Holds (map (on_seen g) (seen_in s.table)) t → Stands (map g (voices_in s.table)) t
  stands-mapped g t h =
      let c = h.count in
      let f = few in
      let l : length (map (on_seen g) (seen_in s.table)) ≡ length (seen_in s.table) = length-map (seen_in s.table) (on_seen g) in
      record {
        size = omega arith;
        room = ap in_room h.seen ∙ room-map g (seen_in s.table) ∙ (counts s e).room;
        voices = ap (map (λ (x : Seen). x.voice)) h.seen ∙ map-seen g (seen_in s.table);
      }

  pub stands-changed : (g : M.Voice → M.Voice) (k : ℕ) (t : Table) → Holds (changed_at g k (seen_in s.table)) t → Stands (changed g k (voices_in s.table)) t
  stands-changed g k t h =
      let c = h.count in
      let f = few in
      let l : length (changed_at g k (seen_in s.table)) ≡ length (seen_in s.table) = length-set (seen_in s.table) k _ in
      record {
        size = omega arith;
        room = ap in_room h.seen ∙ room-set g k (seen_in s.table) ∙ (counts s e).room;
        voices = ap (map (λ (x : Seen). x.voice)) h.seen ∙ changed-seen g k (seen_in s.table);
      }

-- ---- a call that its state bars, one that is free, and the state that follows

pub barred-call : (s : Instrument) (c : M.Call) (x : Result (Unit {0}) Refusal) (refusal : Refusal) (r : Called) → is_mix c ≡ false
    → x ≡ barred_by s → x ≡ Err refusal → r ≡ refused_as s refusal → CallAs s c r
barred-call s c x refusal r m e w q = rw q (refused-call s c refusal (bar-number s c x refusal m e w))

pub control-call : (s : Instrument) (x : M.Control) (r : Called) → Free s → Gives (controlled (view s) x) r → CallAs s (M.Call.control x) r
unfolding handles_spent
control-call s x r f g = accepted-call s (M.Call.control x) r (unrefused s (M.Call.control x) f refl refl refl refl) g

-- the state as it was
pub gives_same : (s : Instrument) (reply : Reply) (o : M.Outcome) (r : Called) → Free s → r ≡ answered_as reply s → reply_of (Ok reply) ≡ o.reply → view s ≡ o.model → Gives o r
gives_same s reply o r f q a b = rw q (record { reply = a; in_room = f.counted; next = b })

-- another table, next handle, pedal and held notes
pub gives-placed : (s : Instrument) (vs : List M.Voice) (t : Table) (next : ℕ) (sustain : Bool) (held : Held) (reply : Reply) (o : M.Outcome) (r : Called)
    → r ≡ answered_as reply (placed_as s t next sustain held) → Stands vs t → held.count ≤ 256 → reply_of (Ok reply) ≡ o.reply
    → placed (view s) vs next sustain (held_in held) ≡ o.model → Gives o r
unfolding view counted placed_as placed
gives-placed s vs t next sustain held reply o r q a b e f =
    rw q (record { reply = e; in_room = roomy_of t held a.size b a.room; next = rw a.voices f })

-- another table, bend and brightness
pub gives-tuned : (s : Instrument) (vs : List M.Voice) (t : Table) (x y : Float) (reply : Reply) (o : M.Outcome) (r : Called)
    → r ≡ answered_as reply (tuned_as s t x y) → Stands vs t → counted s ≡ true → reply_of (Ok reply) ≡ o.reply
    → tuned (view s) vs x y ≡ o.model → Gives o r
unfolding view counted tuned_as tuned
gives-tuned s vs t x y reply o r q a k e f =
    rw q (record { reply = e; in_room = roomy_of t s.held a.size (counts s k).held256 a.room; next = rw a.voices f })
