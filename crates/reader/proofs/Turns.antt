-- The turns of a tally: what a step that gives an event leaves to be counted, and what the last step says.
use Prim.Native.Nat.{ℕ, zero, suc, ◌+◌, ◌<◌, ◌≤◌}
use mathlib.Core.Path.{◌≡◌, ap, sym, subst, ◌∙◌}
use mathlib.Core.Bool.{Bool, true, false, cond}
use mathlib.Core.List.{List, [], ◌∷◌}
use native.Mathlib.Omega.{arith}
use lib.Dec.{eqb}
use lib.ListN.{length}
use Rattle.midi.specs.Answers.{Answer, told, is_event}
use Rattle.midi.specs.Steps.{Stepped, stepped}
use Rattle.midi.specs.Streams.{answers, steps_for}
use Rattle.midi.specs.declared.Event.{Event}
use Rattle.midi.specs.declared.Cursor.{Cursor}
use Rattle.midi.proofs.Whole.{moves, same_cond, left_over, inside, shrinks}
use Rattle.reader.specs.Tallies.{kind, how_many, counts_of, plus, Within, last_step}
use Rattle.reader.specs.declared.Counts.{Counts}

-- Counts: one answer more.
more : (x k : ℕ) (a : Answer) (l : List Answer) → x + how_many k (a ∷ l) ≡ x + how_many k (a ∷ []) + how_many k l
more x k a l = omega arith

plus-more : (x : Counts) (a : Answer) (l : List Answer) → plus x (counts_of (a ∷ l)) ≡ plus (plus x (counts_of (a ∷ []))) (counts_of l)
plus-more x a l =
    λ i. record {
      ons = more x.ons 0 a l i;
      offs = more x.offs 1 a l i;
      pedals = more x.pedals 2 a l i;
      all_offs = more x.all_offs 3 a l i;
      bends = more x.bends 4 a l i;
      others = more x.others 5 a l i;
    }

cond-one : (t : Bool) → cond t 1 0 ≤ 1
cond-one true = omega arith
cond-one false = omega arith

up : (x k m n : ℕ) (a : Answer) → x ≤ m → m < n → x + how_many k (a ∷ []) ≤ n
up x k m n a p q = omega (arith, cond-one (eqb (kind a) k))

within_more : (x : Counts) (a : Answer) (m n : ℕ) → m < n → Within m x → Within n (plus x (counts_of (a ∷ [])))
within_more x a m n h (p, q, r, s, t, u) =
    (up _ 0 m n a p h, up _ 1 m n a q h, up _ 2 m n a r h, up _ 3 m n a s h, up _ 4 m n a t h, up _ 5 m n a u h)

-- Steps enough: from a cursor inside the stream, more of them find nothing more.
module _ (stream : List ℕ) where
  same-answers : (n m : ℕ) (c : Cursor) → c.place ≤ length stream → length stream < n + c.place → length stream < m + c.place
      → answers n stream c ≡ answers m stream c
  same-answers zero m c h p q = absurd (omega arith)
  same-answers (suc n) zero c h p q = absurd (omega arith)
  same-answers (suc n) (suc m) c h p q =
      ap (◌∷◌ (stepped stream c).reply) (same_cond (is_event (stepped stream c).reply) _ _ []
      (λ t. let s = moves stream c t in same-answers n m (stepped stream c).state s.1 (omega (arith, s.0)) (omega (arith, s.0))))

  same-last : (n m : ℕ) (c : Cursor) → c.place ≤ length stream → length stream < n + c.place → length stream < m + c.place
      → last_step n stream c ≡ last_step m stream c
  same-last zero m c h p q = absurd (omega arith)
  same-last (suc n) zero c h p q = absurd (omega arith)
  same-last (suc n) (suc m) c h p q =
      same_cond (is_event (stepped stream c).reply) _ _ (stepped stream c)
      (λ t. let s = moves stream c t in same-last n m (stepped stream c).state s.1 (omega (arith, s.0)) (omega (arith, s.0)))

  module _ (c : Cursor) (e : is_event (stepped stream c).reply ≡ true) where
    abbrev next : Cursor
    next = (stepped stream c).state

    turn-answers : answers (steps_for stream) stream c ≡ (stepped stream c).reply ∷ answers (steps_for stream) stream next
    turn-answers =
        let s = moves stream c e in
        rw e (ap (◌∷◌ (stepped stream c).reply) (same-answers (length stream) (steps_for stream) next s.1 (omega (arith, s.0)) (omega (arith, s.0))))

    turn_last : last_step (steps_for stream) stream c ≡ last_step (steps_for stream) stream next
    turn_last = let s = moves stream c e in rw e (same-last (length stream) (steps_for stream) next s.1 (omega (arith, s.0)) (omega (arith, s.0)))

-- What a tally from `begin` on keeps: what was counted and what is left make the whole, and no count is beyond the place.
pub record Turn (stream : List ℕ) (begin : Cursor) (x : Counts) (c : Cursor) : Type 0 where
  pub whole : plus x (counts_of (answers (steps_for stream) stream c)) ≡ counts_of (answers (steps_for stream) stream begin)
  pub ending : last_step (steps_for stream) stream c ≡ last_step (steps_for stream) stream begin
  pub within : Within c.place x

module _ (stream : List ℕ) (begin : Cursor) (x : Counts) (c : Cursor) (t : Turn stream begin x c) where
  abbrev a : Answer
  a = (stepped stream c).reply

  turn-next : is_event a ≡ true → Turn stream begin (plus x (counts_of (a ∷ []))) (stepped stream c).state
  turn-next e = record {
    whole = sym (plus-more x a (answers (steps_for stream) stream (stepped stream c).state)) ∙ ap (λ l. plus x (counts_of l)) (sym (turn-answers stream c e)) ∙ t.whole;
    ending = sym (turn_last stream c e) ∙ t.ending;
    within = within_more x a c.place _ (moves stream c e).0 t.within;
  }

-- The same of an outcome o that is the last step's: the step from some cursor.
pub record Turned (stream : List ℕ) (begin : Cursor) (x : Counts) (o : Stepped) : Type 0 where
  pub from : Cursor
  pub is : o ≡ stepped stream from
  pub turn : Turn stream begin x from

module _ (stream : List ℕ) (begin : Cursor) (x : Counts) (o : Stepped) (t : Turned stream begin x o) where
  -- the step behind an event v
  module _ (v : Event) (q : o.reply ≡ told v) (p : Stepped) (s : p ≡ stepped stream o.state) where
    pub goes_on : (y : Counts) → y ≡ plus x (counts_of (told v ∷ [])) → Turned stream begin y p
    goes_on y e =
        let P : Stepped → Type 0 = λ r. r.reply ≡ told v → Turn stream begin y r.state in
        let next = turn-next stream begin x t.from t.turn in
        let turn : P (stepped stream t.from) = λ h. subst (λ z. Turn stream begin z (stepped stream t.from).state) (rw (e, h)) (next (rw h)) in
        record { from = o.state; is = s; turn = subst P (sym t.is) turn q }

    pub gets_less : left_over stream p < left_over stream o
    gets_less = shrinks stream o v q (inside stream t.from o t.is) p s
