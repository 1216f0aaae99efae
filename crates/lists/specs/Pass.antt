-- A pass over the first elements of an array, seen through a view `s` of one element: `ws` is the array now, `vs` the array at first,
-- `w` where the next is written, `i` where the next is read, and `ys` the view of what stands at the front.
-- With w ≡ i it is a map in place; with w ≤ i it packs what it keeps.
use Rattle.std.specs.Prelude.{◌≡◌, refl, Bool, true, false, List, [], ◌∷◌, ◌++◌, map, ℕ, suc, ◌+◌, ◌-◌, ◌≤◌, ◌<◌, ltb, length, take, drop, get_or, set}
use Rattle.std.proofs.Common.{ap, sym, ◌∙◌, append_assoc, append-nil, add-one, arith, ltb-true, ltb-false, length-set, length-take, take-suc-set, drop-set-lt}
use Rattle.std.proofs.lemmas.List.{map-append, length-map, take-set-le}
use Rattle.std.proofs.lemmas.List.Edits.{sets}
use Rattle.std.proofs.lemmas.Grind.{common_steps}
use Rattle.lists.specs.Prefix.{take_more}
use Rattle.lists.specs.Places.{without, without-none, without_more, without-past, map-without}

module _ {A : Type 0} where
  drop-next : (i : ℕ) (ws vs : List A) → drop i ws ≡ drop i vs → drop (i + 1) ws ≡ drop (i + 1) vs
  drop-next i ws vs e = grind (arith, common_steps, ap (drop 1) e)

module _ {A B : Type 0} where
  pub record Pass (s : A → B) (ys : List B) (w i : ℕ) (ws vs : List A) : Type 0 where
    pub front : map s (take w ws) ≡ ys
    pub back : drop i ws ≡ drop i vs
    pub size : length ws ≡ length vs
    pub order : w ≤ i

  module _ {s : A → B} {ys : List B} {w i : ℕ} {ws vs : List A} where
    pub pass-read : (d : A) → Pass s ys w i ws vs → get_or ws i d ≡ get_or vs i d
    pass-read d p = grind (arith, common_steps, ap (λ (l : List A). get_or l 0 d) p.back)

    pub pass-skip : Pass s ys w i ws vs → Pass s ys w (i + 1) ws vs
    pass-skip p = record { front = p.front; back = drop-next i ws vs p.back; size = p.size; order = omega arith }

    -- one more at the front, of those that are read
    pub pass-put : (a : A) (b : B) → s a ≡ b → Pass s ys w i ws vs → w < i → i ≤ length vs → Pass s (ys ++ (b ∷ [])) (w + 1) i (set ws w a) vs
    pass-put a b e p h l =
        let in-ws : w < length ws = omega arith in
        record {
          front = rw (add-one, take-suc-set ws w a, map-append, p.front, e);
          back = drop-set-lt i ws w a h ∙ p.back;
          size = length-set ws w a ∙ p.size;
          order = omega arith;
        }

    -- the element at i is read, and another put in its place
    pub pass-spend : (a : A) → Pass s ys w i ws vs → Pass s ys w (i + 1) (set ws i a) vs
    pass-spend a p =
        record {
          front = ap (map s) (take-set-le w ws i a p.order) ∙ p.front;
          back = drop-set-lt (i + 1) ws i a (omega arith) ∙ (pass-skip p).back;
          size = length-set ws i a ∙ p.size;
          order = omega arith;
        }

  pub pass-keep : {s : A → B} {ys : List B} {w i : ℕ} {ws vs : List A} (a : A) (b : B) → s a ≡ b → Pass s ys w i ws vs → i < length vs
      → Pass s (ys ++ (b ∷ [])) (w + 1) (i + 1) (set ws w a) vs
  pass-keep a b e p h = pass-put a b e (pass-skip p) (omega arith) (omega arith)

  -- the first w are left as they are
  pub pass-from : (s : A → B) (w i : ℕ) (vs : List A) → w ≤ i → Pass s (map s (take w vs)) w i vs vs
  pass-from s w i vs h = record { front = refl; back = refl; size = refl; order = h }

  pub pass-start : (s : A → B) (vs : List A) → Pass s [] 0 0 vs vs
  pass-start s vs = pass-from s 0 0 vs (omega arith)

module _ {A B : Type 0} {s : A → B} {vs : List A} where
  -- a run of stores
  pub pass-keeps : {ys : List B} {i : ℕ} {ws : List A} (xs : List A) → Pass s ys i i ws vs → i + length xs ≤ length vs
      → Pass s (ys ++ map s xs) (i + length xs) (i + length xs) (sets ws i xs) vs
  pass-keeps {ys = ys} {i = i} [] p h = let e : i + 0 ≡ i = omega arith in rw (e, append-nil) p
  pass-keeps {ys = ys} {i = i} (x ∷ xs) p h =
      let e : suc i + length xs ≡ i + suc (length xs) = omega arith in
      let q = pass-keeps {ys = ys ++ s x ∷ []} {i = suc i} xs (rw add-one at (pass-keep x (s x) refl p (omega arith))) (omega arith) in
      rw (e, append_assoc) at q

module _ {A B C : Type 0} where
  -- the view of one more element, through a function on views
  pub maps-more : (g : B → C) (s : A → B) (xs : List A) (i : ℕ) (d : A) → i < length xs
      → map g (map s (take (i + 1) xs)) ≡ map g (map s (take i xs)) ++ (g (s (get_or xs i d)) ∷ [])
  maps-more g s xs i d h = rw (take_more xs i d, map-append s, map-append g)

-- A removal from the first n: those behind the element k move down one after the other, i is the next that moves. A k past them takes none out.
module _ {A B : Type 0} where
  pub record Moved (s : A → B) (k n i : ℕ) (ws vs : List A) : Type 0 where
    pub pass : Pass s (without k (map s (take i vs))) (i - 1) i ws vs
    pub behind : k + 1 ≤ i
    pub within : k < n → i ≤ n
    pub none : n ≤ k → ws ≡ vs

  pub moved-start : (s : A → B) (k n : ℕ) (vs : List A) → Moved s k n (k + 1) vs vs
  moved-start s k n vs =
      let e : k + 1 - 1 ≡ k = omega arith in
      let first : without k (map s (take (k + 1) vs)) ≡ map s (take k vs) = sym (map-without s k (take (k + 1) vs)) ∙ ap (map s) (without-none k vs) in
      record { pass = rw (e, first) (pass-from s k (k + 1) vs (omega arith)); behind = omega arith; within = λ h. omega arith; none = λ _. refl }

  module _ {s : A → B} {k n i : ℕ} {ws vs : List A} (m : Moved s k n i ws vs) (size : n ≤ length vs) where
    pub moved_more : (d : A) → i < n → Moved s k n (i + 1) (set ws (i - 1) (get_or ws i d)) vs
    moved_more d h =
        let b = m.behind in
        let e : i + 1 - 1 ≡ i - 1 + 1 = omega arith in
        let more : without k (map s (take (i + 1) vs)) ≡ without k (map s (take i vs)) ++ (s (get_or vs i d) ∷ []) =
        sym (map-without s k (take (i + 1) vs)) ∙ ap (map s) (without_more k i vs d (omega arith) (omega arith)) ∙ rw (map-append s, map-without s) in
        record {
          pass = rw (e, more) (pass-keep _ _ (ap s (pass-read d m.pass)) m.pass (omega arith));
          behind = omega arith;
          within = λ _. omega arith;
          none = λ z. let n : ⊥ = omega arith in absurd n;
        }

    pub moved-end : n ≤ i → map s (take (length (without k (map s (take n vs)))) ws) ≡ without k (map s (take n vs))
    moved-end h = by (ltb k n) refl
      where
        by : (b : Bool) → ltb k n ≡ b → map s (take (length (without k (map s (take n vs)))) ws) ≡ without k (map s (take n vs))
        by true q =
            let w = m.within (ltb-true k n q) in
            let e : i ≡ n = omega arith in
            let front : map s (take (n - 1) ws) ≡ without k (map s (take n vs)) = rw e at m.pass.front in
            let long : length (map s (take (n - 1) ws)) ≡ n - 1 = simp (length-map, length-take) (omega (arith, m.pass.size)) in
            ap (λ (j : ℕ). map s (take j ws)) (ap length (sym front) ∙ long) ∙ front
        by false q =
            let k-past : n ≤ k = ltb-false k n q in
            let long : length (map s (take n vs)) ≡ n = simp (length-map, length-take) (omega arith) in
            rw (without-past k (map s (take n vs)) (omega arith), long, m.none k-past)
