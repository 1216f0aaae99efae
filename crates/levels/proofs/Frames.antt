-- Frames put together: parts of a block one behind the other, and one frame by a tick.
use mathlib.Core.Path.{◌≡◌, refl, ap, sym, ◌∙◌}
use mathlib.Core.List.{List, ◌++◌}
use Prim.Native.Nat.{ℕ, zero, suc, ◌+◌, ◌-◌, ◌≤◌, ◌<◌, min}
use native.Mathlib.Omega.{arith}
use native.Mathlib.Numerals.{add-one}
use native.Mathlib.Nat.{zero-add, suc-add}
use lib.ListN.{length, set, take, drop, replicate, length-set, length-take, length-drop, length-append, length-replicate}
use lib.Seq.{take_all, take-suc-set, drop-set-lt, take-add, drop-drop}
use Rattle.std.proofs.Common.{take_at}
use Rattle.std.proofs.lemmas.List.{take-append-drop, take-append-le, drop-append-le, drop_at}
use lib.Ieee.{Float}
use Rattle.lists.specs.Parts.{rest-on, drop-replicate, part-size, part_length}
use Rattle.float32.specs.Numbers.{zero as +0}
use Rattle.envelope.specs.declared.EnvGen.{EnvGen}
use Rattle.envelope.specs.Ticks.{ticked}
use Rattle.model.specs.Voices.{aged}
use Rattle.model.specs.Mix.{levels}
use Rattle.levels.specs.declared.Loudness.{Loudness}
use Rattle.levels.specs.Filled.{FilledAll, FilledAs}
use Rattle.levels.specs.Runs.{loud, Ran}

-- the frames of a block in two parts
pub aged-add : (a k : ℕ) (e : EnvGen) → aged (a + k) e ≡ aged k (aged a e)
unfolding aged
aged-add zero k e = rw zero-add
aged-add (suc a) k e = rw suc-add (aged-add a k (ticked e))

pub levels-add : (g t : Float) (a k : ℕ) (e : EnvGen) → levels g t (a + k) e ≡ levels g t a e ++ levels g t k (aged a e)
unfolding levels aged
levels-add g t zero k e = rw zero-add
levels-add g t (suc a) k e = rw (suc-add, levels-add g t a k (ticked e))

module _ (by : Loudness) where
  pub ran-none : (e : EnvGen) (old : List Float) → Ran e by old old e 0
  unfolding aged levels
  ran-none e old = record { env = refl; numbers = refl; rest = refl; size = refl; within = omega arith }

  -- one frame more, by a tick
  pub ran-more : {e v w : EnvGen} {n : ℕ} {old buf : List Float} → n < length buf → w ≡ ticked v
      → Ran e by old buf v n → Ran e by old (set buf n (loud by w.level)) w (n + 1)
  unfolding aged levels
  ran-more {e} {v} {w} {n} {old} {buf} h p d =
      let x = loud by w.level in
      let one = aged-add n 1 e in
      let more = levels-add by.gain by.trem n 1 e in
      record {
        env = p ∙ ap ticked d.env ∙ sym one;
        numbers = rw (add-one, take-suc-set buf n x h, d.numbers, p, d.env) (rw add-one at (sym more));
        rest = drop-set-lt (n + 1) buf n x (omega arith) ∙ rest-on n (n + 1) buf old (omega arith) d.rest;
        size = length-set buf n x ∙ d.size;
        within = let s = d.size in omega arith;
      }

  -- a run over the frames from n up to m
  pub ran-join : {e v w : EnvGen} {n k m : ℕ} {old mid new : List Float} → n ≤ m → m ≤ length mid
      → Ran e by old mid v n → Ran v by (take (m - n) (drop n mid)) new w k
      → Ran e by old (take n mid ++ (new ++ drop (m - n) (drop n mid))) w (n + k)
  ran-join {e} {v} {w} {n} {k} {m} {old} {mid} {new} h room p q =
      let k' = part-size n (m - n) mid (omega arith) in
      let front = take n mid in
      let part = take (m - n) (drop n mid) in
      let back = drop (m - n) (drop n mid) in
      let length-front : length front ≡ n = simp length-take (omega arith) in
      let short : k ≤ length new = let s = q.size in let w = q.within in omega arith in
      let inside : k ≤ length part = q.within in
      let seam : drop n (front ++ (new ++ back)) ≡ new ++ back = drop_at front (new ++ back) n length-front in
      let numbers : take k (new ++ back) ≡ levels by.gain by.trem k v = take-append-le k new back short ∙ q.numbers in
      let rest : drop k (new ++ back) ≡ drop k (drop n mid) =
      drop-append-le k new back short ∙ ap (λ (l : List Float). l ++ back) q.rest
      ∙ sym (drop-append-le k part back inside) ∙ ap (drop k) (take-append-drop (m - n) (drop n mid)) in
      record {
        env = q.env ∙ ap (aged k) p.env ∙ sym (aged-add n k e);
        numbers =
            rw (take-add n k (front ++ (new ++ back)), seam, numbers, take_at front (new ++ back) n length-front, p.numbers, p.env)
            (sym (levels-add by.gain by.trem n k e));
        rest = sym (drop-drop k n (front ++ (new ++ back))) ∙ ap (drop k) seam ∙ rest ∙ drop-drop k n mid ∙ rest-on n (n + k) mid old (omega arith) p.rest;
        size = part_length n (m - n) mid new (omega arith) (q.size ∙ k') ∙ p.size;
        within = let s = p.size in omega arith;
      }

  -- all the frames done
  pub filled_all : {e w : EnvGen} {n : ℕ} {old buf : List Float} → length old ≤ n → Ran e by old buf w n → FilledAll e by.gain by.trem old buf w
  filled_all {e} {w} {n} {old} {buf} h d =
      let all : n ≡ length old = let i = d.within in omega arith in
      let size : length buf ≤ length old = let s = d.size in omega arith in
      record { env = rw all at d.env; numbers = sym (take_all (length old) buf size) ∙ rw all at d.numbers }

-- the first of 64 numbers, and zeros behind them
module _ (gain trem : Float) where
  pub filled : {e w : EnvGen} {n m : ℕ} {part : List Float} → n ≡ min m 64 → length part ≡ length (take n (replicate 64 +0))
      → FilledAll e gain trem (take n (replicate 64 +0)) part w
      → FilledAs e gain trem m (record { env = w; levels = part ++ drop n (replicate 64 +0) })
  filled {e} {w} {n} {m} {part} h size d =
      let all : length (take n (replicate 64 +0)) ≡ n = simp (length-take, length-replicate) (omega arith) in
      let many : length part ≡ n = size ∙ all in
      record {
        env = rw (all, h) at d.env;
        numbers = rw (← h) (take_at part (drop n (replicate 64 +0)) n many ∙ rw all at d.numbers);
        rest = rw (← h) (drop_at part (drop n (replicate 64 +0)) n many ∙ drop-replicate n 64 +0);
        size = simp (length-append, many, length-drop, length-replicate) (omega arith);
      }
