-- Check 1 taken apart: the state is well formed exactly where each part of the check passes.
use mathlib.Core.Path.{◌≡◌, refl, ap, sym, ◌∙◌}
use mathlib.Core.Bool.{Bool, true, false, ◌&&◌}
use Prim.Native.Nat.{ℕ, ◌*◌, ◌≤◌}
use native.Mathlib.Omega.{arith}
use borrow.Author.Tests.{leb-true, le-leb}
use lib.Dec.{leb, eqb}
use lib.ListN.{length, length-map, length-take}
use Rattle.lists.specs.Choose.{both}
use Rattle.lists.specs.All.{all}
use Rattle.lists.specs.Count.{count}
use Rattle.lists.specs.Perms.{distinct}
use Rattle.lists.specs.Prefix.{shown-length}
use Rattle.design.specs.declared.PlayMode.{PlayMode}
use Rattle.design.specs.declared.PlayMode.TheVariants.{Poly, Mono}
use Rattle.design.specs.Accepted.{is_accepted, copies_of}
use Rattle.model.specs.Voices.{sounding, handles, copies_in}
use Rattle.model.specs.Formed.{handle_fits, copies_fit, stage_fits, block_fits, mode_fits, well_formed}
use Rattle.table.specs.View.{seen_in, voices_in, in_room}
use Rattle.table.specs.Check.{voice_fits, mode_agrees, table_fits}
use Rattle.table.proofs.Each.{four, copies-even, fits-copies}
use Rattle.held.specs.View.{number_of_note, held_in}
use Rattle.instrument.specs.declared.Instrument.{Instrument}
use Rattle.instrument.specs.View.{view, roomy, counted, formed}

-- a table has as many voices as it counts
pub voices-count : (s : Instrument) → s.table.count ≤ length s.table.voices → length (voices_in s.table) ≡ s.table.count
voices-count s h = simp (length-map, length-take) (omega arith)

pub record Parts (s : Instrument) : Type 0 where
  pub voices64 : s.table.count ≤ 64
  pub held256 : s.held.count ≤ 256
  pub design : is_accepted s.design ≡ true
  pub size : s.table.count ≤ 2 * s.design.max_voices
  pub sounds : count sounding (voices_in s.table) ≤ s.design.max_voices
  pub begun : 1 ≤ s.next_handle
  pub fits : all (voice_fits s.next_handle (copies_of s.design)) (seen_in s.table) ≡ true
  pub once : distinct (handles (voices_in s.table)) ≡ true
  pub block : block_fits s.design s.frames ≡ true
  pub held_once : distinct (held_in s.held) ≡ true
  pub mode : mode_agrees s.design.mode s.held.count (count sounding (voices_in s.table)) ≡ true

and_i : {a b : Bool} → a ≡ true → b ≡ true → (a && b) ≡ true
and_i {a} {b} p q = rw (p, q)

module _ (s : Instrument) (lv : length s.table.voices ≡ 64) (lh : length s.held.notes ≡ 256) where
  held-shown : s.held.count ≤ 256 → length (held_in s.held) ≡ s.held.count
  held-shown h = shown-length number_of_note s.held.count s.held.notes (omega arith)

  mode-shown : s.held.count ≤ 256 → mode_fits s.design.mode (view s) ≡ mode_agrees s.design.mode s.held.count (count sounding (voices_in s.table))
  unfolding view mode_fits mode_agrees
  mode-shown h = by s.design.mode
    where
      by : (m : PlayMode) → mode_fits m (view s) ≡ mode_agrees m s.held.count (count sounding (voices_in s.table))
      by Poly = ap (λ (n : ℕ). eqb n 0) (held-shown h)
      by (Mono legato) = refl

  -- the tests of 01, in its order
  pub parts-of : formed s ≡ true → Parts s
  unfolding formed counted roomy well_formed view
  parts-of e =
      let f = both (counted s) (well_formed (view s)) e in
      let a = both (leb s.table.count 64) (leb s.held.count 256 && in_room (seen_in s.table)) f.0 in
      let b = both (leb s.held.count 256) (in_room (seen_in s.table)) a.1 in
      let vs = voices_in s.table in
      let n64 : s.table.count ≤ 64 = leb-true _ 64 a.0 in
      let n256 : s.held.count ≤ 256 = leb-true _ 256 b.0 in
      let d = both (is_accepted s.design) _ f.1 in
      let g = both (leb (length vs) (2 * s.design.max_voices)) _ d.1 in
      let h = both (leb (count sounding vs) s.design.max_voices) _ g.1 in
      let i = both (leb 1 s.next_handle) _ h.1 in
      let j = both (distinct (handles vs)) _ i.1 in
      let k = both (all (handle_fits s.next_handle) vs) _ j.1 in
      let l = both (all (copies_fit (copies_of s.design)) vs) _ k.1 in
      let m = both (block_fits s.design s.frames) _ l.1 in
      let n = both (all stage_fits vs) _ m.1 in
      let o = both (distinct (held_in s.held)) (mode_fits s.design.mode (view s)) n.1 in
      let q : length vs ≤ 2 * s.design.max_voices = leb-true _ _ g.0 in
      let v = voices-count s (omega arith) in
      record {
        voices64 = n64;
        held256 = n256;
        design = d.0;
        size = omega arith;
        sounds = leb-true _ _ h.0;
        begun = leb-true 1 _ i.0;
        fits = four s.next_handle (copies_of s.design) (seen_in s.table) ∙ rw (b.1, k.0, l.0, n.0);
        once = j.0;
        block = m.0;
        held_once = o.0;
        mode = sym (mode-shown n256) ∙ o.1;
      }

  -- every voice of a well formed table has the design's copies
  pub table-copies : formed s ≡ true → copies_in (voices_in s.table) ≡ s.table.count * copies_of s.design
  table-copies e =
      let p = parts-of e in
      let n64 = p.voices64 in
      let n : length (seen_in s.table) ≡ s.table.count = simp (length-map, length-take) (omega arith) in
      copies-even _ _ (fits-copies _ _) (seen_in s.table) p.fits ∙ ap (λ (k : ℕ). k * copies_of s.design) n

  pub formed-of : Parts s → formed s ≡ true
  unfolding formed counted roomy well_formed view
  formed-of p =
      let n64 = p.voices64 in
      let v = voices-count s (omega arith) in
      let vs = voices_in s.table in
      let f = sym (four s.next_handle (copies_of s.design) (seen_in s.table)) ∙ p.fits in
      let a = both (in_room (seen_in s.table)) _ f in
      let b = both (all (handle_fits s.next_handle) vs) _ a.1 in
      let c = both (all (copies_fit (copies_of s.design)) vs) (all stage_fits vs) b.1 in
      let q : leb (length vs) (2 * s.design.max_voices) ≡ true = let z = p.size in le-leb (length vs) (2 * s.design.max_voices) (omega arith) in
      let m : mode_fits s.design.mode (view s) ≡ true = mode-shown p.held256 ∙ p.mode in
      and_i (and_i (le-leb _ 64 p.voices64) (and_i (le-leb _ 256 p.held256) a.0))
      (and_i p.design
      (and_i q
      (and_i (le-leb _ _ p.sounds)
      (and_i (le-leb 1 _ p.begun)
      (and_i p.once
      (and_i b.0
      (and_i c.0
      (and_i p.block
      (and_i c.1
      (and_i p.held_once m))))))))))

  -- as the code asks
  abbrev pub asked : Bool
  asked =
      leb s.table.count (length s.table.voices)
      && (leb s.held.count (length s.held.notes)
      && (is_accepted s.design
      && (leb s.table.count (2 * s.design.max_voices)
      && (leb 1 s.next_handle
      && (block_fits s.design s.frames
      && (table_fits s.design s.next_handle s.held.count (seen_in s.table)
      && distinct (held_in s.held)))))))

  asked-parts : asked ≡ true → Parts s
  unfolding table_fits
  asked-parts e =
      let vs = voices_in s.table in
      let a = both (leb s.table.count (length s.table.voices)) _ e in
      let b = both (leb s.held.count (length s.held.notes)) _ a.1 in
      let c = both (is_accepted s.design) _ b.1 in
      let d = both (leb s.table.count (2 * s.design.max_voices)) _ c.1 in
      let f = both (leb 1 s.next_handle) _ d.1 in
      let g = both (block_fits s.design s.frames) _ f.1 in
      let t = both (table_fits s.design s.next_handle s.held.count (seen_in s.table)) (distinct (held_in s.held)) g.1 in
      let k = both (leb (count sounding vs) s.design.max_voices) _ t.0 in
      let l = both (mode_agrees s.design.mode s.held.count (count sounding vs)) _ k.1 in
      let m = both (all (voice_fits s.next_handle (copies_of s.design)) (seen_in s.table)) (distinct (handles vs)) l.1 in
      record {
        voices64 = leb-true _ 64 (rw lv at a.0);
        held256 = leb-true _ 256 (rw lh at b.0);
        design = c.0;
        size = leb-true _ _ d.0;
        sounds = leb-true _ _ k.0;
        begun = leb-true 1 _ f.0;
        fits = m.0;
        once = m.1;
        block = g.0;
        held_once = t.1;
        mode = l.0;
      }

  parts-asked : Parts s → asked ≡ true
  unfolding table_fits
  parts-asked p =
      and_i (rw lv (le-leb _ 64 p.voices64))
      (and_i (rw lh (le-leb _ 256 p.held256))
      (and_i p.design
      (and_i (le-leb _ _ p.size)
      (and_i (le-leb 1 _ p.begun)
      (and_i p.block
      (and_i (and_i (le-leb _ _ p.sounds) (and_i p.mode (and_i p.fits p.once))) p.held_once))))))

  pub asked-formed : asked ≡ formed s
  asked-formed = same asked (formed s) (λ e. formed-of (asked-parts e)) (λ e. parts-asked (parts-of e))
    where
      same : (a b : Bool) → (a ≡ true → b ≡ true) → (b ≡ true → a ≡ true) → a ≡ b
      same true b f g = sym (f refl)
      same false true f g = g refl
      same false false f g = refl
