-- From the parts of a voice or a state to the whole: what its numbers stand for, and whether they stand for a state.
use mathlib.Core.Path.{◌≡◌, refl, ap, sym, ◌∙◌}
use mathlib.Core.Bool.{Bool, true, false, ◌&&◌}
use mathlib.Core.List.{List, [], ◌∷◌, map, map-map}
use Prim.Native.Nat.{ℕ}
use Rattle.std.specs.Int.{from_bool}
use lib.Dec.{leb}
use lib.ListN.{take}
use Rattle.lists.specs.Choose.{both}
use Rattle.lists.specs.All.{all, all_map}
use Rattle.voice.specs.View.{Seen, seen}
use Rattle.voice.specs.declared.Voice.{Voice}
use Rattle.table.specs.View.{seen_in, voices_of, in_room}
use Rattle.instrument.specs.View.{roomy, counted}
use Rattle.instrument.specs.declared.Instrument.{Instrument}
use Rattle.wire.specs.Reads.{flag_of, voice_of, seen_of, mode_numbered, voice_numbered, numbered}
use Rattle.wire.specs.declared.HostVoice.{HostVoice}
use Rattle.wire.specs.declared.HostState.{HostState}
use Rattle.wire.proofs.Loops.{all_alike}

-- the number of a yes or no
pub flag_back : (b : Bool) (n : ℕ) → n ≡ from_bool b → (flag_of n ≡ b) × (leb n 1 ≡ true)
flag_back true n e = rw e (refl, refl)
flag_back false n e = rw e (refl, refl)

-- tests that pass after a first one say no more than it does
pub first_alone : (a b c d e : Bool) → b ≡ true → c ≡ true → d ≡ true → e ≡ true → (a && b && c && d && e) ≡ a
first_alone true b c d e p q r s = rw (p, q, r, s)
first_alone false b c d e p q r s = refl

-- of five tests that pass, the first two and the last
pub counts_of_lem : (a b c d e : Bool) → (a && b && c && d && e) ≡ true → (a ≡ true) × (b ≡ true) × (e ≡ true)
counts_of_lem a b c d e h =
    let p = both (a && b && c && d) e h in
    let q = both (a && b && c) d p.0 in
    let r = both (a && b) c q.0 in
    let s = both a b r.0 in
    (s.0, s.1, p.1)

-- of five tests the middle two pass
pub counts_alone : (a b c d e f : Bool) → c ≡ true → d ≡ true → e ≡ f → (a && b && c && d && e) ≡ (a && (b && f))
counts_alone true true c d e f p q r = rw (p, q, r)
counts_alone true false c d e f p q r = refl
counts_alone false b c d e f p q r = refl

pub all_weaker : {A : Type 0} (p q : A → Bool) → ((a : A) → p a ≡ true → q a ≡ true) → (xs : List A) → all p xs ≡ true → all q xs ≡ true
all_weaker p q f [] e = refl
all_weaker p q f (x ∷ xs) e = let h = both (p x) (all p xs) e in rw (f x h.0) (all_weaker p q f xs h.1)

-- the voices of a table of numbers
pub voices-of : (l : List HostVoice) → voices_of (map seen_of l) ≡ map voice_of l
unfolding seen_of
voices-of l = map-map (λ (x : Seen). x.voice) seen_of l

-- each count is within its array
numbered-room : (v : HostVoice) → voice_numbered v ≡ true → leb v.copy_count 8 ≡ true
unfolding voice_numbered
numbered-room v e = (counts_of_lem (leb v.copy_count 8) _ _ _ _ e).0

pub room_of : (l : List HostVoice) → all voice_numbered l ≡ true → in_room (map seen_of l) ≡ true
unfolding seen_of
room_of l e = all_map (λ (x : Seen). leb x.count 8) seen_of l ∙ all_weaker voice_numbered (λ (v : HostVoice). leb v.copy_count 8) numbered-room l e

-- numbers that stand for each voice up to whether its count is within its array
pub rooms : (rs : List HostVoice) (vs : List Voice) → map voice_numbered rs ≡ map (λ (v : Voice). leb v.copy_count 8) vs → all voice_numbered rs ≡ in_room (map seen vs)
unfolding seen
rooms rs vs e = all_alike voice_numbered (λ (v : Voice). leb v.copy_count 8) rs vs e ∙ sym (all_map (λ (x : Seen). leb x.count 8) seen vs)

module _ (h : HostState) (s : Instrument) (v : h.voice_count ≡ s.table.count) (k : h.held_count ≡ s.held.count) where
  pub read-counted : seen_in s.table ≡ map seen_of (take h.voice_count h.voices) → numbered h ≡ true → counted s ≡ true
  unfolding roomy counted numbered
  read-counted q e =
      let f = counts_of_lem (leb h.voice_count 64) (leb h.held_count 256) _ _ _ e in
      rw (← v, ← k, f.0, f.1) (ap in_room (rw (← v) at q) ∙ room_of (take h.voice_count h.voices) f.2)

  pub written-numbered : mode_numbered h.design ≡ true → leb h.sustain 1 ≡ true
      → all voice_numbered (take h.voice_count h.voices) ≡ in_room (seen_in s.table) → numbered h ≡ counted s
  unfolding roomy counted numbered
  written-numbered m p q = rw (← v, ← k) (counts_alone (leb h.voice_count 64) (leb h.held_count 256) _ _ _ _ m p (rw (← v) at q))
