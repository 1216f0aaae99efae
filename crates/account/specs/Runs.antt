-- The handle account (document 01, "The handle account") of whatever runs the nine calls: the methods of an
-- instrument (Code.antt), and the C functions of a host (Host.antt).
use Rattle.std.specs.Prelude.{◌≡◌, Bool, true, not, ◌⊎◌, ℕ, ◌*◌, ◌≤◌, length}
use mathlib.Core.List.{List, [], ◌∷◌, ◌++◌, map, flat_map, Mem, Nodup, Perm}
use Rattle.design.specs.declared.InstrumentDesign.{InstrumentDesign}
use Rattle.lists.specs.Count.{count}
use Rattle.model.specs.Types.{Voice, Model, Call, Reply}
use Rattle.model.specs.Voices.{any_voice, sounding}
use Rattle.model.specs.Formed.{well_formed}
use Rattle.model.specs.Start.{fresh}
use Rattle.model.specs.Runs.{after, replies, issued_by, silent_by, taken_by, killed_by, ended_by, table, in_release, releasing}
use Rattle.model.specs.Account.{NamesQuietest}

-- what runs: its states, and what its calls reply
pub record Program : Type 1 where
  pub State : Type 0
  pub Said : Type 0
  -- whether a state can be read (its counts are within their arrays), what it stands for, and what a reply stands for
  pub readable : State → Bool
  pub model : State → Model
  pub reply : Said → Reply
  -- what is promised of a call on a state that replied so and gave back such a state
  pub Promises : State → Call → Said → State → Type 0

-- a call that ran: what was called, what it replied, and the state that it gave back
pub record Ran (P : Program) : Type 0 where
  pub call : Call
  pub said : P.Said
  pub state : P.State

-- "The first call gets it, each later one the state that the call before returned"
pub data RunFrom (P : Program) : P.State → List (Ran P) → Type 0 where
  none : (s : P.State) → RunFrom P s []
  then : (s : P.State) (x : Ran P) (xs : List (Ran P)) → P.Promises s x.call x.said x.state
      → RunFrom P x.state xs → RunFrom P s (x ∷ xs)

module _ {P : Program} where
  abbrev pub calls_of : List (Ran P) → List Call
  calls_of xs = map (λ (x : Ran P). x.call) xs

  abbrev pub replies_of : List (Ran P) → List Reply
  replies_of xs = map (λ (x : Ran P). P.reply x.said) xs

  -- the state that a run from s ends in, and what it stands for
  abbrev pub last_of : P.State → List (Ran P) → P.State
  last_of s [] = s
  last_of s (x ∷ xs) = last_of x.state xs

  abbrev pub model_after : P.State → List (Ran P) → Model
  model_after s xs = P.model (last_of s xs)

  -- what is read off the replies: issued, "Answered silent", "Taken out", "Ended"
  abbrev pub issued_in : List (Ran P) → List ℕ
  issued_in xs = flat_map issued_by (replies_of xs)

  abbrev pub silent_in : List (Ran P) → List ℕ
  silent_in xs = flat_map silent_by (replies_of xs)

  abbrev pub taken_in : List (Ran P) → List ℕ
  taken_in xs = flat_map taken_by (replies_of xs)

  abbrev pub ended_in : List (Ran P) → List ℕ
  ended_in xs = flat_map ended_by (replies_of xs)

-- `before` are the first calls of the run xs, none or some or all: the state that they end in is one on the way
pub record OnTheWay {P : Program} (xs before : List (Ran P)) : Type 0 where
  pub later : List (Ran P)
  pub split : xs ≡ before ++ later

-- of the run xs from the state s of an accepted start with the design d
pub record Accounted (P : Program) (d : InstrumentDesign) (s : P.State) (xs : List (Ran P)) : Type 0 where
  -- "each reply and each state in the list is the one that the definitions give"; each can be read
  pub replied : replies_of xs ≡ replies (fresh d) (calls_of xs)
  pub readable : (before : List (Ran P)) → OnTheWay xs before → P.readable (last_of s before) ≡ true
  pub given : (before : List (Ran P)) → OnTheWay xs before → model_after s before ≡ after (fresh d) (calls_of before)
  -- "no handle is issued twice", and 0 never
  pub once : Nodup (issued_in xs)
  pub not_zero : Mem 0 (issued_in xs) → ⊥
  -- the four "joined, repeats kept, are the issued handles in some order"
  pub accounted : (before : List (Ran P)) → OnTheWay xs before
      → Perm (table (model_after s before) ++ (silent_in before ++ (taken_in before ++ ended_in before))) (issued_in before)
  -- not releasing at most max, all at most 2 × max
  pub not_releasing : (before : List (Ran P)) → OnTheWay xs before
      → count (λ (v : Voice). not (in_release v)) (model_after s before).voices ≤ d.max_voices
  pub size : (before : List (Ran P)) → OnTheWay xs before → length (model_after s before).voices ≤ 2 * d.max_voices
  -- a voice that is releasing is, after any calls between, releasing or "no longer in the table"
  pub stays : (before between : List (Ran P)) → OnTheWay xs (before ++ between) → (h : ℕ)
      → Mem h (releasing (model_after s before))
      → Mem h (releasing (model_after s (before ++ between)))
      ⊎ (Mem h (table (model_after s (before ++ between))) → ⊥)
  -- a voice is taken out exactly when a note-on starts a voice and meets 2 × max voices;
  -- it is "the first of the quietest there"
  pub taken : (before : List (Ran P)) (x : Ran P) → OnTheWay xs (before ++ (x ∷ []))
      → NamesQuietest any_voice (model_after s before) (2 * d.max_voices) x.call (P.reply x.said) taken_by
  -- a voice is killed exactly when a note-on starts a voice and meets max voices not releasing;
  -- it is the first of the quietest of them
  pub killed : (before : List (Ran P)) (x : Ran P) → OnTheWay xs (before ++ (x ∷ []))
      → NamesQuietest sounding (model_after s before) d.max_voices x.call (P.reply x.said) killed_by
  -- every state on the way is well formed
  pub formed : (before : List (Ran P)) → OnTheWay xs before → well_formed (model_after s before) ≡ true
