-- The answers to a list of bytes, by recursion over the list: no place, and no count of steps. What a reading finds is the
-- first of them, and where it stops the rest go on.
use Prim.Native.Nat.{ℕ, suc, ◌+◌, ◌<◌, ◌≤◌}
use mathlib.Core.Path.{◌≡◌, refl, ap, sym, ◌∙◌}
use mathlib.Core.Bool.{true, false, cond}
use mathlib.Core.List.{List, [], ◌∷◌}
use native.Mathlib.Omega.{arith}
use lib.ListN.{length, drop}
use lib.Seq.{drop-drop}
use mathlib.Core.Bool.{or-true}
use Rattle.std.proofs.lemmas.Bool.{cond_both}
use Rattle.midi.specs.Bytes.{real_time, exclusive_or_common, channel_status, takes_one, no_status, may_run}
use Rattle.std.specs.Prelude.{Err}
use Rattle.outcome.specs.declared.Refusal.TheVariants.{CutShort}
use Rattle.midi.specs.Answers.{Answer, told, ended, number, is_event}
use Rattle.midi.specs.Messages.{Message, event, message}
use Rattle.midi.specs.Steps.{Fed, Stepped, scan_of, data_byte, fed, on_fed, answered, refused, at_end, reading}
use Rattle.midi.specs.declared.Cursor.{Cursor}
use Rattle.midi.specs.declared.Part.{Part}
use Rattle.midi.specs.declared.Part.TheVariants.{Nothing, Status, First}
use Rattle.midi.specs.declared.Scan.{Scan}
use Rattle.std.specs.declared.ops.ControlFlow.TheVariants.{Continue, Break}

-- ---- cases

-- what a byte does, case by case
module _ (P : Fed → Type 0) where
  pub data-cases : (status : ℕ) (part : Part) (b : ℕ) → P (Break (event (message status b 0))) → P (Continue (scan_of status (First b)))
      → ((a : ℕ) → part ≡ First a → P (Break (event (message status a b)))) → P (data_byte status part b)
  data-cases status Nothing b one more two = cond_both (takes_one status) _ _ P (λ _. one) (λ _. more)
  data-cases status Status b one more two = cond_both (takes_one status) _ _ P (λ _. one) (λ _. more)
  data-cases status (First a) b one more two = two a refl

  pub fed-cases : (scan : Scan) (b : ℕ) → P (Continue scan) → P (Continue (scan_of 0 Nothing)) → (channel_status b ≡ true → P (Continue (scan_of b Status)))
      → (real_time b ≡ false → exclusive_or_common b ≡ false → channel_status b ≡ false → P (data_byte scan.status scan.part b)) → P (fed scan b)
  fed-cases scan b same none opens takes =
      cond_both (real_time b) _ _ P (λ _. same)
      (λ r. cond_both (exclusive_or_common b) _ _ P (λ _. none)
      (λ s. cond_both (channel_status b) _ _ P opens
      (λ t. cond_both (no_status scan.status) _ _ P (λ _. same) (λ _. takes r s t))))

-- ---- the answers

abbrev pub closing : Part → Answer
closing Nothing = ended
closing Status = Err CutShort
closing (First a) = Err CutShort

abbrev pub scanned : Scan → List ℕ → List Answer
scanned scan [] = closing scan.part ∷ []
scanned scan (b ∷ rest) =
    on_fed (fed scan b) (λ next. scanned next rest) (λ e. told e ∷ scanned (scan_of scan.status Nothing) rest)

-- what is known of an outcome r that a reading from `place`, `left` bytes before the stream's end, gave
pub record Found (stream : List ℕ) (from : Cursor) (place left : ℕ) (r : Stepped) (all : List Answer) : Type 0 where
  pub same : r.reply ∷ cond (is_event r.reply) (scanned (scan_of r.state.status Nothing) (drop r.state.place stream)) [] ≡ all
  pub goes_on : is_event r.reply ≡ true → (place < r.state.place) × (r.state.place ≤ place + left) × (may_run r.state.status ≡ true)
  pub ends : r.reply ≡ ended → r.state.place ≡ place + left
  pub kept : 0 < number r.reply → r.state ≡ from

module _ (stream : List ℕ) (from : Cursor) where
  found-cut : (place : ℕ) → Found stream from place 0 (refused CutShort from) (Err CutShort ∷ [])
  found-cut place = record { same = refl; goes_on = λ e. cc; ends = λ e. cc; kept = λ h. refl }

  found-end : (status : ℕ) (part : Part) (place : ℕ) → Found stream from place 0 (at_end from part place status) (closing part ∷ [])
  found-end status Nothing place = record { same = refl; goes_on = λ e. cc; ends = λ e. omega arith; kept = λ h. absurd (omega arith) }
  found-end status Status place = found-cut place
  found-end status (First a) place = found-cut place

  -- a byte that leads on: what was found behind it
  found-later : {place left : ℕ} {r : Stepped} {all : List Answer} → Found stream from (place + 1) left r all → Found stream from place (suc left) r all
  found-later f =
      record {
        same = f.same;
        goes_on = λ e. let h = f.goes_on e in (omega (arith, h.0), omega (arith, h.1), h.2);
        ends = λ e. omega (arith, f.ends e);
        kept = f.kept;
      }

  -- a byte that ends the message m
  found-event : (m : Message) (status place : ℕ) (rest : List ℕ) → may_run status ≡ true → drop (place + 1) stream ≡ rest
      → Found stream from place (suc (length rest)) (answered (told (event m)) (place + 1) status) (told (event m) ∷ scanned (scan_of status Nothing) rest)
  found-event m status place rest e d =
      record {
        same = rw d;
        goes_on = λ _. (omega arith, omega arith, e);
        ends = λ q. cc;
        kept = λ h. absurd (omega arith);
      }

  pub found : (bytes : List ℕ) (scan : Scan) (place : ℕ) → may_run scan.status ≡ true → drop place stream ≡ bytes
      → Found stream from place (length bytes) (reading from scan place bytes) (scanned scan bytes)
  found [] scan place e d = found-end scan.status scan.part place
  found (b ∷ rest) scan place e d =
      let d' : drop (place + 1) stream ≡ rest = sym (drop-drop 1 place stream) ∙ ap (drop 1) d in
      let P : Fed → Type 0 = λ f. Found stream from place (suc (length rest))
      (on_fed f (λ next. reading from next (place + 1) rest) (λ e. answered (told e) (place + 1) scan.status))
      (on_fed f (λ next. scanned next rest) (λ e. told e ∷ scanned (scan_of scan.status Nothing) rest)) in
      let more : (next : Scan) → may_run next.status ≡ true → P (Continue next) =
      λ next e'. found-later (found rest next (place + 1) e' d') in
      let stop : (m : Message) → P (Break (event m)) = λ m. found-event m scan.status place rest e d' in
      fed-cases P scan b (more scan e) (more (scan_of 0 Nothing) refl) (λ t. more (scan_of b Status) (rw (t, or-true)))
      (λ _ _ _. data-cases P scan.status scan.part b (stop (message scan.status b 0)) (more (scan_of scan.status (First b)) e)
      (λ a _. stop (message scan.status a b)))
