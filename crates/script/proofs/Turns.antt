-- One law for each way out of the functions that answer a line.
use Rattle.std.specs.Prelude.{Result, Ok, Err}
use mathlib.Core.Path.{◌≡◌, refl, ap, sym, ◌∙◌}
use mathlib.Core.List.{List}
use Prim.Native.Nat.{ℕ, ◌≤◌, ◌<◌}
use native.Mathlib.Omega.{arith}
use Rattle.std.proofs.Common.{Option, Some, None}
use lib.Ieee.{Float}
use lib.ListN.{length}
use Rattle.lists.specs.Choose.{cond-true}
use Rattle.design.specs.declared.InstrumentDesign.{InstrumentDesign}
use Rattle.outcome.specs.declared.Refusal.{Refusal}
use Rattle.design.specs.Accepted.{design_reply}
use Rattle.forms.specs.declared.DesignForm.{DesignForm}
use Rattle.forms.specs.declared.OnForm.{OnForm}
use Rattle.forms.specs.declared.Form.{Form}
use Rattle.forms.specs.Forms.{FormAs}
use Rattle.forms.specs.Named.{bits, design_of}
use Rattle.model.specs.Types as model
use Rattle.model.specs.Start.{fresh, start_of}
use Rattle.table.specs.View.{voices_in}
use Rattle.outcome.specs.declared.Outcome.{Outcome}
use Rattle.instrument.specs.View.{view}
use Rattle.instrument.specs.Calls.{Called, reply_of, CallAs, StartAs}
use Rattle.instrument.proofs.Parts.{accepted-yes}
use Rattle.instrument.specs.declared.Instrument.{Instrument}
use Rattle.script.specs.declared.Said.{Said}
use Rattle.script.specs.Answers.{unread_text, start_text, reply_text, table_text}
use Rattle.script.specs.Lines.{Printed, call_of, Stays, DesignDoes, OnDoes, VoicesDoes, Does, LineAs}

not-both : {n : Refusal} {A : Type 0} (x : Result (Unit {0}) Refusal) → x ≡ Ok tt → x ≡ Err n → A
not-both x e f = let z : ⊥ = cc in absurd z

-- ---- a line that its session does not take

module _ (s : Option Instrument) (old new : List ℕ) (r : Said) (x : Stays s unread_text old new r) where
  pub design_second : (i : Instrument) (d : InstrumentDesign) → s ≡ Some i → DesignDoes s d old new r
  design_second i d e = rw e (rw e at x)

  pub on_first : (c : model.Call) → s ≡ None → OnDoes s c old new r
  on_first c e = rw e (rw e at x)

  pub voices_first : s ≡ None → VoicesDoes s old new r
  voices_first e = rw e (rw e at x)

-- ---- a design

module _ (s : Option Instrument) (f : DesignForm) (d : InstrumentDesign) (made : Outcome Instrument (Unit {0})) (old new : List ℕ) (count : ℕ)
    (e : s ≡ None) (is : d ≡ design_of f) (p : StartAs d made) where
  pub design_refused : ((u : Unit {0}) → made.reply ≡ Ok u → ⊥) → Printed (start_text made.reply) old new count
      → DesignDoes s (design_of f) old new (record { session = s; count = count })
  unfolding start_of
  design_refused w q =
      let g : made.reply ≡ design_reply (design_of f) = p.reply ∙ ap design_reply is in
      rw e (record {
        refused = λ m z. record { session = refl; printed = rw (g ∙ z) at q };
        accepted = λ z. absurd (w tt (g ∙ z));
      })

  pub design_ready : made.reply ≡ Ok tt → Printed (start_text made.reply) old new count
      → DesignDoes s (design_of f) old new (record { session = Some made.state; count = count })
  unfolding start_of
  design_ready w q =
      let g : design_reply d ≡ Ok tt = sym p.reply ∙ w in
      rw e (record {
        refused = λ m z. not-both _ g (ap design_reply is ∙ z);
        accepted = λ _. record {
          started = made.state;
          session = refl;
          in_room = p.in_room;
          state = p.state ∙ cond-true _ _ _ (sym (accepted-yes d g)) ∙ ap fresh is;
          printed = rw w at q;
        };
      })

-- ---- an `on`

pub on_calls : (s : Option Instrument) (i : Instrument) (f : OnForm) (v : Float) (o : Called) (old new : List ℕ) (count : ℕ) → s ≡ Some i → v ≡ bits f.velocity
    → CallAs i (model.Call.note_on f.note v f.built) o → Printed (reply_text (reply_of o.reply)) old new count
    → OnDoes s (call_of f) old new (record { session = Some o.state; count = count })
on_calls s i f v o old new count e h p q =
    let c : CallAs i (call_of f) o = rw h at p in
    rw e (record {
      next = o.state;
      session = refl;
      steps = record { reply = refl; refused = c.refused; in_room = c.in_room; next = c.next };
      printed = rw c.reply at q;
    })

-- ---- the table

pub voices_table : (s : Option Instrument) (i : Instrument) (old new : List ℕ) (count : ℕ) → s ≡ Some i
    → Printed (table_text (voices_in i.table)) old new count
    → VoicesDoes s old new (record { session = Some i; count = count })
unfolding view
voices_table s i old new count e q = rw e (record { session = refl; printed = q })

-- ---- a line

module _ (s : Option Instrument) (l old new : List ℕ) (r : Said) where
  pub line_small : length old < 4096 → r.session ≡ s → new ≡ old → r.count ≡ 0 → LineAs s l old new r
  line_small h a b c = record { small = λ _. (a, b, c); answered = λ k. let z : ⊥ = omega arith in absurd z }

  pub line_does : (form f : Option Form) → 4096 ≤ length old → FormAs l form → form ≡ f → Does f s old new r → LineAs s l old new r
  line_does form f h p e q = record {
    small = λ k. let z : ⊥ = omega arith in absurd z;
    answered = λ _. record { form = form; reads = p; does = rw e q };
  }
