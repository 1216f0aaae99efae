-- What the readers of a form's parts answer.
use Rattle.std.specs.Prelude.{◌≡◌, Option, Some, List, ℕ, ◌≤◌}
use Rattle.text.specs.Text.{NoDigit}
use Rattle.text.specs.Read.{ReadAs, Any}
use Rattle.design.specs.declared.PlayMode.{PlayMode}
use Rattle.forms.specs.declared.AmpForm.{AmpForm}
use Rattle.forms.specs.declared.ModulationForm.{ModulationForm}
use Rattle.forms.specs.declared.DesignForm.{DesignForm}
use Rattle.forms.specs.declared.OnForm.{OnForm}
use Rattle.forms.specs.Forms.{then_mode, decimal_part, mode_part, word_part, amp_text, modulation_text, design_text, on_text, Below32, AmpFits, ModulationFits, DesignFits, OnFits}

abbrev pub LedDecimal : List ℕ → ℕ → List ℕ → Option (ℕ × List ℕ) → Type 0
LedDecimal lead most = ReadAs (decimal_part lead) (λ v. v ≤ most) NoDigit

abbrev pub LedWord : List ℕ → List ℕ → Option (ℕ × List ℕ) → Type 0
LedWord lead = ReadAs (word_part lead) Below32 Any

-- every mode may be
abbrev pub AnyMode : PlayMode → Type 0
AnyMode m = Unit

abbrev pub ModeAs : List ℕ → Option (PlayMode × List ℕ) → Type 0
ModeAs = ReadAs (mode_part then_mode) AnyMode Any

abbrev pub AmpAs : List ℕ → Option (AmpForm × List ℕ) → Type 0
AmpAs = ReadAs amp_text AmpFits Any

abbrev pub ModulationAs : List ℕ → Option (ModulationForm × List ℕ) → Type 0
ModulationAs = ReadAs modulation_text ModulationFits Any

-- a whole line of one kind: the form whose text it is
pub record LineOf {A : Type 0} (text : A → List ℕ) (Fits : A → Type 0) (line : List ℕ) (r : Option A) : Type 0 where
  pub yes : (f : A) → r ≡ Some f → Fits f × (line ≡ text f)
  pub only : (f : A) → Fits f → line ≡ text f → r ≡ Some f

abbrev pub DesignAs : List ℕ → Option DesignForm → Type 0
DesignAs = LineOf design_text DesignFits

abbrev pub OnAs : List ℕ → Option OnForm → Type 0
OnAs = LineOf on_text OnFits
