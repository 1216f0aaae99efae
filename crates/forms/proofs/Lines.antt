-- Whole lines: the parts as forms, and one law for each way out of the reader of a line.
use mathlib.Core.Path.{◌≡◌, refl, ap, sym, ◌∙◌}
use mathlib.Core.Bool.{Bool, true, false}
use mathlib.Core.List.{List, ◌∷◌, ◌++◌}
use Prim.Native.Nat.{ℕ, zero, suc, ◌≤◌, ◌<◌}
use native.Mathlib.Omega.{arith}
use lib.Dec.{eqb}
use lib.ListN.{length}
use Rattle.std.proofs.Common.{Some, None}
use Rattle.lists.specs.Count.{one_if}
use Rattle.lists.specs.Parts.{head-same, tail-same}
use Rattle.design.specs.declared.PlayMode.{PlayMode}
use Rattle.forms.specs.declared.AmpForm.{AmpForm}
use Rattle.forms.specs.declared.ModulationForm.{ModulationForm}
use Rattle.forms.specs.declared.DesignForm.{DesignForm}
use Rattle.forms.specs.declared.OnForm.{OnForm}
use Rattle.forms.specs.declared.Form.{Form}
use Rattle.forms.specs.declared.Form.TheVariants.{Design, On, Voices}
use Rattle.forms.specs.Forms.{Below32, open_design, then_max, then_mode, then_unison, then_glide, then_mod, close_design, space, open_on, close, voices, decimal_part, mode_part, word_part, amp_text, modulation_text, design_text, on_text, AmpFits, ModulationFits, DesignFits, OnFits, Says, FormAs}
use Rattle.forms.specs.Parts.{AnyMode, DesignAs, OnAs}
use Rattle.forms.proofs.Chains.{SameText}

abbrev pub ModulationParts : Type 0
ModulationParts = ℕ × (ℕ × (ℕ × (ℕ × (ℕ × ℕ))))

abbrev pub modulation_of : ModulationParts → ModulationForm
modulation_of p = record {
  vibrato_rate = p.0;
  vibrato_cents = p.1.0;
  tremolo_rate = p.1.1.0;
  tremolo_depth = p.1.1.1.0;
  filter_rate = p.1.1.1.1.0;
  filter_octaves = p.1.1.1.1.1;
}

abbrev pub modulation_parts : ModulationForm → ModulationParts
modulation_parts f = (f.vibrato_rate, (f.vibrato_cents, (f.tremolo_rate, (f.tremolo_depth, (f.filter_rate, f.filter_octaves)))))

pub modulation_same : SameText {A = ModulationParts}
    (λ p. word_part then_mod p.0 ++ (word_part space p.1.0 ++ (word_part space p.1.1.0 ++ (word_part space p.1.1.1.0 ++ (word_part space p.1.1.1.1.0 ++ word_part space p.1.1.1.1.1)))))
    (λ p. Below32 p.0 × (Below32 p.1.0 × (Below32 p.1.1.0 × (Below32 p.1.1.1.0 × (Below32 p.1.1.1.1.0 × Below32 p.1.1.1.1.1)))))
    modulation_text ModulationFits modulation_of modulation_parts
modulation_same = record {
  text = λ v h. refl;
  fits = λ v h. record {
    vibrato_rate = h.0;
    vibrato_cents = h.1.0;
    tremolo_rate = h.1.1.0;
    tremolo_depth = h.1.1.1.0;
    filter_rate = h.1.1.1.1.0;
    filter_octaves = h.1.1.1.1.1;
  };
  fits_back = λ w h. (h.vibrato_rate, (h.vibrato_cents, (h.tremolo_rate, (h.tremolo_depth, (h.filter_rate, h.filter_octaves)))));
  again = λ w. refl;
}

abbrev pub OnParts : Type 0
OnParts = ℕ × (ℕ × (ℕ × Unit {0}))

abbrev pub on_of : OnParts → OnForm
on_of p = record { note = p.0; velocity = p.1.0; built = eqb p.1.1.0 1 }

abbrev pub on_parts : OnForm → OnParts
on_parts f = (f.note, (f.velocity, (one_if f.built, tt)))

bit : (n : ℕ) → n ≤ 1 → n ≡ one_if (eqb n 1)
bit zero h = refl
bit (suc zero) h = refl
bit (suc (suc n)) h = let z : ⊥ = omega arith in absurd z

pub bit_small : (b : Bool) → one_if b ≤ 1
bit_small true = omega arith
bit_small false = omega arith

bit_again : (b : Bool) → eqb (one_if b) 1 ≡ b
bit_again true = refl
bit_again false = refl

pub on_same : SameText {A = OnParts} (λ p. decimal_part open_on p.0 ++ (word_part space p.1.0 ++ (decimal_part space p.1.1.0 ++ close)))
    (λ p. (p.0 ≤ 255) × (Below32 p.1.0 × ((p.1.1.0 ≤ 1) × Unit {0}))) on_text OnFits on_of on_parts
on_same = record {
  text = λ v h. ap (λ (b : ℕ). decimal_part open_on v.0 ++ (word_part space v.1.0 ++ (decimal_part space b ++ close))) (bit v.1.1.0 h.1.1.0);
  fits = λ v h. record { note = h.0; velocity = h.1.0 };
  fits_back = λ w h. (h.note, (h.velocity, (bit_small w.built, tt)));
  again = λ w. let form : Bool → OnForm = λ b. record { note = w.note; velocity = w.velocity; built = b } in ap form (bit_again w.built);
}

-- a form is known by its fields
pub on_form : (l : List ℕ) (p : OnParts) (note velocity : ℕ) (built : Bool) → OnAs l (Some (on_of p)) → note ≡ p.0 → velocity ≡ p.1.0 → built ≡ eqb p.1.1.0 1
    → OnAs l (Some (record { note = note; velocity = velocity; built = built }))
on_form l p note velocity built q a b c = rw (a, b, c) q

abbrev pub DesignParts : Type 0
DesignParts = ℕ × (ℕ × (PlayMode × (ℕ × (ℕ × (AmpForm × (ℕ × (ModulationForm × Unit {0})))))))

abbrev pub design_of : DesignParts → DesignForm
design_of p = record {
  rate = p.0;
  max = p.1.0;
  mode = p.1.1.0;
  unison = p.1.1.1.0;
  width = p.1.1.1.1.0;
  amp = p.1.1.1.1.1.0;
  glide = p.1.1.1.1.1.1.0;
  modulation = p.1.1.1.1.1.1.1.0;
}

abbrev pub design_parts : DesignForm → DesignParts
design_parts f = (f.rate, (f.max, (f.mode, (f.unison, (f.width, (f.amp, (f.glide, (f.modulation, tt))))))))

pub within : {n : ℕ} → n < 0x1_0000_0000 → n ≤ 0xffff_ffff
within h = omega arith

under : {n : ℕ} → n ≤ 0xffff_ffff → n < 0x1_0000_0000
under h = omega arith

pub design_same : SameText {A = DesignParts}
    (λ p. decimal_part open_design p.0 ++ (
    decimal_part then_max p.1.0 ++ (
    mode_part then_mode p.1.1.0 ++ (
    decimal_part then_unison p.1.1.1.0 ++ (
    word_part space p.1.1.1.1.0 ++ (
    amp_text p.1.1.1.1.1.0 ++ (word_part then_glide p.1.1.1.1.1.1.0 ++ (modulation_text p.1.1.1.1.1.1.1.0 ++ close_design))))))))
    (λ p. (p.0 ≤ 0xffff_ffff) × (
    (p.1.0 ≤ 0xffff_ffff) × (
    AnyMode p.1.1.0 × (
    (p.1.1.1.0 ≤ 0xffff_ffff) × (
    Below32 p.1.1.1.1.0 × (
    AmpFits p.1.1.1.1.1.0 × (Below32 p.1.1.1.1.1.1.0 × (ModulationFits p.1.1.1.1.1.1.1.0 × Unit {0}))))))))
    design_text DesignFits design_of design_parts
design_same = record {
  text = λ v h. refl;
  fits = λ v h. record {
    rate = under h.0;
    max = under h.1.0;
    unison = under h.1.1.1.0;
    width = h.1.1.1.1.0;
    amp = h.1.1.1.1.1.0;
    glide = h.1.1.1.1.1.1.0;
    modulation = h.1.1.1.1.1.1.1.0;
  };
  fits_back = λ w h. (within h.rate, (within h.max, (tt, (within h.unison, (h.width, (h.amp, (h.glide, (h.modulation, tt))))))));
  again = λ w. refl;
}

-- ---- the ways out

-- a design, an `on` and `(voices)` differ in their second byte
clash : (x y : ℕ) (xs ys l : List ℕ) {A : Type 0} → (x ≡ y → ⊥) → l ≡ 40 ∷ x ∷ xs → l ≡ 40 ∷ y ∷ ys → A
clash x y xs ys l f p q = absurd (f (head-same (tail-same (sym p ∙ q))))

form-some : (l : List ℕ) (f : Form) → Says l f → ((g : Form) → Says l g → f ≡ g) → FormAs l (Some f)
form-some l f s same = record {
  says = λ g e. let q : f ≡ g = cc in rw (← q) s;
  only = λ g t. ap (λ (x : Form). Some x) (same g t);
}

module _ (l : List ℕ) (h : length l ≤ 256) where
  pub is-design : (d : DesignForm) → DesignAs l (Some d) → FormAs l (Some (Design d))
  is-design d p = let y = p.yes d refl in form-some l (Design d) (h, y.0, y.1) same
    where
      same : (f : Form) → Says l f → Design d ≡ f
      same (Design f) s = let e = p.only f s.1 s.2 in cc
      same (On f) s = clash 100 111 _ _ l (λ z. omega arith) (p.yes d refl).1 s.2
      same Voices s = clash 100 118 _ _ l (λ z. omega arith) (p.yes d refl).1 s.1

  pub is_none : DesignAs l None → OnAs l None → (l ≡ voices → ⊥) → FormAs l None
  is_none p q v = record { says = λ f e. let z : ⊥ = cc in absurd z; only = none }
    where
      none : (f : Form) → Says l f → None ≡ Some f
      none (Design f) s = let e = p.only f s.1 s.2 in let z : ⊥ = cc in absurd z
      none (On f) s = let e = q.only f s.1 s.2 in let z : ⊥ = cc in absurd z
      none Voices s = absurd (v s.1)
