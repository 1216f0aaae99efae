-- The text of each form that the script program reads (document 01, "The script program"): a line is read as a form exactly when it is
-- that form's text.
use Rattle.std.specs.Prelude.{◌≡◌, true, false, Option, Some, List, [], ◌∷◌, ◌++◌, ℕ, ◌≤◌, ◌<◌, length}
use Rattle.lists.specs.Count.{one_if}
use Rattle.design.specs.declared.PlayMode.{PlayMode}
use Rattle.design.specs.declared.PlayMode.TheVariants.{Poly, Mono}
use Rattle.text.specs.Text.{decimal_text, word_text}
use Rattle.forms.specs.declared.AmpForm.{AmpForm}
use Rattle.forms.specs.declared.ModulationForm.{ModulationForm}
use Rattle.forms.specs.declared.DesignForm.{DesignForm}
use Rattle.forms.specs.declared.OnForm.{OnForm}
use Rattle.forms.specs.declared.Form.{Form}
use Rattle.forms.specs.declared.Form.TheVariants.{Design, On, Voices}

-- ---- the words, in ASCII

-- `(design (rate `
abbrev pub open_design : List ℕ
open_design = 40 ∷ 100 ∷ 101 ∷ 115 ∷ 105 ∷ 103 ∷ 110 ∷ 32 ∷ 40 ∷ 114 ∷ 97 ∷ 116 ∷ 101 ∷ 32 ∷ []

-- `) (max `
abbrev pub then_max : List ℕ
then_max = 41 ∷ 32 ∷ 40 ∷ 109 ∷ 97 ∷ 120 ∷ 32 ∷ []

-- `) (mode `
abbrev pub then_mode : List ℕ
then_mode = 41 ∷ 32 ∷ 40 ∷ 109 ∷ 111 ∷ 100 ∷ 101 ∷ 32 ∷ []

-- `) (unison `
abbrev pub then_unison : List ℕ
then_unison = 41 ∷ 32 ∷ 40 ∷ 117 ∷ 110 ∷ 105 ∷ 115 ∷ 111 ∷ 110 ∷ 32 ∷ []

-- ` `
abbrev pub space : List ℕ
space = 32 ∷ []

-- `) (amp `
abbrev pub then_amp : List ℕ
then_amp = 41 ∷ 32 ∷ 40 ∷ 97 ∷ 109 ∷ 112 ∷ 32 ∷ []

-- `) (glide `
abbrev pub then_glide : List ℕ
then_glide = 41 ∷ 32 ∷ 40 ∷ 103 ∷ 108 ∷ 105 ∷ 100 ∷ 101 ∷ 32 ∷ []

-- `) (mod `
abbrev pub then_mod : List ℕ
then_mod = 41 ∷ 32 ∷ 40 ∷ 109 ∷ 111 ∷ 100 ∷ 32 ∷ []

-- `))`
abbrev pub close_design : List ℕ
close_design = 41 ∷ 41 ∷ []

-- `(on `
abbrev pub open_on : List ℕ
open_on = 40 ∷ 111 ∷ 110 ∷ 32 ∷ []

-- `)`
abbrev pub close : List ℕ
close = 41 ∷ []

-- `(voices)`
abbrev pub voices : List ℕ
voices = 40 ∷ 118 ∷ 111 ∷ 105 ∷ 99 ∷ 101 ∷ 115 ∷ 41 ∷ []

-- `poly`
abbrev pub poly : List ℕ
poly = 112 ∷ 111 ∷ 108 ∷ 121 ∷ []

-- `mono`
abbrev pub mono : List ℕ
mono = 109 ∷ 111 ∷ 110 ∷ 111 ∷ []

-- `legato`
abbrev pub legato : List ℕ
legato = 108 ∷ 101 ∷ 103 ∷ 97 ∷ 116 ∷ 111 ∷ []

-- "Mode is poly, mono or legato"
abbrev pub mode_text : PlayMode → List ℕ
mode_text Poly = poly
mode_text (Mono false) = mono
mode_text (Mono true) = legato

-- ---- a number behind the words that lead to it

abbrev pub decimal_part : List ℕ → ℕ → List ℕ
decimal_part lead n = lead ++ decimal_text n

abbrev pub mode_part : List ℕ → PlayMode → List ℕ
mode_part lead m = lead ++ mode_text m

abbrev pub word_part : List ℕ → ℕ → List ℕ
word_part lead n = lead ++ word_text n

-- "amp: a d s r"
abbrev pub amp_text : AmpForm → List ℕ
amp_text f = word_part then_amp f.a ++ (word_part space f.d ++ (word_part space f.s ++ word_part space f.r))

-- "mod: rate and depth of vibrato, tremolo, filter"
abbrev pub modulation_text : ModulationForm → List ℕ
modulation_text f =
    word_part then_mod f.vibrato_rate ++ (
    word_part space f.vibrato_cents ++ (
    word_part space f.tremolo_rate ++ (word_part space f.tremolo_depth ++ (word_part space f.filter_rate ++ word_part space f.filter_octaves))))

-- "Unison: count, width"
abbrev pub design_text : DesignForm → List ℕ
design_text f =
    decimal_part open_design f.rate ++ (
    decimal_part then_max f.max ++ (
    mode_part then_mode f.mode ++ (
    decimal_part then_unison f.unison ++ (
    word_part space f.width ++ (amp_text f.amp ++ (word_part then_glide f.glide ++ (modulation_text f.modulation ++ close_design)))))))

-- "On: note, velocity bits, built"
abbrev pub on_text : OnForm → List ℕ
on_text f = decimal_part open_on f.note ++ (word_part space f.velocity ++ (decimal_part space (one_if f.built) ++ close))

-- ---- which numbers a form may hold: those of its types

abbrev pub Below32 : ℕ → Type 0
Below32 n = n < 0x1_0000_0000

-- a word has 32 bits
pub record AmpFits (f : AmpForm) : Type 0 where
  pub a : Below32 f.a
  pub d : Below32 f.d
  pub s : Below32 f.s
  pub r : Below32 f.r

pub record ModulationFits (f : ModulationForm) : Type 0 where
  pub vibrato_rate : Below32 f.vibrato_rate
  pub vibrato_cents : Below32 f.vibrato_cents
  pub tremolo_rate : Below32 f.tremolo_rate
  pub tremolo_depth : Below32 f.tremolo_depth
  pub filter_rate : Below32 f.filter_rate
  pub filter_octaves : Below32 f.filter_octaves

-- "decimals .. are below 2^32"
pub record DesignFits (f : DesignForm) : Type 0 where
  pub rate : Below32 f.rate
  pub max : Below32 f.max
  pub unison : Below32 f.unison
  pub width : Below32 f.width
  pub amp : AmpFits f.amp
  pub glide : Below32 f.glide
  pub modulation : ModulationFits f.modulation

-- "a note at most 255, built 0 or 1"
pub record OnFits (f : OnForm) : Type 0 where
  pub note : f.note ≤ 255
  pub velocity : Below32 f.velocity

-- the line is the text of a form that may be: "a line has at most 256 bytes before its line feed"
abbrev pub Says : List ℕ → Form → Type 0
Says line (Design f) = (length line ≤ 256) × DesignFits f × (line ≡ design_text f)
Says line (On f) = (length line ≤ 256) × OnFits f × (line ≡ on_text f)
Says line Voices = (length line ≤ 256) × (line ≡ voices)

-- the answer is the form whose text the line is: None says that there is none
pub record FormAs (line : List ℕ) (r : Option Form) : Type 0 where
  pub says : (f : Form) → r ≡ Some f → Says line f
  pub only : (f : Form) → Says line f → r ≡ Some f
