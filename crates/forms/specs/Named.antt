-- The design that a design line names.
use Rattle.std.specs.Prelude.{ℕ, Float}
use Rattle.std.specs.Float.Ieee.{of_bits}
use Rattle.std.specs.Float.{binary32}
use Rattle.design.specs.declared.Adsr.{Adsr}
use Rattle.design.specs.declared.Modulation.{Modulation}
use Rattle.design.specs.declared.InstrumentDesign.{InstrumentDesign}
use Rattle.forms.specs.declared.AmpForm.{AmpForm}
use Rattle.forms.specs.declared.ModulationForm.{ModulationForm}
use Rattle.forms.specs.declared.DesignForm.{DesignForm}

abbrev pub bits : ℕ → Float
bits n = of_bits binary32 n

abbrev pub amp_of : AmpForm → Adsr
amp_of f = record { a = bits f.a; d = bits f.d; s = bits f.s; r = bits f.r }

abbrev pub modulation_of : ModulationForm → Modulation
modulation_of f = record {
  vibrato_rate = bits f.vibrato_rate;
  vibrato_cents = bits f.vibrato_cents;
  tremolo_rate = bits f.tremolo_rate;
  tremolo_depth = bits f.tremolo_depth;
  filter_rate = bits f.filter_rate;
  filter_octaves = bits f.filter_octaves;
}

abbrev pub design_of : DesignForm → InstrumentDesign
design_of f = record {
  sample_rate = f.rate;
  max_voices = f.max;
  mode = f.mode;
  unison = f.unison;
  unison_width = bits f.width;
  amp = amp_of f.amp;
  glide = bits f.glide;
  modulation = modulation_of f.modulation;
}
