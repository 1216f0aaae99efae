-- The design of a refused start's state (document 01, "What a call replies": "a state of zeros, Poly").
use Rattle.float32.specs.Numbers.{zero as +0}
use Rattle.design.specs.declared.InstrumentDesign.{InstrumentDesign}
use Rattle.design.specs.declared.PlayMode.TheVariants.{Poly}

abbrev pub zero_design : InstrumentDesign
zero_design = record {
  sample_rate = 0;
  max_voices = 0;
  mode = Poly;
  unison = 0;
  unison_width = +0;
  amp = record { a = +0; d = +0; s = +0; r = +0 };
  glide = +0;
  modulation = record { vibrato_rate = +0; vibrato_cents = +0; tremolo_rate = +0; tremolo_depth = +0; filter_rate = +0; filter_octaves = +0 };
}
