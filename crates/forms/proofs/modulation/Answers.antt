use Rattle.text.specs.Read.{Any}
use Rattle.forms.proofs.Chains.{and_then, as_form}
use Rattle.forms.proofs.Lines.{modulation_same}
use Rattle.forms.proofs.modulation.Goals as goal

-- `forms::modulation` meets its contract: its words, one after the other.

pub returns : goal.returns
returns c =
    as_form _ _ _ _ _ _ modulation_same Any _ (
      c.in_ok-vibrato_rate.vibrato_rate,
      (
        c.in_ok-vibrato_cents.vibrato_cents,
        (
          c.in_ok-tremolo_rate.tremolo_rate,
          (
            c.in_ok-tremolo_depth.tremolo_depth,
            (c.in_ok-filter_rate.filter_rate, c.in_ok-filter_octaves.filter_octaves),
          ),
        ),
      ),
    ) _
    (and_then _ _ _ _ _ _ _ _ _ _ _ c.in_ok-vibrato_rate.ensures (and_then _ _ _ _ _ _ _ _ _ _ _ c.in_ok-vibrato_cents.ensures
    (and_then _ _ _ _ _ _ _ _ _ _ _ c.in_ok-tremolo_rate.ensures (and_then _ _ _ _ _ _ _ _ _ _ _ c.in_ok-tremolo_depth.ensures
    (and_then _ _ _ _ _ _ _ _ _ _ _ c.in_ok-filter_rate.ensures c.in_ok-filter_octaves.ensures (λ w rest k. tt)) (λ w rest k. tt))
    (λ w rest k. tt)) (λ w rest k. tt)) (λ w rest k. tt))
