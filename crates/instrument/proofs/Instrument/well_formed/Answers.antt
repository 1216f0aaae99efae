use mathlib.Core.Path.{◌∙◌}
use Rattle.std.proofs.Common.{rules, arith}
use Rattle.std.proofs.lemmas.Grind.{common_steps}
use Rattle.instrument.proofs.Parts.{accepted_is}
use Rattle.instrument.proofs.Formed.{asked-formed}
use Rattle.instrument.proofs.Instrument.well_formed.Goals as goal

pub returns-then-fits : goal.returns-then-fits
returns-then-fits c =
    let e = accepted_is c.args.self.now.design in
    (search rules) ∙ asked-formed c.args.self.now (search rules) (search rules)

pub returns-else-fits : goal.returns-else-fits
returns-else-fits c = grind (arith, common_steps, accepted_is) ∙ asked-formed c.args.self.now (search rules) (search rules)
