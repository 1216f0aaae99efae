use mathlib.Core.Path.{refl}
use native.Mathlib.Omega.{arith}
use Rattle.table.proofs.Adding.{killed-few, added}
use Rattle.table.proofs.Edits.{seen-least}
use Rattle.table.proofs.Sizes.{voices-long}
use Rattle.table.proofs.Table.add.Goals as goal

pub take_quietest-taken-requires : goal.take_quietest-taken-requires
take_quietest-taken-requires c =
    killed-few _ (record { voices = c.args.self.voices; count = c.min.result }) _ _ (voices-long c.args.self c.well_formed.0) (omega arith) c.kill_quietest-killed.ensures

pub returns : goal.returns
returns c =
    added _ c.args.self _ c.min.result (seen-least c.args.self (voices-long c.args.self c.well_formed.0) _ c.min.ensures) _ _ _ _ _
    c.kill_quietest-killed.ensures c.take_quietest-taken.ensures c.push-table.ensures refl refl
