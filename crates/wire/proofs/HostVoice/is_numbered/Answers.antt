use Rattle.wire.specs.Reads.{voice_numbered, copy_numbered}
use Rattle.std.proofs.Common.{rules, tests, arith, take, ◌∙◌}
use Rattle.std.proofs.lemmas.Grind.{common_steps}
use Rattle.std.proofs.lemmas.Iterator.{YieldsList-from_slice, YieldsList-from_take}
use Rattle.std.proofs.lemmas.Iterator.Search.{all_from_yields_List}
use Rattle.wire.proofs.Loops.{all_same}
use Rattle.wire.proofs.HostVoice.is_numbered.Goals as goal

pub returns-then-self-le1-2 : goal.returns-then-self-le1-2
unfolding voice_numbered
returns-then-self-le1-2 c =
    let v = c.args.self.now in
    let copies = all_from_yields_List copy_numbered _ _ c.all.result c.all.ensures.ran
    (YieldsList-from_take v.copy_count (YieldsList-from_slice v.copies cc) cc) (λ x b q k. search (rules, tests)) ∙ all_same copy_numbered (take v.copy_count v.copies) in
    grind (arith, common_steps)
