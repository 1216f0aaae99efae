use Rattle.wire.specs.Reads.{numbered, voice_numbered}
use Rattle.std.proofs.Common.{rules, tests, arith, take, ◌∙◌}
use Rattle.std.proofs.lemmas.Grind.{common_steps}
use Rattle.std.proofs.lemmas.Iterator.{YieldsList-from_slice, YieldsList-from_take}
use Rattle.std.proofs.lemmas.Iterator.Search.{all_from_yields_List}
use Rattle.wire.proofs.Loops.{all_same}
use Rattle.wire.proofs.HostState.is_numbered.Goals as goal

pub returns-then-self-le1 : goal.returns-then-self-le1
unfolding numbered
returns-then-self-le1 c =
    let h = c.args.self.now in
    let voices = all_from_yields_List voice_numbered _ _ c.all.result c.all.ensures.ran
    (YieldsList-from_take h.voice_count (YieldsList-from_slice h.voices cc) cc) (λ x b q k. search (rules, tests)) ∙ all_same voice_numbered (take h.voice_count h.voices) in
    grind (arith, common_steps)
