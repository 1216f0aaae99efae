use Rattle.lists.specs.Changed.{changed-seen}
use Rattle.voice.proofs.Copied.{copied, copied_seen}
use Rattle.voice.proofs.Voice.with_copies.Goals as goal

pub returns : goal.returns
unfolding copied
returns g c = λ f m. copied_seen f c.args.self _ (changed-seen _ (λ x. x) f m _ _ _ c.change_first.ensures)
