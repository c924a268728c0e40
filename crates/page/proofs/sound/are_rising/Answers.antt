-- Neighbour by neighbour.
use Rattle.std.proofs.Common.{rules}
use Rattle.std.proofs.lemmas.Fn.{always_returns_same}
use Rattle.page.proofs.Marks.{lower, rising_answer}
use Rattle.page.proofs.sound.are_rising.Goals as goal

pub returns : goal.returns
returns c = rising_answer c.args.marks.now c.is_sorted_by.result (c.is_sorted_by.ensures.cases lower (always_returns_same _ _ _ (λ a r f' h. (search rules, search rules))))
