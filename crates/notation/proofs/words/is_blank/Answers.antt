use Rattle.std.proofs.Common.{not, ap, rules}
use Rattle.std.proofs.lemmas.Iterator.{YieldsList-from_slice}
use Rattle.std.proofs.lemmas.Iterator.Search.{any_from_yields_List}
use borrow.Author.Tests.{tests}
use Rattle.notation.specs.Words.{visible}
use Rattle.notation.proofs.words.is_blank.Goals as goal

pub returns : goal.returns
returns c =
    ap not (any_from_yields_List visible _ _ c.any.result c.any.ensures.ran (YieldsList-from_slice c.args.line.now cc) (λ x b q k. search (rules, tests)))
