use Rattle.std.proofs.Common.{Some, sym, ◌∙◌, rules}
use Rattle.std.proofs.lemmas.Iterator.{YieldsList-from_slice}
use Rattle.std.proofs.lemmas.Iterator.Consumers.{fold_from_yields_List}
use Rattle.notation.specs.Decimals.{digit_after}
use Rattle.notation.proofs.Texts.{number-some}
use Rattle.notation.proofs.numbers.parse_number.Goals as goal

pub returns : goal.returns
returns c =
    let digits = c.args.digits.now in
    fold_from_yields_List _ digit_after (Some 0) c.fold.result c.fold.ensures.ran (YieldsList-from_slice digits cc) (λ a x b q k. search rules)
    ∙ sym (number-some digits (sym c.is_empty.ensures ∙ c.if-is_empty.false))
