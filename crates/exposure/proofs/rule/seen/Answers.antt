use Rattle.std.proofs.Common.{◌∙◌, rules}
use Rattle.std.proofs.lemmas.Iterator.{YieldsList-from_slice}
use Rattle.std.proofs.lemmas.Iterator.Search.{any_from_yields_List}
use borrow.Author.Tests.{tests}
use Rattle.ratchet.specs.declared.sides.Side.{Side}
use Rattle.ratchet.specs.State.{state_of}
use Rattle.exposure.specs.Chains.{reaches}
use Rattle.exposure.proofs.Among.{any-read}
use Rattle.exposure.proofs.rule.seen.Goals as goal

pub returns : goal.returns
returns c =
    let rs = c.args.readings.now in
    let p = reaches c.args.mark.link c.args.mark.place in
    any_from_yields_List (λ (x : Side). p (state_of x)) _ _ c.any.result c.any.ensures.ran (YieldsList-from_slice rs cc) (λ x b q k. search (rules, tests)) ∙ any-read p rs
