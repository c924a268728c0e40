use Rattle.std.proofs.Common.{eqb, map, sym, ◌∙◌, rules}
use Rattle.std.proofs.lemmas.Iterator.{YieldsList-from_slice}
use Rattle.std.proofs.lemmas.Iterator.Search.{any_from_yields_List}
use borrow.Author.Tests.{tests}
use Rattle.ratchet.specs.declared.sides.Side.{Side}
use Rattle.ratchet.specs.State.{state_of}
use Rattle.runs.proofs.Stocks.{own_read, root_read}
use Rattle.exposure.proofs.Among.{any-read}
use Rattle.exposure.proofs.readings.read_at.Goals as goal

pub returns : goal.returns
returns c =
    let rs = c.args.readings.now in
    let n = c.args.n in
    let found = any_from_yields_List (λ (x : Side). eqb x.drawn n) _ _ c.any.result c.any.ensures.ran (YieldsList-from_slice rs cc) (λ x b q k. search (rules, tests)) in
    let read = found ∙ any-read (λ s. eqb s.drawn n) rs in
    record { read = read; half = read ∙ sym (own_read (map state_of rs) n); root = read ∙ sym (root_read (map state_of rs) n) }
