use Rattle.std.proofs.Common.{List, ◌++◌, get_or, map, vec_items, sym, refl, ap, ◌∙◌, append-nil}
use Rattle.ratchet.specs.Blank.{blank}
use Rattle.ratchet.specs.declared.sides.Side.{Side}
use Rattle.ratchet.specs.State.{state_of}
use Rattle.runs.specs.Rule.{exposed}
use Rattle.runs.specs.Stock.{key_of, stocks}
use Rattle.runs.specs.Working.{works_out}
use Rattle.exposure.proofs.Rowing.{agree, rows_none, row_put}
use Rattle.exposure.proofs.rows.put_rows.Goals as goal

pub returns-in_err-rule-clause-agree : goal.returns-in_err-rule-clause-agree
returns-in_err-rule-clause-agree c = agree (map state_of c.args.readings.now)

pub returns-in_err-workings-clause-agree : goal.returns-in_err-workings-clause-agree
returns-in_err-workings-clause-agree c = agree (map state_of c.args.readings.now)

pub loop-i-init : goal.loop-i-init
loop-i-init c =
    let out = vec_items c.args.out.now in
    sym (append-nil out) ∙ ap (λ l. out ++ l) (sym (rows_none (map state_of c.args.readings.now) 1))

pub returns-in_err-put_row-clause-agree : goal.returns-in_err-put_row-clause-agree
returns-in_err-put_row-clause-agree c = agree (map state_of c.args.readings.now)

pub loop-i-preserved : goal.loop-i-preserved
loop-i-preserved c =
    let m = get_or c.args.marks.now c.loop-i.i blank in
    let lies_open = c.exposed-open.ensures ∙ ap (λ (l : List Side). exposed (map state_of l) m.link m.place) c.in_ok-rule.ensures.0 in
    let known = c.known-known.ensures.value ∙ ap (λ (l : List Side). works_out (stocks (map state_of l)) (key_of m)) c.in_ok-workings.ensures.0 in
    row_put (map state_of c.args.readings.now) (vec_items c.args.out.now) (vec_items c.loop-i.out) (vec_items c.put_row.new.out) c.args.marks.now
    c.loop-i.i c.loop-i.i blank _ _ c.loop-i-test.true c.loop-i.invariant refl lies_open known c.in_ok-put_row.ensures.row

pub returns-clause-agree : goal.returns-clause-agree
returns-clause-agree c = agree (map state_of c.args.readings.now)
