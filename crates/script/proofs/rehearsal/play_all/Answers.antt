use Rattle.std.proofs.Common.{ℕ, ◌+◌, eqb, List, Ok, Err, vec_items, length, sym, ap, subst, ◌∙◌, rules, arith, length-drop}
use borrow.Author.Tests.{tests}
use Rattle.std.specs.Slice.Iter.{split_inclusive_rest}
use Rattle.script.specs.Played.{Told}
use Rattle.script.specs.Views.{Turned}
use Rattle.script.specs.Whole.{Through, begun, onward, all_played, bad_line}
use Rattle.script.proofs.Lines.{cut-line, computes}
use Rattle.script.proofs.Runs.{ended-lawful}
use Rattle.script.proofs.rehearsal.play_all.Goals as goal

pub loop-line-init : goal.loop-line-init
loop-line-init c =
    (0, ap split_inclusive_rest c.into_iter-line-iterator.ensures.into_iter_gives ∙ c.split_inclusive-line-items.ensures.rest, begun)

pub loop-line-preserved : goal.loop-line-preserved
loop-line-preserved c =
    let inv = c.loop-line.invariant in
    let s = c.args.script.now in
    let h = c.in-Some.ensures.steps in
    let first = (h.1.2 (λ b. eqb b 10) (computes (λ b. eqb b 10) (λ a r f f' k. search (rules, tests)) _)).1 in
    let cut = cut-line s inv.0 _ c.in-Some.line.now _ h.1.0 inv.1 h.0 first h.2 h.1.1 in
    let o = vec_items c.loop-line.out in
    let u = vec_items c.turn.new.out in
    let good = subst (λ (b : Told). Turned c.args.view c.loop-line.number c.without_newline.result.now c.loop-line.player c.turn.new.player o u b)
    c.in_default.is c.in_ok-why.ensures in
    let turned = subst (λ (l : List ℕ). Turned c.args.view c.loop-line.number l c.loop-line.player c.turn.new.player o u (Ok c.in_default.field-0))
    (c.without_newline.ensures ∙ cut.line) good in
    let through = subst (λ (n : ℕ). Through c.args.view s c.args.player.now (vec_items c.args.out.now) (cut.end + 1) n c.turn.new.player u)
    (sym c.saturating_add-number.ensures) (onward inv.2 cut.within cut.end cut.ends c.in_default.field-0 turned) in
    (cut.end + 1, cut.onward, through)

pub returns-in-Err : goal.returns-in-Err
returns-in-Err c =
    let inv = c.loop-line.invariant in
    let h = c.in-Some.ensures.steps in
    let first = (h.1.2 (λ b. eqb b 10) (computes (λ b. eqb b 10) (λ a r f f' k. search (rules, tests)) _)).1 in
    let cut = cut-line c.args.script.now inv.0 _ c.in-Some.line.now _ h.1.0 inv.1 h.0 first h.2 h.1.1 in
    let o = vec_items c.loop-line.out in
    let u = vec_items c.turn.new.out in
    let poor = subst (λ (b : Told). Turned c.args.view c.loop-line.number c.without_newline.result.now c.loop-line.player c.turn.new.player o u b)
    c.in-Err.is c.in_ok-why.ensures in
    let turned = subst (λ (l : List ℕ). Turned c.args.view c.loop-line.number l c.loop-line.player c.turn.new.player o u (Err c.in-Err.why))
    (c.without_newline.ensures ∙ cut.line) poor in
    let bad = bad_line inv.2 cut.within cut.end cut.ends c.in-Err.why turned in
    record { ended = bad; lawful = ended-lawful bad }

pub returns : goal.returns
returns c =
    let inv = c.loop-line.invariant in
    let h = c.in-None.ensures.steps.0 in
    let e = all_played inv.2 (omega (arith, h, ap length inv.1, length-drop inv.0 c.args.script.now)) in
    record { ended = e; lawful = ended-lawful e }
