-- One mark after another.
use Rattle.std.proofs.Common.{◌≡◌, ◌-◌, ◌*◌, ◌++◌, drop, replicate, sym, ap, ◌∙◌, arith}
use Rattle.std.proofs.lemmas.List.{take_rest}
use Rattle.ratchet.specs.Blank.{blank}
use Rattle.page.specs.Parts.{mark_at, marks_in}
use Rattle.page.proofs.Parsed.{marks-none, marks_set}
use Rattle.page.proofs.pages.Page.marks.Goals as goal

pub loop-i-init : goal.loop-i-init
loop-i-init c = sym (ap (λ ms. ms ++ replicate 512 blank) (marks-none (drop 147 c.args.self.now.bytes.now)))

pub loop-i-preserved : goal.loop-i-preserved
loop-i-preserved c =
    let bytes = c.args.self.now.bytes.now in
    let is = c.mark_at.ensures ∙ ap (λ b. mark_at b (40 * c.loop-i.i)) (take_rest bytes 147) in
    marks_set c.loop-i.marks (drop 147 bytes) c.loop-i.i c.mark_at.result (omega arith) is c.loop-i.invariant

pub returns : goal.returns
returns c =
    let all : c.loop-i.i ≡ c.args.self.now.count = omega arith in
    c.loop-i.invariant ∙ ap (λ i. marks_in i (drop 147 c.args.self.now.bytes.now) ++ replicate (512 - i) blank) all
