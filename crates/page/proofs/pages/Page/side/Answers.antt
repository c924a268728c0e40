-- The counts where they stand, and the marks behind them.
use Rattle.std.proofs.Common.{replicate, drop, ◌-◌}
use Rattle.std.proofs.lemmas.List.{take_at}
use Rattle.ratchet.specs.Blank.{blank}
use Rattle.page.specs.Parts.{marks_in}
use Rattle.page.proofs.Parsed.{length-marks}
use Rattle.page.proofs.pages.Page.side.Goals as goal

pub returns-clause-state : goal.returns-clause-state
returns-clause-state c =
    let page = c.args.self.now in
    let counted = page.counted in
    let entries = drop 147 page.bytes.now in
    let marks = c.marks.ensures in
    let front = take_at (marks_in page.count entries) (replicate (512 - page.count) blank) page.count (length-marks page.count entries) in
    cc
