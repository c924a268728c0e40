use Rattle.std.proofs.Common.{◌≡◌, ◌-◌, ◌++◌, drop, replicate}
use Rattle.ratchet.specs.Blank.{blank}
use Rattle.page.specs.Parts.{marks_in}
use Rattle.page.proofs.pages.Page.marks.Given as goal

abbrev pub invariant-loop-i : goal.invariant-loop-i
invariant-loop-i l = l.marks ≡ marks_in l.i (drop 147 l.self.bytes.now) ++ replicate (512 - l.i) blank
