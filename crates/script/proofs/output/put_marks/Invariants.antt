use Rattle.std.proofs.Common.{◌≡◌, ◌++◌, take, vec_items}
use Rattle.std.specs.List.{flat_map}
use Rattle.script.specs.Output.{spaced_mark}
use Rattle.script.proofs.output.put_marks.Given as goal

abbrev pub invariant-loop-mark : goal.invariant-loop-mark
invariant-loop-mark l = vec_items l.out ≡ vec_items l.initial.out ++ flat_map spaced_mark (take l.mark-index l.marks)
