use Rattle.std.proofs.Common.{◌≡◌, ◌++◌, take, vec_items}
use Rattle.notation.specs.Escapes.{escaped}
use Rattle.notation.proofs.text.put_text.Given as goal

abbrev pub invariant-loop-b : goal.invariant-loop-b
invariant-loop-b l = vec_items l.out ≡ vec_items l.initial.out ++ escaped (take l.b-index l.text)
