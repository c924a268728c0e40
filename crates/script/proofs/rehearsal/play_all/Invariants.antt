use Rattle.std.proofs.Common.{◌≡◌, ℕ, drop, vec_items}
use Rattle.std.specs.Slice.Iter.{split_inclusive_rest}
use Rattle.script.specs.Whole.{Through}
use Rattle.script.proofs.rehearsal.play_all.Given as goal

abbrev pub invariant-loop-line : goal.invariant-loop-line
invariant-loop-line l =
    (at : ℕ) × (split_inclusive_rest l.line-iterator ≡ drop at l.script)
    × Through l.view l.script l.initial.player (vec_items l.initial.out) at l.number l.player (vec_items l.out)
