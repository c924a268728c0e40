-- The blocks so far are absorbed.
use Rattle.std.proofs.Common.{◌≡◌}
use Rattle.digest.specs.Sha256.{absorbed}
use Rattle.digest.proofs.block.absorb.Given as goal

abbrev pub invariant-loop-block : goal.invariant-loop-block
invariant-loop-block l = l.value ≡ absorbed l.initial.value l.message l.block-index
