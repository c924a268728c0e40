use Rattle.std.proofs.Common.{◌≡◌}
use Rattle.seal.specs.ChaCha20.{double_rounds}
use Rattle.seal.proofs.rounds.twenty_rounds.Given as goal

abbrev pub invariant-loop-turn : goal.invariant-loop-turn
invariant-loop-turn l = l.s ≡ double_rounds l._turn l.initial.s
