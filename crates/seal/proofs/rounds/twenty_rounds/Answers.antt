use Rattle.seal.proofs.Streams.{double_rounds_none, double_rounds_more}
use Rattle.seal.proofs.rounds.twenty_rounds.Goals as goal

pub loop-turn-init : goal.loop-turn-init
loop-turn-init c = double_rounds_none c.args.s.now

pub loop-turn-preserved : goal.loop-turn-preserved
loop-turn-preserved c = let more = double_rounds_more c.loop-turn._turn c.args.s.now in cc
