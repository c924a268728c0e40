-- The first state holds the empty message.
use Rattle.std.proofs.Common.{refl}
use Rattle.digest.proofs.Streamed.{fresh-from, holds-none}
use Rattle.digest.proofs.streaming.Hasher.new.Goals as goal

pub returns : goal.returns
returns c = record {
  value = fresh-from _ _ _ c.first_values.ensures refl refl;
  holds = holds-none _ c.first_values.ensures refl;
}
