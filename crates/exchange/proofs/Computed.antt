-- The worked exchange, by computing it.
use Rattle.std.proofs.Common.{◌≡◌, ◌+◌, ◌*◌, replicate, Some, refl, arith}
use Rattle.ratchet.specs.State.{has, without, places}
use Rattle.exchange.specs.Outside.{Lawful, seal, unseal, same_bytes}
use Rattle.exchange.specs.Wire.{header_bytes, read_message}
use Rattle.exchange.specs.Exchanges.{walked, keys_along, key_aside, keys_without, message_bytes}
use Rattle.exchange.specs.Network.{run}
use Rattle.exchange.specs.Cases.{sums, Worked}

sums-lawful : Lawful sums
sums-lawful = record {
  link_length = λ r j. refl;
  key_length = λ c. refl;
  next_length = λ c. refl;
  cover_length = λ k t. refl;
  cover_twice = λ k t. refl;
  tag_length = λ k b. refl;
  half_length = λ d. refl;
  meet = λ m n. record { secret = replicate 32 (2 * m + (2 * n + 1)); ours = refl; theirs = let e : 2 * n + 1 + 2 * m ≡ 2 * m + (2 * n + 1) = omega arith in λ i. Some (replicate 32 (e i)) };
}

pub worked : Worked
unfolding run seal unseal same_bytes header_bytes read_message walked keys_along key_aside keys_without message_bytes has without places
worked = record {
  lawful = sums-lawful;
  left = refl;
  size = refl;
  handed = refl;
  twice = refl;
  back = refl;
  damaged = refl;
  mended = refl;
  cut = refl;
  box_empty = refl;
  undone = refl;
  another = refl;
  again = refl;
  replied = refl;
  drew = refl;
}
