-- What a state of the streaming form holds of the message so far.
use Rattle.std.specs.Prelude.{◌≡◌, ℕ, ◌+◌, ◌-◌, ◌*◌, ◌%◌, ◌^◌, ◌<◌, ◌≤◌, List, length, take, drop, replicate}
use Rattle.digest.specs.Sha256.{absorbed, initial}
use Rattle.digest.specs.declared.streaming.Hasher.{Hasher}

-- the state that holds nothing
unfoldable pub fresh : Hasher
fresh = record { value = initial; pending = replicate 64 0; count = 0 }

-- the whole blocks of m are absorbed, and the bytes behind them are pending
pub record Holds (x : Hasher) (m : List ℕ) : Type 0 where
  pub blocks : ℕ
  pub whole : 64 * blocks ≤ length m
  pub rest : length m < 64 * blocks + 64
  pub value : x.value ≡ absorbed initial m blocks
  pub pending : take (length m - 64 * blocks) x.pending ≡ drop (64 * blocks) m
  pub count : x.count ≡ length m % 2 ^ 64
