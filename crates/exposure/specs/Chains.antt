-- From which place on the chain of a link is known.
-- Assumes nothing.
use Rattle.std.specs.Prelude.{◌≡◌, ℕ, suc, ◌<◌, Bool, false, cond, ◌&&◌, ◌||◌, List, length, Some, None, Option, ◌==◌, nat_le, slice_index_or}
use Rattle.ratchet.specs.State.{State}
use Rattle.chain.specs.Secret.{chain_at}
use Rattle.runs.specs.Stock.{stocks}
use Rattle.runs.specs.Working.{works_out}

-- is a place at or after the one that is given, if one is
abbrev pub at_or_after : Option ℕ → ℕ → Bool
at_or_after None i = false
at_or_after (Some p) i = nat_le p i

-- a side from which the value of link n's chain at place i can be had by going on: it sends on that link, or takes on it, at that place or before
abbrev pub reaches : ℕ → ℕ → State → Bool
reaches n i s = (s.drawn == suc n && nat_le s.sent i) || (s.drawn == suc (suc n) && nat_le s.taken i)

-- from which place on a side held link n's chain, if it did
abbrev pub start_of : ℕ → State → Option ℕ
start_of n s = cond (s.drawn == suc n) (Some s.sent) (cond (s.drawn == suc (suc n)) (Some s.taken) None)

-- a table says of each link from which place on its chain can be worked out, if from any
abbrev pub Starts : List State → List (Option ℕ) → Type 0
Starts rs starts = (n i : ℕ) → n < length starts → at_or_after (slice_index_or starts n None) i ≡ works_out (stocks rs) (chain_at n i)
