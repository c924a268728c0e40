-- What lies open, given the sides that were read out.
-- Assumes nothing.
use Rattle.std.specs.Prelude.{ℕ, zero, suc, Bool, false, ◌&&◌, ◌||◌, List, [], ◌∷◌, ◌==◌, nat_eq, nat_le}
use Rattle.ratchet.specs.State.{State, has}

-- was a side read of which this holds
unfoldable pub any_read : (State → Bool) → List State → Bool
any_read p [] = false
any_read p (s ∷ ss) = p s || any_read p ss

-- was a side read that had drawn key n
abbrev pub read_at : List State → ℕ → Bool
read_at rs n = any_read (λ s. nat_eq s.drawn n) rs

-- root n lies open if a side was read that had drawn key n, or link n - 1 lies open;
-- link n lies open if root n does and a side was read that had drawn key n or key n + 1
unfoldable pub root_open : List State → ℕ → Bool
root_open rs zero = read_at rs 0
root_open rs (suc n) = read_at rs (suc n) || (root_open rs n && (read_at rs n || read_at rs (suc n)))

abbrev pub link_open : List State → ℕ → Bool
link_open rs n = root_open rs n && (read_at rs n || read_at rs (suc n))

-- one reading that opens the key of link n, place i: the sender's, that had sent i or fewer; the taker's, whose next place was i or before; or one that had the key put aside
abbrev pub sees : ℕ → ℕ → State → Bool
sees n i s =
    (s.drawn == suc n && nat_le s.sent i) ||
    ((s.drawn == suc (suc n) && nat_le s.taken i) || has (record { link = n; place = i }) s.skipped)

-- the key of link n, place i lies open
abbrev pub exposed : List State → ℕ → ℕ → Bool
exposed rs n i = link_open rs n || any_read (sees n i) rs
