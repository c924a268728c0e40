-- Which sides there are: what the page of the first or of the second side may say.
-- Assumes nothing.
use Rattle.std.specs.Prelude.{◌≡◌, ℕ, ◌+◌, ◌%◌, ◌^◌, ◌<◌, ◌≤◌, ◌⊎◌, List, [], ◌∷◌, length}
use Rattle.std.specs.List.{AllByRecursion}
use Rattle.ratchet.specs.declared.types.Mark.{Mark}
use Rattle.ratchet.specs.State.{State}
use Rattle.runs.specs.declared.types.Who.{Who}
use Rattle.runs.specs.declared.types.Who.TheVariants.{First, Second}
use Rattle.exchange.specs.Held.{Held, blank}
use Rattle.exchange.specs.Promise.{Sized}

-- ### Keys put aside

-- on a lower link, or at a lower place of the same link
abbrev pub Below : Mark → Mark → Type 0
Below a b = (a.link < b.link) ⊎ ((a.link ≡ b.link) × (a.place < b.place))

-- each below all that come behind it
abbrev pub Rising : List Mark → Type 0
Rising [] = Unit {0}
Rising (m ∷ ms) = AllByRecursion (Below m) ms × Rising ms

-- of a link that the side takes on or took on, and on the one that it takes on of a place before the next
pub record Aside (drawn taken : ℕ) (m : Mark) : Type 0 where
  pub old : m.link + 2 ≤ drawn
  pub parity : m.link % 2 ≡ drawn % 2
  pub passed : m.link + 2 ≡ drawn → m.place < taken

-- ### Counts and chains

-- nothing was taken: there is no chain to take on, and no key is put aside
pub record Untaken (s : State) (taking : List ℕ) : Type 0 where
  pub taken : s.taken ≡ 0
  pub before : s.before ≡ 0
  pub chain : taking ≡ blank
  pub none : s.skipped ≡ []

-- nothing was sent, and there is no chain to send on
pub record Unsent (s : State) (sending : List ℕ) : Type 0 where
  pub sent : s.sent ≡ 0
  pub chain : sending ≡ blank

-- what the number of its last key says of the rest
pub record Begun (s : State) (sending taking : List ℕ) : Type 0 where
  -- with nothing drawn but key 0
  pub unsent : s.drawn ≡ 0 → Unsent s sending
  -- with nothing drawn but key 0 or key 1
  pub untaken : s.drawn < 2 → Untaken s taking
  -- with two or more drawn
  pub answered : 2 ≤ s.drawn → 0 < s.taken
  -- with key 2, of a side that had not sent before
  pub first : s.drawn ≡ 2 → s.before ≡ 0

-- the first side has the odd keys, the second the even ones
abbrev pub parity_of : Who → ℕ
parity_of First = 1
parity_of Second = 0

-- how counts, chains and marks go together
pub record Sound (who : Who) (s : State) (sending taking : List ℕ) : Type 0 where
  pub parity : s.drawn % 2 ≡ parity_of who
  pub begun : Begun s sending taking
  pub rising : Rising s.skipped
  pub aside : AllByRecursion (Aside s.drawn s.taken) s.skipped

-- ### A side

-- a link, place or count fits 4 bytes; a mark's link is below `drawn`
pub record Counted (s : State) : Type 0 where
  pub drawn : s.drawn < 2 ^ 32
  pub sent : s.sent < 2 ^ 32
  pub taken : s.taken < 2 ^ 32
  pub before : s.before < 2 ^ 32
  pub places : AllByRecursion (λ m. m.place < 2 ^ 32) s.skipped

-- a side that there can be: all that its page says can be written, keys are in step with their marks, at most 512, and all goes together
pub record Valid (who : Who) (h : Held) : Type 0 where
  pub counted : Counted h.state
  pub sized : Sized h
  pub in_step : length h.keys ≡ length h.state.skipped
  pub few : length h.state.skipped ≤ 512
  pub sound : Sound who h.state h.sending h.taking
