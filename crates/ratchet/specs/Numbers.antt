-- The number of each refusal, as programs print it.
-- Assumes nothing.
use Rattle.std.specs.Prelude.{ℕ}
use Rattle.ratchet.specs.declared.types.Refusal.{Refusal}
use Rattle.ratchet.specs.declared.types.Refusal.TheVariants.{Malformed, NoLink, Unknown, TooMany, NotOpened, Exhausted}

abbrev pub number : Refusal → ℕ
number Malformed = 1
number NoLink = 2
number Unknown = 3
number TooMany = 4
number NotOpened = 5
number Exhausted = 6
