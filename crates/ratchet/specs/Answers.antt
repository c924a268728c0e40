-- What the answers of the calls mean: each case's number and values.
-- Assumes nothing.
use Rattle.std.specs.Prelude.{◌≡◌, Result, Ok, Err}
use Rattle.ratchet.specs.declared.sides.Side.{Side}
use Rattle.ratchet.specs.declared.steps.Taken.{Taken}
use Rattle.ratchet.specs.declared.steps.Taken.TheVariants as taken
use Rattle.ratchet.specs.declared.types.Message.{Message}
use Rattle.ratchet.specs.declared.types.Refused.{Refused}
use Rattle.ratchet.specs.Numbers.{number}
use Rattle.ratchet.specs.State.{state_of}
use Rattle.ratchet.specs.Steps.{Answer, kept, refused, message}

abbrev pub Sent : Type 0
Sent = Result (Side × Message) (Refused Side)

abbrev pub sent_answer : Sent → Answer
sent_answer (Ok done) = kept (state_of done.0)
sent_answer (Err e) = refused (number e.why)

abbrev pub taken_answer : Taken → Answer
taken_answer (taken.Opened s) = kept (state_of s)
taken_answer (taken.Refused s why) = refused (number why)

-- what else is handed back: the message, the next of the side as it was; refused, the very side
abbrev pub SentBy : Side → Sent → Type 0
SentBy s (Ok done) = done.1 ≡ message (state_of s)
SentBy s (Err e) = e.side ≡ s

abbrev pub TakenBy : Side → Taken → Type 0
TakenBy s (taken.Opened t) = Unit {0}
TakenBy s (taken.Refused t why) = t ≡ s
