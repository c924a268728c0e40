-- The run of the model that belongs to a run on bytes.
-- Assumes nothing.
use Rattle.std.specs.Prelude.{ℕ, ◌/◌, Bool, false, ◌||◌, List, [], ◌∷◌, ◌++◌, map, length, Some, None, Option, slice_index}
use Rattle.ratchet.specs.declared.types.Message.{Message}
use Rattle.runs.specs.declared.types.Who.{Who}
use Rattle.runs.specs.World as model
use Rattle.exchange.specs.Outside.{Outside, same_bytes}
use Rattle.exchange.specs.Wire.{Parts, read_message}
use Rattle.exchange.specs.Held.{Ground, drawer}
use Rattle.exchange.specs.Exchanges.{Taken, opened, kept_out, no_key}
use Rattle.exchange.specs.Network.{Letter, Box, Party, Reading, World, Event, sends, comes, reads, party, take_answer, step}

-- ### A world without its bytes

abbrev pub messages : List Letter → List Message
messages ls = map (λ (l : Letter). l.message) ls

abbrev pub model_party : Party → model.Party
model_party p = record {
  side = p.held.state;
  sealed = messages p.sealed;
  left = messages p.left;
  opened = messages p.opened;
  handed = messages p.handed;
}

abbrev pub model_world : World → model.World
model_world w = record { first = model_party w.first; second = model_party w.second; readings = map (λ (r : Reading). r.held.state) w.readings }

-- ### The events without their bytes

-- did some bytes leave
unfoldable pub on_net : (bytes : List ℕ) → List Letter → Bool
on_net bytes [] = false
on_net bytes (l ∷ ls) = same_bytes l.bytes bytes || on_net bytes ls

-- where the box has no further key nothing is kept: as if the side had stopped before it wrote its page
abbrev pub effects_of : Taken → ℕ → ℕ
effects_of (opened h text drew) n = n
effects_of (kept_out k) n = n
effects_of no_key n = 0

-- bytes that the other side sent are its message, whole; others are a damaged one, or none at all
abbrev pub take_event : Who → Option Parts → (whole : Bool) → (effects : ℕ) → List model.Event
take_event who None whole n = []
take_event who (Some p) whole n = model.takes who p.message whole n ∷ []

abbrev pub model_event : Outside → World → Event → List model.Event
model_event o w (sends who text n) = model.sends who (length text) n ∷ []
model_event o w (comes who bytes ready n) =
    take_event who (read_message bytes) (on_net bytes (party (model.other who) w).left) (effects_of (take_answer o w who bytes ready) n)
model_event o w (reads who) = model.reads who ∷ []

unfoldable pub model_events : Outside → List Event → World → List model.Event
model_events o [] w = []
model_events o (e ∷ es) w = model_event o w e ++ model_events o es (step o e w)

-- ### Which draw each key was

abbrev pub draws_of : Box → List ℕ
draws_of b = b.past ++ b.own ∷ []

-- the first side's keys are 1, 3, 5 and on, the second's 0, 2, 4 and on
abbrev pub ground_of : (secret : List ℕ) → World → Ground
ground_of secret w = record { secret = secret; draws = λ n. slice_index (draws_of (party (drawer n) w).box) (n / 2) }
