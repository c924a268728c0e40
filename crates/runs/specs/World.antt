-- The two sides and all that happened to them: what was sealed, what left, what was opened and handed out, what was read.
-- Assumes that whatever opens was sent: `opens` below.
use Rattle.std.specs.Prelude.{ℕ, zero, suc, Bool, false, ◌&&◌, ◌||◌, List, [], ◌∷◌, ◌++◌}
use Rattle.runs.specs.declared.types.Who.{Who}
use Rattle.runs.specs.declared.types.Who.TheVariants.{First, Second}
use Rattle.ratchet.specs.declared.types.Message.{Message}
use Rattle.ratchet.specs.Same.{same_message}
use Rattle.ratchet.specs.State.{State, begun}
use Rattle.ratchet.specs.Steps.{Answer, kept, refused, send, take, message}

-- One side and its history, each list oldest first. `side` is what its file says: between steps it is what the side is.
-- sealed: the messages sealed with their key; left: those of them that left the side; opened: the messages taken; handed: those whose text was handed out
pub record Party : Type 0 where
  pub side : State
  pub sealed : List Message
  pub left : List Message
  pub opened : List Message
  pub handed : List Message

pub record World : Type 0 where
  pub first : Party
  pub second : Party
  pub readings : List State

abbrev pub new_party : ℕ → Party
new_party drawn = record { side = begun drawn; sealed = []; left = []; opened = []; handed = [] }

abbrev pub start : World
start = record { first = new_party 1; second = new_party 0; readings = [] }

abbrev pub other : Who → Who
other First = Second
other Second = First

abbrev pub party : Who → World → Party
party First w = w.first
party Second w = w.second

abbrev pub with_party : Who → Party → World → World
with_party First p w = record { first = p; second = w.second; readings = w.readings }
with_party Second p w = record { first = w.first; second = p; readings = w.readings }

-- ### What a step does outside the side's memory, one effect after another

-- write: the page after a send; keep: the page after a message was taken; seal, leave: a message is sealed with its key, and leaves; hand: an opened text is handed out
pub data Effect : Type 0 where
  write : State → Effect
  keep : State → Message → Effect
  seal : Message → Effect
  leave : Message → Effect
  hand : Message → Effect

abbrev pub perform : Effect → Party → Party
perform (write s) p = record { side = s; sealed = p.sealed; left = p.left; opened = p.opened; handed = p.handed }
perform (keep s m) p = record { side = s; sealed = p.sealed; left = p.left; opened = p.opened ++ m ∷ []; handed = p.handed }
perform (seal m) p = record { side = p.side; sealed = p.sealed ++ m ∷ []; left = p.left; opened = p.opened; handed = p.handed }
perform (leave m) p = record { side = p.side; sealed = p.sealed; left = p.left ++ m ∷ []; opened = p.opened; handed = p.handed }
perform (hand m) p = record { side = p.side; sealed = p.sealed; left = p.left; opened = p.opened; handed = p.handed ++ m ∷ [] }

-- the first so many effects: after them the side stops, if any are left, and comes up as its file says
abbrev pub performed : ℕ → List Effect → Party → Party
performed n [] p = p
performed zero (e ∷ es) p = p
performed (suc n) (e ∷ es) p = performed n es (perform e p)

-- the page is written first, and only then is the text sealed, or handed out
abbrev pub send_effects : Answer → Message → List Effect
send_effects (kept s) m = write s ∷ seal m ∷ leave m ∷ []
send_effects (refused n) m = []

abbrev pub take_effects : Answer → Message → List Effect
take_effects (kept s) m = keep s m ∷ hand m ∷ []
take_effects (refused n) m = []

-- ### Events

-- send: one sends a text of so many bytes; take: one takes a message, whole or damaged; read: one is read out.
-- Sends and takes say after how many effects the side stops (or later: then it does not)
pub data Event : Type 0 where
  sends : Who → (text_length effects : ℕ) → Event
  takes : Who → Message → (whole : Bool) → (effects : ℕ) → Event
  reads : Who → Event

unfoldable pub among : Message → List Message → Bool
among m [] = false
among m (x ∷ xs) = same_message x m || among m xs

-- a message opens if the other side sent it, and it comes whole
abbrev pub opens : World → Who → Message → Bool → Bool
opens w who m whole = whole && among m (party (other who) w).left

abbrev pub send_answer : World → Who → ℕ → Answer
send_answer w who n = send n (party who w).side

abbrev pub take_answer : World → Who → Message → Bool → Answer
take_answer w who m whole = take (opens w who m whole) (party who w).side m

abbrev pub step : Event → World → World
step (sends who n effects) w =
    with_party who (performed effects (send_effects (send_answer w who n) (message (party who w).side)) (party who w)) w
step (takes who m whole effects) w =
    with_party who (performed effects (take_effects (take_answer w who m whole) m) (party who w)) w
step (reads who) w = record { first = w.first; second = w.second; readings = w.readings ++ (party who w).side ∷ [] }

-- events oldest first
unfoldable pub run : List Event → World → World
run [] w = w
run (e ∷ es) w = run es (step e w)
