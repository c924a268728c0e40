-- A rehearsal seen as a world, and what its steps do to it.
-- Assumes nothing.
use Rattle.std.specs.Borrow.{Bor}
use Rattle.std.specs.Prelude.{◌≡◌, ℕ, ◌+◌, ◌-◌, ◌*◌, Bool, true, false, cond, List, [], ◌∷◌, ◌++◌, map, length, Some, None, Ok, Err, vec_items, Option, Result, ◌==◌, nat_le, nat_lt, slice_index_or}
use Rattle.ratchet.specs.Same.{no_message}
use Rattle.ratchet.specs.declared.types.Message.{Message}
use Rattle.ratchet.specs.State.{state_of}
use Rattle.ratchet.specs.Steps.{message}
use Rattle.runs.specs.declared.types.Who.{Who}
use Rattle.runs.specs.declared.types.Who.TheVariants.{First, Second}
use Rattle.runs.specs.World.{World, step, sends, takes, party, other, among, send_answer, take_answer}
use Rattle.stage.specs.declared.types.When.{When}
use Rattle.stage.specs.declared.types.Sending.{Sending}
use Rattle.stage.specs.declared.types.Sending.TheVariants as sending
use Rattle.stage.specs.declared.types.NoDelivery.{NoDelivery}
use Rattle.stage.specs.declared.types.NoDelivery.TheVariants.{NoSuchMessage, NoSuchBit, NeverLeft}
use Rattle.stage.specs.declared.types.Taking.{Taking}
use Rattle.stage.specs.declared.device.Device.{Device}
use Rattle.stage.specs.declared.player.Letter.{Letter}
use Rattle.stage.specs.declared.player.Player.{Player}
use Rattle.stage.specs.Plan.{due_next, up_to}
use Rattle.stage.specs.Devices.{party_of, plan_of, plan_then, outcome, SendingIs, TakingIs}

abbrev pub world_of : Player → World
world_of p = record { first = party_of p.first; second = party_of p.second; readings = map state_of (vec_items p.readings) }

-- a message with who sent it and its text
pub record Post : Type 0 where
  pub from : Who
  pub message : Message
  pub text : List ℕ

abbrev pub post_of : Letter → Post
post_of l = record { from = l.from; message = l.message; text = vec_items l.text }

abbrev pub letters_of : Player → List Post
letters_of p = map post_of (vec_items p.letters)

abbrev pub device : Who → Player → Device
device First p = p.first
device Second p = p.second

-- what the plan of one says of its next write
abbrev pub due_for : Who → Player → Option When
due_for who p = due_next (plan_of (device who p))

-- a message that was sealed is numbered, whether it left or not
abbrev pub posted : Who → List ℕ → Sending → List Post
posted who text (sending.Sent m) = record { from = who; message = m; text = text } ∷ []
posted who text (sending.Lost m) = record { from = who; message = m; text = text } ∷ []
posted who text sending.Stopped = []
posted who text (sending.Refused why) = []

pub record SendPlayed (who : Who) (text : List ℕ) (p q : Player) (r : Sending) : Type 0 where
  pub world : world_of q ≡ step (sends who (length text) (up_to (due_for who p) 3)) (world_of p)
  pub plan : plan_of (device who q) ≡ plan_then (send_answer (world_of p) who (length text)) (plan_of (device who p))
  pub told : SendingIs (message (party who (world_of p)).side) (outcome (send_answer (world_of p) who (length text)) (due_for who p)) r
  pub letters : letters_of q ≡ letters_of p ++ posted who text r

-- ### Deliveries

abbrev pub no_post : Post
no_post = record { from = First; message = no_message; text = [] }

-- message M is the M-th that was sealed
abbrev pub numbered : ℕ → Player → Post
numbered n p = slice_index_or (letters_of p) (n - 1) no_post

abbrev pub is_there : ℕ → Player → Bool
is_there n p = cond (n == 0) false (nat_le n (length (letters_of p)))

-- a message has 63 bytes besides its text; the bit to be turned, if any, is in it
abbrev pub bit_is_there : Option ℕ → Post → Bool
bit_is_there None l = true
bit_is_there (Some b) l = nat_lt b (8 * (63 + length l.text))

-- a message in which a bit was turned does not come whole
abbrev pub whole : Option ℕ → Bool
whole None = true
whole (Some b) = false

-- a message of one side that left comes to the other, whole or not
pub record Delivered (from : Who) (m : Message) (whole : Bool) (p q : Player) (r : Taking) : Type 0 where
  pub world : world_of q ≡ step (takes (other from) m whole (up_to (due_for (other from) p) 2)) (world_of p)
  pub plan : plan_of (device (other from) q) ≡ plan_then (take_answer (world_of p) (other from) m whole) (plan_of (device (other from) p))
  pub told : TakingIs (outcome (take_answer (world_of p) (other from) m whole) (due_for (other from) p)) r
  pub letters : letters_of q ≡ letters_of p

-- did a message of one side leave it
abbrev pub has_left : Post → Player → Bool
has_left l p = among l.message (party l.from (world_of p)).left

-- a message and its sender, if it can be delivered with that bit turned; else what stands against it, the first that does
abbrev pub Deliverable : ℕ → Option ℕ → Player → Result (Who × Message) NoDelivery → Type 0
Deliverable n flip p (Err NoSuchMessage) = is_there n p ≡ false
Deliverable n flip p (Err NoSuchBit) = (is_there n p ≡ true) × (bit_is_there flip (numbered n p) ≡ false)
Deliverable n flip p (Err NeverLeft) = (is_there n p ≡ true) × (bit_is_there flip (numbered n p) ≡ true) × (has_left (numbered n p) p ≡ false)
Deliverable n flip p (Ok t) =
    (is_there n p ≡ true) × (bit_is_there flip (numbered n p) ≡ true) × (has_left (numbered n p) p ≡ true) ×
    (t.0 ≡ (numbered n p).from) × (t.1 ≡ (numbered n p).message)

-- what a delivery came to: a message or a bit that there isn't, or a message that never left, and all is as it was; else the other side took it
abbrev pub DeliveryIs : ℕ → Option ℕ → Player → Player → Result Taking NoDelivery → Type 0
DeliveryIs n flip p q (Err NoSuchMessage) = (is_there n p ≡ false) × (q ≡ p)
DeliveryIs n flip p q (Err NoSuchBit) = (is_there n p ≡ true) × (bit_is_there flip (numbered n p) ≡ false) × (q ≡ p)
DeliveryIs n flip p q (Err NeverLeft) = (is_there n p ≡ true) × (bit_is_there flip (numbered n p) ≡ true) × (has_left (numbered n p) p ≡ false) × (q ≡ p)
DeliveryIs n flip p q (Ok r) =
    (is_there n p ≡ true) × (bit_is_there flip (numbered n p) ≡ true) × (has_left (numbered n p) p ≡ true) ×
    Delivered (numbered n p).from (numbered n p).message (whole flip) p q r

-- what a look-up of message n found: the message with who sent it and its text
abbrev pub Looked : ℕ → Player → Option (Bor Letter) → Type 0
Looked n p None = is_there n p ≡ false
Looked n p (Some l) = (is_there n p ≡ true) × (post_of l.now ≡ numbered n p)
