-- What playing a line does to a rehearsal and to what it prints.
-- Assumes nothing.
use Rattle.std.specs.Prelude.{◌≡◌, ℕ, List, ◌++◌, length, drop, Some, None, Ok, Err, Option, Result}
use Rattle.runs.specs.declared.types.Who.{Who}
use Rattle.runs.specs.World.{step, reads}
use Rattle.script.specs.declared.commands.Command.{Command}
use Rattle.script.specs.declared.commands.Command.TheVariants.{Nothing, Send, Deliver, Plan, Read, Show}
use Rattle.script.specs.declared.play.BadLine.{BadLine}
use Rattle.script.specs.declared.play.BadLine.TheVariants as bad
use Rattle.script.specs.declared.play.Played.{Played}
use Rattle.script.specs.declared.play.Played.TheVariants as played
use Rattle.stage.specs.declared.player.Player.{Player}
use Rattle.stage.specs.declared.types.Sending.{Sending}
use Rattle.stage.specs.declared.types.Taking.{Taking}
use Rattle.stage.specs.declared.types.NoDelivery.{NoDelivery}
use Rattle.stage.specs.declared.types.BadStop.{BadStop}
use Rattle.stage.specs.declared.types.Stop.{Stop}
use Rattle.stage.specs.Devices.{plan_of}
use Rattle.stage.specs.Plan.{Planned}
use Rattle.notation.specs.Escapes.{unescaped}
use Rattle.script.specs.Output.{sending_line, taking_line, read_line}
use Rattle.stage.specs.Players.{world_of, letters_of, device, numbered, SendPlayed, DeliveryIs}

-- what playing a line comes to
abbrev pub Told : Type 0
Told = Result Played BadLine

-- a line that is no good changes nothing and prints nothing
pub record IsKeptOut (p q : Player) (o u : List ℕ) : Type 0 where
  pub player : q ≡ p
  pub out : u ≡ o

-- a text that was read is sent, and the line printed that says what came of it
pub record SentLine (who : Who) (text : List ℕ) (p q : Player) (o u : List ℕ) (r : Sending) : Type 0 where
  pub sent : SendPlayed who text p q r
  pub out : u ≡ o ++ sending_line (length (letters_of q)) r

abbrev pub SendText : Option (List ℕ) → Who → Player → Player → List ℕ → List ℕ → Told → Type 0
SendText None who p q o u b = (b ≡ Err bad.BadText) × IsKeptOut p q o u
SendText (Some text) who p q o u b = (b ≡ Ok played.Done) × ((r : Sending) × SentLine who text p q o u r)

abbrev pub SendLine : Who → List ℕ → Player → Player → List ℕ → List ℕ → Told → Type 0
SendLine who raw p q o u b = SendText (unescaped raw) who p q o u b

-- a message that the other side took, and the line printed that says what came of it
abbrev pub Took : Result Taking NoDelivery → ℕ → Player → List ℕ → List ℕ → Told → Type 0
Took (Err why) n p o u b = (b ≡ Err (bad.Delivery why)) × (u ≡ o)
Took (Ok r) n p o u b = (b ≡ Ok played.Done) × (u ≡ o ++ taking_line n (numbered n p).text r)

pub record DeliverLine (n : ℕ) (flip : Option ℕ) (p q : Player) (o u : List ℕ) (b : Told) : Type 0 where
  pub came : Result Taking NoDelivery
  pub delivered : DeliveryIs n flip p q came
  pub told : Took came n q o u b

abbrev pub plan_told : Result (Unit {0}) BadStop → Told
plan_told (Ok t) = Ok played.Done
plan_told (Err why) = Err (bad.Stop why)

pub record PlanLine (who : Who) (s : Stop) (p q : Player) (b : Told) : Type 0 where
  pub came : Result (Unit {0}) BadStop
  pub planned : Planned s (plan_of (device who p)) (plan_of (device who q)) came
  pub world : world_of q ≡ world_of p
  pub letters : letters_of q ≡ letters_of p
  pub told : b ≡ plan_told came

pub record ReadLine (who : Who) (p q : Player) (o u : List ℕ) (b : Told) : Type 0 where
  pub world : world_of q ≡ step (reads who) (world_of p)
  pub letters : letters_of q ≡ letters_of p
  pub out : u ≡ o ++ read_line who
  pub told : b ≡ Ok played.Done

-- a line, by the command that it is read as
abbrev pub LinePlayed : Option Command → List ℕ → Player → Player → List ℕ → List ℕ → Told → Type 0
LinePlayed None line p q o u b = (b ≡ Err bad.NoCommand) × IsKeptOut p q o u
LinePlayed (Some Nothing) line p q o u b = (b ≡ Ok played.Done) × IsKeptOut p q o u
LinePlayed (Some Show) line p q o u b = (b ≡ Ok played.Show) × IsKeptOut p q o u
LinePlayed (Some (Read who)) line p q o u b = ReadLine who p q o u b
LinePlayed (Some (Plan who s)) line p q o u b = PlanLine who s p q b × (u ≡ o)
LinePlayed (Some (Deliver n flip)) line p q o u b = DeliverLine n flip p q o u b
LinePlayed (Some (Send who at)) line p q o u b = SendLine who (drop at line) p q o u b
