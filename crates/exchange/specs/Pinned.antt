-- What holds of each call without any condition: its answer goes with the bookkeeping's, and a refusal leaves all as it was.
-- Assumes nothing.
use Rattle.std.specs.Prelude.{◌≡◌, ℕ, ◌<◌, Bool, true, List, is_some, Some, None, Option}
use Rattle.std.specs.List.{ContainsAt as Has}
use Rattle.ratchet.specs.State.{State}
use Rattle.ratchet.specs.Steps as book
use Rattle.runs.specs.declared.types.Who.{Who}
use Rattle.exchange.specs.Outside.{Draw, Outside}
use Rattle.exchange.specs.Wire.{Parts, read_message}
use Rattle.exchange.specs.Held.{Held}
use Rattle.exchange.specs.Exchanges.{refused, send_text, Taken, opened, kept_out, no_key, take_bytes, text_of}
use Rattle.exchange.specs.Network.{World, Event, sends, comes, party, take_answer, step, run}
use Rattle.exchange.specs.Model.{draws_of}

-- an answer beside the bookkeeping's, of a message with this text: opened to it where the bookkeeping keeps it (or for want of a key not), kept out by its number
pub data Beside (text : Option (List ℕ)) : Taken → book.Answer → Type 0 where
  opens : {h : Held} {t : List ℕ} {drew : Bool} → text ≡ Some t → Beside text (opened h t drew) (book.kept h.state)
  stays_out : {n : ℕ} → Beside text (kept_out n) (book.refused n)
  box_empty : {s : State} → Beside text no_key (book.kept s)

pub record Pinned (o : Outside) : Type 0 where
  -- any bytes: 1 if they are no message, else as the bookkeeping answers, given whether they open
  pub no_message : (own : Draw) (fresh : Option Draw) (h : Held) (bytes : List ℕ) → read_message bytes ≡ None → take_bytes o own fresh h bytes ≡ kept_out 1
  pub numbered : (own : Draw) (fresh : Option Draw) (h : Held) (bytes : List ℕ) (p : Parts) → read_message bytes ≡ Some p →
      Beside (text_of o own h p) (take_bytes o own fresh h bytes) (book.take (is_some (text_of o own h p)) h.state p.message)
  -- a refusal, and a box without a further key, leave both sides, their boxes and all that was kept as they were
  pub send_refused : (w : World) (who : Who) (text : List ℕ) (n i : ℕ) → send_text o (party who w).held text ≡ refused i → step o (sends who text n) w ≡ w
  pub take_refused : (w : World) (who : Who) (bytes : List ℕ) (ready : Bool) (n i : ℕ) → take_answer o w who bytes ready ≡ kept_out i → step o (comes who bytes ready n) w ≡ w
  pub without_key : (w : World) (who : Who) (bytes : List ℕ) (ready : Bool) (n : ℕ) → take_answer o w who bytes ready ≡ no_key → step o (comes who bytes ready n) w ≡ w
  -- a draw that is made is used up, whether the side stops or not; so one that a stop undid never comes into force:
  -- of the draws made till now, those that are or were in force later are or were so now
  pub used_up : (w : World) (who : Who) (bytes text : List ℕ) (ready : Bool) (n : ℕ) (h : Held) → take_answer o w who bytes ready ≡ opened h text true →
      (party who w).box.made < (party who (step o (comes who bytes ready n) w)).box.made
  pub undone : (es : List Event) (w : World) (who : Who) (d : ℕ) → d < (party who w).box.made → Has (draws_of (party who (run o es w)).box) d → Has (draws_of (party who w).box) d
