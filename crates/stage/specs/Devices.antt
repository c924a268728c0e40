-- A device of a rehearsal, seen as a party of a world, and what its steps come to.
-- Assumes nothing.
use Rattle.std.specs.Prelude.{◌≡◌, ℕ, Bool, Some, None, vec_items, Option}
use Rattle.ratchet.specs.declared.types.Message.{Message}
use Rattle.ratchet.specs.Numbers.{number}
use Rattle.ratchet.specs.State.{State, state_of}
use Rattle.ratchet.specs.Steps.{Answer, kept, refused, send, take, message}
use Rattle.runs.specs.World.{Party, send_effects, take_effects}
use Rattle.stage.specs.declared.types.When.{When}
use Rattle.stage.specs.declared.types.When.TheVariants.{Before, After}
use Rattle.stage.specs.declared.types.Sending.{Sending}
use Rattle.stage.specs.declared.types.Sending.TheVariants as sending
use Rattle.stage.specs.declared.types.Taking.{Taking}
use Rattle.stage.specs.declared.types.Taking.TheVariants as taking
use Rattle.stage.specs.declared.device.Device.{Device}
use Rattle.stage.specs.Plan.{Plan, due_next, plan_after, carried_out}

abbrev pub party_of : Device → Party
party_of d =
    record { side = state_of d.page; sealed = vec_items d.sealed; left = vec_items d.left; opened = vec_items d.opened; handed = vec_items d.handed }

abbrev pub plan_of : Device → Plan
plan_of d = record { writes = d.writes; stops = d.stops.entries }

-- what the outcomes mean: done, lost after the write, stopped before it, or refused by a number
pub data Outcome : Type 0 where
  done : Outcome
  lost : Outcome
  stopped : Outcome
  turned_away : ℕ → Outcome

abbrev pub outcome : Answer → Option When → Outcome
outcome (refused n) d = turned_away n
outcome (kept s) None = done
outcome (kept s) (Some Before) = stopped
outcome (kept s) (Some After) = lost

-- a message that was sealed is told, too
abbrev pub SendingIs : Message → Outcome → Sending → Type 0
SendingIs m done r = r ≡ sending.Sent m
SendingIs m lost r = r ≡ sending.Lost m
SendingIs m stopped r = r ≡ sending.Stopped
SendingIs m (turned_away n) (sending.Sent x) = ⊥
SendingIs m (turned_away n) (sending.Lost x) = ⊥
SendingIs m (turned_away n) sending.Stopped = ⊥
SendingIs m (turned_away n) (sending.Refused why) = number why ≡ n

abbrev pub TakingIs : Outcome → Taking → Type 0
TakingIs done r = r ≡ taking.Opened
TakingIs lost r = r ≡ taking.Lost
TakingIs stopped r = r ≡ taking.Stopped
TakingIs (turned_away n) taking.Opened = ⊥
TakingIs (turned_away n) taking.Lost = ⊥
TakingIs (turned_away n) taking.Stopped = ⊥
TakingIs (turned_away n) (taking.Refused why) = number why ≡ n

-- the page of a side that stopped before its write is the old one
abbrev pub page_after : Option When → (old new : State) → State
page_after None old new = new
page_after (Some Before) old new = old
page_after (Some After) old new = new

-- only an accepted step writes
abbrev pub plan_then : Answer → Plan → Plan
plan_then (refused n) p = p
plan_then (kept s) p = plan_after (due_next p) p

pub record SendDone (n : ℕ) (d e : Device) (r : Sending) : Type 0 where
  pub party : party_of e ≡ carried_out (due_next (plan_of d)) (send_effects (send n (state_of d.page)) (message (state_of d.page))) (party_of d)
  pub plan : plan_of e ≡ plan_then (send n (state_of d.page)) (plan_of d)
  pub told : SendingIs (message (state_of d.page)) (outcome (send n (state_of d.page)) (due_next (plan_of d))) r

pub record TakeDone (m : Message) (opens : Bool) (d e : Device) (r : Taking) : Type 0 where
  pub party : party_of e ≡ carried_out (due_next (plan_of d)) (take_effects (take opens (state_of d.page) m) m) (party_of d)
  pub plan : plan_of e ≡ plan_then (take opens (state_of d.page) m) (plan_of d)
  pub told : TakingIs (outcome (take opens (state_of d.page) m) (due_next (plan_of d))) r
