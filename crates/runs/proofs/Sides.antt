-- From a step of one side to a step of the world, and from a step to a run.
use Rattle.std.proofs.Common.{◌≡◌, ℕ, zero, suc, ◌+◌, ◌<◌, ◌≤◌, Bool, true, List, [], ◌∷◌, ◌++◌, refl}
use Rattle.ratchet.specs.declared.types.Message.{Message}
use Rattle.ratchet.specs.State.{State, has}
use Rattle.ratchet.specs.Steps.{Answer, message, advanced, recalled, turned, send}
use Rattle.ratchet.specs.Steps.{sends as sendsOn}
use Rattle.runs.specs.declared.types.Who.{Who}
use Rattle.runs.specs.declared.types.Who.TheVariants.{First, Second}
use Rattle.runs.specs.World.{Party, World, Event, sends, takes, reads, performed, send_effects, take_effects, opens, step, run, party}
use Rattle.runs.proofs.Steps.{Sent, nothing, sent, send-so, Taken, advances, recalls, turns, take-so}

-- ### Runs

pub run-append : (es fs : List Event) (w : World) → run (es ++ fs) w ≡ run fs (run es w)
unfolding run
run-append [] fs w = refl
run-append (e ∷ es) fs w = run-append es fs (step e w)

-- what holds of a world, and after each step of what it holds of, holds after a run
pub run-keeps : (P : World → Type 0) → ((e : Event) (w : World) → P w → P (step e w)) → (es : List Event) (w : World) → P w → P (run es w)
unfolding run
run-keeps P more [] w h = h
run-keeps P more (e ∷ es) w h = run-keeps P more es (step e w) (more e w h)

-- ### What every step of one side keeps

pub record Kept (P : State → Type 0) : Type 0 where
  pub sending : (s : State) → 0 < s.drawn → P s → P (sendsOn s)
  pub advancing : (s : State) (m : Message) → m.mark.link + 2 ≡ s.drawn → s.taken ≤ m.mark.place → P s → P (advanced s m)
  pub recalling : (s : State) (m : Message) → has m.mark s.skipped ≡ true → P s → P (recalled s m)
  pub turning : (s : State) (m : Message) → m.mark.link ≡ s.drawn → P s → P (turned s m)

module _ (P : State → Type 0) (k : Kept P) where
  sent_side : (n : ℕ) (m : Message) (p : Party) (a : Answer) → Sent p.side a → P p.side → P (performed n (send_effects a m) p).side
  sent_side n m p _ nothing h = h
  sent_side zero m p _ (sent d f) h = h
  sent_side (suc zero) m p _ (sent d f) h = k.sending p.side d h
  sent_side (suc (suc zero)) m p _ (sent d f) h = k.sending p.side d h
  sent_side (suc (suc (suc n))) m p _ (sent d f) h = k.sending p.side d h

  took_side : (n : ℕ) (o : Bool) (m : Message) (p : Party) (a : Answer) → Taken o p.side m a → P p.side → P (performed n (take_effects a m) p).side
  took_side n o m p _ nothing h = h
  took_side zero o m p _ (advances b l t) h = h
  took_side (suc zero) o m p _ (advances b l t) h = k.advancing p.side m l t h
  took_side (suc (suc n)) o m p _ (advances b l t) h = k.advancing p.side m l t h
  took_side zero o m p _ (recalls b t) h = h
  took_side (suc zero) o m p _ (recalls b t) h = k.recalling p.side m t h
  took_side (suc (suc n)) o m p _ (recalls b t) h = k.recalling p.side m t h
  took_side zero o m p _ (turns b l) h = h
  took_side (suc zero) o m p _ (turns b l) h = k.turning p.side m l h
  took_side (suc (suc n)) o m p _ (turns b l) h = k.turning p.side m l h

  pub step_keeps : (who : Who) (e : Event) (w : World) → P (party who w).side → P (party who (step e w)).side
  step_keeps First (sends First n f) w h = sent_side f (message w.first.side) w.first (send n w.first.side) (send-so n w.first.side) h
  step_keeps First (sends Second n f) w h = h
  step_keeps First (takes First m b f) w h = took_side f (opens w First m b) m w.first _ (take-so (opens w First m b) w.first.side m) h
  step_keeps First (takes Second m b f) w h = h
  step_keeps First (reads v) w h = h
  step_keeps Second (sends First n f) w h = h
  step_keeps Second (sends Second n f) w h = sent_side f (message w.second.side) w.second (send n w.second.side) (send-so n w.second.side) h
  step_keeps Second (takes First m b f) w h = h
  step_keeps Second (takes Second m b f) w h = took_side f (opens w Second m b) m w.second _ (take-so (opens w Second m b) w.second.side m) h
  step_keeps Second (reads v) w h = h

  pub run_keeps_side : (who : Who) (es : List Event) (w : World) → P (party who w).side → P (party who (run es w)).side
  run_keeps_side who = run-keeps (λ w. P (party who w).side) (step_keeps who)
