-- A step on bytes, without its bytes, is the model's step.
use Rattle.std.proofs.Common.{◌≡◌, ℕ, zero, suc, ◌+◌, ◌^◌, ◌<◌, ◌≤◌, Bool, ◌&&◌, eqb, ltb, List, [], ◌∷◌, ◌++◌, length, Option, refl, arith}
use Rattle.std.proofs.lemmas.List.{map-append}
use Rattle.std.proofs.lemmas.Bool.{cond_both, eqb-false, ltb-true, ltb-false}
use Rattle.ratchet.specs.declared.types.Message.{Message}
use Rattle.ratchet.specs.State.{State}
use Rattle.ratchet.specs.Steps.{Answer, kept, refused, fits, message, send, take}
use Rattle.ratchet.specs.Steps.{sends as sendsOn}
use Rattle.runs.specs.declared.types.Who.{Who}
use Rattle.runs.specs.declared.types.Who.TheVariants.{First, Second}
use Rattle.runs.specs.World as model
use Rattle.runs.specs.World.{run}
use Rattle.exchange.specs.Outside.{Outside}
use Rattle.exchange.specs.Wire.{parts_of}
use Rattle.exchange.specs.Exchanges.{sent_on, send_as, Taken}
use Rattle.exchange.specs.Network.{Letter, Party, Reading, World, sends, reads, party, with_party, own_of, performed, send_effects, take_effects, asked, after_send, after_take, step}
use Rattle.exchange.specs.Model.{messages, model_party, model_world, effects_of}
use Rattle.exchange.specs.Pinned.{Beside, opens, stays_out, box_empty}

-- ### Whichever side it is

pub party-of : (who : Who) (w : World) → model.party who (model_world w) ≡ model_party (party who w)
party-of First w = refl
party-of Second w = refl

pub party-with : (who : Who) (q : Party) (x : model.Party) (w : World) → model_party q ≡ x → model_world (with_party who q w) ≡ model.with_party who x (model_world w)
party-with First q x w e = λ i. record { first = e i; second = model_party w.second; readings = (model_world w).readings }
party-with Second q x w e = λ i. record { first = model_party w.first; second = e i; readings = (model_world w).readings }

pub party-same : (who : Who) (q : Party) (w : World) → party who (with_party who q w) ≡ q
party-same First q w = refl
party-same Second q w = refl

pub unchanged : (who : Who) (w : World) → with_party who (party who w) w ≡ w
unchanged First w = refl
unchanged Second w = refl

pub answer-of : (who : Who) (w : World) (m : Message) (whole : Bool) →
    model.take_answer (model_world w) who m whole ≡ take (whole && model.among m (messages (party (model.other who) w).left)) (party who w).held.state m
answer-of First w m whole = refl
answer-of Second w m whole = refl

pub run_none : (w : model.World) → run [] w ≡ w
unfolding run
run_none w = refl

pub run-one : (e : model.Event) (w : model.World) → run (e ∷ []) w ≡ model.step e w
unfolding run
run-one e w = refl

messages-push : (ls : List Letter) (l : Letter) → messages (ls ++ l ∷ []) ≡ messages ls ++ l.message ∷ []
messages-push ls l = map-append (λ (x : Letter). x.message) ls (l ∷ [])

-- ### Sending

-- what a send comes to
pub data Sends (n : ℕ) (s : State) : Answer → Type 0 where
  nothing : {k : ℕ} → Sends n s (refused k)
  goes : n ≤ 1000 → 0 < s.drawn → s.sent + 1 < 2 ^ 32 → Sends n s (kept (sendsOn s))

pub send-so : (n : ℕ) (s : State) → Sends n s (send n s)
send-so n s =
    cond_both (ltb 1000 n) _ _ (Sends n s) (λ t. nothing) (λ f.
    cond_both (eqb s.drawn 0) _ _ (Sends n s) (λ t. nothing) (λ g.
    cond_both (fits (s.sent + 1)) _ _ (Sends n s) (λ t. goes (ltb-false 1000 n f) (omega (arith, eqb-false s.drawn 0 g)) (ltb-true (s.sent + 1) (2 ^ 32) t)) (λ h. nothing)))

module _ (o : Outside) (p : Party) (text bytes : List ℕ) where
  abbrev letter : Letter
  letter = record { message = message p.held.state; text = text; bytes = bytes }

  sent_party : (n : ℕ) (a : Answer) → Sends (length text) p.held.state a →
      model_party (performed n (send_effects (send_as a (sent_on o p.held) bytes) (message p.held.state) text) p)
      ≡ model.performed n (model.send_effects a (message p.held.state)) (model_party p)
  sent_party n _ nothing = refl
  sent_party zero _ (goes t d f) = refl
  sent_party (suc zero) _ (goes t d f) = refl
  sent_party (suc (suc zero)) _ (goes t d f) = λ i. record {
    side = sendsOn p.held.state;
    sealed = messages-push p.sealed letter i;
    left = messages p.left;
    opened = messages p.opened;
    handed = messages p.handed;
  }
  sent_party (suc (suc (suc n))) _ (goes t d f) = λ i. record {
    side = sendsOn p.held.state;
    sealed = messages-push p.sealed letter i;
    left = messages-push p.left letter i;
    opened = messages p.opened;
    handed = messages p.handed;
  }

pub send-model : (o : Outside) (who : Who) (text : List ℕ) (n : ℕ) (w : World) → model_world (step o (sends who text n) w) ≡ model.step (model.sends who (length text) n) (model_world w)
send-model o First text n w =
    party-with First (after_send o text n w.first) _ w (sent_party o w.first text _ n (send (length text) w.first.held.state) (send-so (length text) w.first.held.state))
send-model o Second text n w =
    party-with Second (after_send o text n w.second) _ w (sent_party o w.second text _ n (send (length text) w.second.held.state) (send-so (length text) w.second.held.state))

-- ### Taking

module _ (m : Message) (bytes : List ℕ) (p : Party) where
  took_party : (n : ℕ) (x : Option (List ℕ)) (a : Taken) (b : Answer) → Beside x a b →
      model_party (performed n (take_effects a p.box m bytes) (asked a p)) ≡ model.performed (effects_of a n) (model.take_effects b m) (model_party p)
  took_party n x _ _ stays_out = refl
  took_party n x _ _ box_empty = refl
  took_party zero x _ _ (opens {h = h} {t = text} {drew = drew} e) = refl
  took_party (suc zero) x _ _ (opens {h = h} {t = text} {drew = drew} e) = λ i. record {
    side = h.state;
    sealed = messages p.sealed;
    left = messages p.left;
    opened = messages-push p.opened (record { message = m; text = text; bytes = bytes }) i;
    handed = messages p.handed;
  }
  took_party (suc (suc n)) x _ _ (opens {h = h} {t = text} {drew = drew} e) = λ i. record {
    side = h.state;
    sealed = messages p.sealed;
    left = messages p.left;
    opened = messages-push p.opened (record { message = m; text = text; bytes = bytes }) i;
    handed = messages-push p.handed (record { message = m; text = text; bytes = bytes }) i;
  }

pub took-model : (who : Who) (bytes : List ℕ) (whole : Bool) (n : ℕ) (w : World) (x : Option (List ℕ)) (a : Taken) → Beside x a (model.take_answer (model_world w) who (parts_of bytes).message whole) →
    model_world (with_party who (after_take a bytes n (party who w)) w) ≡ model.step (model.takes who (parts_of bytes).message whole (effects_of a n)) (model_world w)
took-model First bytes whole n w x a f = party-with First (after_take a bytes n w.first) _ w (took_party (parts_of bytes).message bytes w.first n x a _ f)
took-model Second bytes whole n w x a f = party-with Second (after_take a bytes n w.second) _ w (took_party (parts_of bytes).message bytes w.second n x a _ f)

-- ### Reading

pub read_model : (o : Outside) (who : Who) (w : World) → model_world (step o (reads who) w) ≡ model.step (model.reads who) (model_world w)
read_model o First w = λ i. record { first = model_party w.first; second = model_party w.second; readings = map-append (λ (r : Reading). r.held.state) w.readings (record { held = w.first.held; own = own_of First w } ∷ []) i }
read_model o Second w = λ i. record { first = model_party w.first; second = model_party w.second; readings = map-append (λ (r : Reading). r.held.state) w.readings (record { held = w.second.held; own = own_of Second w } ∷ []) i }
