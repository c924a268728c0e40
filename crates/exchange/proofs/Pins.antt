-- What holds of each call without any condition.
use Rattle.std.proofs.Common.{◌≡◌, ℕ, zero, suc, ◌<◌, Bool, true, List, is_some, Some, Option, sym, ap, ◌∙◌, subst, arith}
use Rattle.ratchet.specs.Steps as book
use Rattle.runs.specs.declared.types.Who.{Who}
use Rattle.exchange.specs.Outside.{Draw, Outside}
use Rattle.exchange.specs.Wire.{Parts, read_message}
use Rattle.exchange.specs.Held.{Held}
use Rattle.exchange.specs.Exchanges.{Sent, Taken, opened, text_of, take_read, take_bytes}
use Rattle.exchange.specs.Network.{Party, World, comes, party, with_party, performed, send_effects, take_answer, after_take, step}
use Rattle.exchange.specs.Pinned.{Beside, Pinned}
use Rattle.exchange.proofs.Opening.{message_beside}
use Rattle.exchange.proofs.Modelled.{party-same, unchanged}
use Rattle.exchange.proofs.Boxes.{undone}

numbered : (o : Outside) (own : Draw) (fresh : Option Draw) (h : Held) (bytes : List ℕ) (p : Parts) → read_message bytes ≡ Some p →
    Beside (text_of o own h p) (take_bytes o own fresh h bytes) (book.take (is_some (text_of o own h p)) h.state p.message)
numbered o own fresh h bytes p e =
    let P : Taken → Type 0 = λ x. Beside (text_of o own h p) x (book.take (is_some (text_of o own h p)) h.state p.message) in
    subst P (sym (ap (take_read o own fresh h) e)) (message_beside o own fresh h p)

-- one draw more, after however many effects
one_more : (p : Party) (bytes text : List ℕ) (n : ℕ) (h : Held) → p.box.made < (after_take (opened h text true) bytes n p).box.made
one_more p bytes text zero h = omega arith
one_more p bytes text (suc zero) h = omega arith
one_more p bytes text (suc (suc n)) h = omega arith

used_up_lem : (o : Outside) (w : World) (who : Who) (bytes text : List ℕ) (ready : Bool) (n : ℕ) (h : Held) → take_answer o w who bytes ready ≡ opened h text true →
    (party who w).box.made < (party who (step o (comes who bytes ready n) w)).box.made
used_up_lem o w who bytes text ready n h e =
    let P : Party → Type 0 = λ q. (party who w).box.made < q.box.made in
    subst P (sym (party-same who (after_take (take_answer o w who bytes ready) bytes n (party who w)) w ∙ ap (λ (a : Taken). after_take a bytes n (party who w)) e)) (one_more (party who w) bytes text n h)

pub pinned : (o : Outside) → Pinned o
pinned o = record {
  no_message = λ own fresh h bytes e. ap (take_read o own fresh h) e;
  numbered = numbered o;
  send_refused = λ w who text n i e.
      ap (λ (a : Sent). with_party who (performed n (send_effects a (book.message (party who w).held.state) text) (party who w)) w) e ∙ unchanged who w;
  take_refused = λ w who bytes ready n i e. ap (λ (a : Taken). with_party who (after_take a bytes n (party who w)) w) e ∙ unchanged who w;
  without_key = λ w who bytes ready n e. ap (λ (a : Taken). with_party who (after_take a bytes n (party who w)) w) e ∙ unchanged who w;
  used_up = used_up_lem o;
  undone = undone o;
}
