-- The boxes as a run goes on: what is in force is added to, with draws that were never made before.
use Rattle.std.proofs.Common.{◌≡◌, ℕ, zero, suc, ◌<◌, ◌≤◌, true, false, List, [], ◌∷◌, ◌++◌, refl, subst, inl, inr, arith}
use Rattle.std.specs.List.{ContainsAt as Has}
use Rattle.std.proofs.ByRecursion.{has_push_cases}
use Rattle.ratchet.specs.Steps.{message}
use Rattle.runs.specs.declared.types.Who.{Who}
use Rattle.runs.specs.declared.types.Who.TheVariants.{First, Second}
use Rattle.exchange.specs.Outside.{Outside}
use Rattle.exchange.specs.Held.{Ground}
use Rattle.exchange.specs.Exchanges.{Sent, sent, refused, send_text, Taken, opened, kept_out, no_key}
use Rattle.exchange.specs.Network.{Party, World, Event, sends, comes, reads, party, with_party, performed, send_effects, after_send, after_take, take_answer, step, run}
use Rattle.exchange.specs.Model.{draws_of}
use Rattle.exchange.proofs.Draws.{Known, known-before}
use Rattle.exchange.proofs.Invariant.{Agrees}

-- nothing came into force (but a draw may have been made), or the next draw did
data Grows (p q : Party) : Type 0 where
  as_before : draws_of q.box ≡ draws_of p.box → p.box.made ≤ q.box.made → Grows p q
  with_next : draws_of q.box ≡ draws_of p.box ++ p.box.made ∷ [] → p.box.made ≤ q.box.made → Grows p q

-- ### A step

same : (p : Party) → Grows p p
same p = as_before refl (omega arith)

sent-grows : (p : Party) (text : List ℕ) (n : ℕ) (a : Sent) → Grows p (performed n (send_effects a (message p.held.state) text) p)
sent-grows p text n (refused i) = same p
sent-grows p text zero (sent h bytes) = same p
sent-grows p text (suc zero) (sent h bytes) = as_before refl (omega arith)
sent-grows p text (suc (suc zero)) (sent h bytes) = as_before refl (omega arith)
sent-grows p text (suc (suc (suc n))) (sent h bytes) = as_before refl (omega arith)

took-grows : (p : Party) (bytes : List ℕ) (n : ℕ) (a : Taken) → Grows p (after_take a bytes n p)
took-grows p bytes n (kept_out i) = same p
took-grows p bytes n no_key = same p
took-grows p bytes zero (opened h t true) = as_before refl (omega arith)
took-grows p bytes zero (opened h t false) = same p
took-grows p bytes (suc zero) (opened h t true) = with_next refl (omega arith)
took-grows p bytes (suc zero) (opened h t false) = as_before refl (omega arith)
took-grows p bytes (suc (suc n)) (opened h t true) = with_next refl (omega arith)
took-grows p bytes (suc (suc n)) (opened h t false) = as_before refl (omega arith)

with_grows : (who : Who) (q : Party) (w : World) → Grows (party who w) q → (x : Who) → Grows (party x w) (party x (with_party who q w))
with_grows First q w g First = g
with_grows First q w g Second = same w.second
with_grows Second q w g First = same w.first
with_grows Second q w g Second = g

step-grows : (o : Outside) (e : Event) (w : World) (x : Who) → Grows (party x w) (party x (step o e w))
step-grows o (sends who text n) w x = with_grows who (after_send o text n (party who w)) w (sent-grows (party who w) text n (send_text o (party who w).held text)) x
step-grows o (comes who bytes ready n) w x =
    let a : Taken = take_answer o w who bytes ready in with_grows who (after_take a bytes n (party who w)) w (took-grows (party who w) bytes n a) x
step-grows o (reads who) w First = same w.first
step-grows o (reads who) w Second = same w.second

-- ### A run

known-grows : (t : ℕ → ℕ) (who : Who) (p q : Party) → Grows p q → Known t who (draws_of q.box) → Known t who (draws_of p.box)
known-grows t who p q (as_before e m) k = let P : List ℕ → Type 0 = Known t who in subst P e k
known-grows t who p q (with_next e m) k = let P : List ℕ → Type 0 = Known t who in known-before t who (draws_of p.box) (p.box.made ∷ []) (subst P e k)

-- a table of a later world is one of an earlier
pub agrees-run : (o : Outside) (secret : List ℕ) (g : Ground) (es : List Event) (w : World) → Agrees secret g (run o es w) → Agrees secret g w
unfolding run
agrees-run o secret g [] w a = a
agrees-run o secret g (e ∷ es) w a =
    let b = agrees-run o secret g es (step o e w) a in
    record { begins = b.begins; known = λ x. known-grows g.draws x (party x w) (party x (step o e w)) (step-grows o e w x) (b.known x) }

made-grows : (p q : Party) → Grows p q → p.box.made ≤ q.box.made
made-grows p q (as_before e m) = m
made-grows p q (with_next e m) = m

undone-step : (p q : Party) → Grows p q → (d : ℕ) → d < p.box.made → Has (draws_of q.box) d → Has (draws_of p.box) d
undone-step p q (as_before e m) d l h = subst (λ xs. Has xs d) e h
undone-step p q (with_next e m) d l h = elim (has_push_cases (draws_of p.box) p.box.made d (subst (λ xs. Has xs d) e h)) [ inl k ↦ k | inr f ↦ absurd (omega arith) ]

-- a draw that was made and is not in force never is
pub undone : (o : Outside) (es : List Event) (w : World) (who : Who) (d : ℕ) → d < (party who w).box.made → Has (draws_of (party who (run o es w)).box) d → Has (draws_of (party who w).box) d
unfolding run
undone o [] w who d l h = h
undone o (e ∷ es) w who d l h =
    let g = step-grows o e w who in
    undone-step (party who w) (party who (step o e w)) g d l (undone o es (step o e w) who d (omega (arith, made-grows (party who w) (party who (step o e w)) g)) h)
