-- Every run keeps the laws.
use Rattle.std.proofs.Common.{◌≡◌, ℕ, suc, ◌+◌, ◌<◌, ◌≤◌, true, false, List, [], ◌++◌, ap, ◌∙◌, inl, inr, arith}
use Rattle.std.proofs.ByRecursion.{All-weaker}
use Rattle.ratchet.specs.declared.types.Message.{Message}
use Rattle.ratchet.specs.State.{State}
use Rattle.ratchet.specs.Steps.{take}
use Rattle.runs.specs.declared.types.Who.{Who}
use Rattle.runs.specs.declared.types.Who.TheVariants.{First, Second}
use Rattle.runs.specs.Rule.{exposed}
use Rattle.runs.specs.World.{Party, World, Event, among, run, start, party, other, take_answer}
use Rattle.runs.specs.Laws.{after, readings, open?, drawn_by, Can, keys_of, NoneTwice, Healed, Comes, opened, opens, kept_out, EveryRun}
use Rattle.runs.proofs.Messages.{none-twice_append}
use Rattle.runs.proofs.Marks.{has-not}
use Rattle.runs.proofs.Exposed.{exactly}
use Rattle.runs.proofs.Sides.{run-append, run_keeps_side}
use Rattle.runs.proofs.Shut.{Shut, shut_kept}
use Rattle.runs.proofs.Closed.{Before, before-shut, Passed, passed_shut, shut_unknown, AllPassed, all_passed_run}
use Rattle.runs.proofs.Way.{Sender, sender, taker, Sealing, Opening, Way}
use Rattle.runs.proofs.Good.{Good, good, Old}
use Rattle.runs.proofs.Arriving as arriving

-- ### The way to a side

abbrev parity : Who → ℕ
parity First = 1
parity Second = 0

toward : (who : Who) (w : World) → Good w → Way (parity who) (sender (party (other who) w)) (taker (party who w))
toward First w g = g.back
toward Second w g = g.there

-- ### What a side has sealed or opened, it has passed

taker-shut : (r : ℕ) (o : Sender) (q : Party) → Way r o (taker q) → (m : Message) → among m q.opened ≡ true → Shut m.mark q.side
taker-shut r o q w m a = let t = w.opening.each m a in record {
  drawn = omega (arith, t.low);
  sent = λ e. absurd (omega (arith, t.low));
  taken = λ e. t.below (omega arith);
  aside = t.gone;
}

sender-shut : (r t : ℕ) (p : Party) → Sealing r (sender p) → Opening t (taker p) → (m : Message) → among m p.sealed ≡ true → Shut m.mark p.side
sender-shut r t p s o m a = let h = s.each m a in record {
  drawn = omega (arith, h.low);
  sent = λ e. (h.newest (omega arith)).0;
  taken = λ e. absurd (omega (arith, h.parity, s.parity));
  aside = has-not m.mark _ (λ k. omega (arith, h.parity, s.parity, o.parity, (o.aside m.mark k).parity));
}

sealed-shut : (who : Who) (w : World) → Good w → (m : Message) → among m (party who w).sealed ≡ true → Shut m.mark (party who w).side
sealed-shut First w g = sender-shut 0 1 w.first g.there.sealing g.back.opening
sealed-shut Second w g = sender-shut 1 0 w.second g.back.sealing g.there.opening

opened-shut : (who p : Who) (w : World) → Good w → (m : Message) → among m (party who w).opened ≡ true → Shut m.mark (party p w).side
opened-shut First First w g m a = taker-shut 1 (sender w.second) w.first g.back m a
opened-shut First Second w g m a = sealed-shut Second w g m (g.back.sealing.left m (g.back.genuine m a))
opened-shut Second First w g m a = sealed-shut First w g m (g.there.sealing.left m (g.there.genuine m a))
opened-shut Second Second w g m a = taker-shut 0 (sender w.first) w.second g.there m a

-- ### What it has passed, it can't work out, and nobody can from what is read later

forgets : (es fs : List Event) (who : Who) (m : Message) → Shut m.mark (party who (after es)).side → Can who (es ++ fs) m → ⊥
forgets es fs who m h k =
    shut_unknown m.mark (party who (run fs (after es))).side (run_keeps_side (Shut m.mark) (shut_kept m.mark) who fs (after es) h) (rw (run-append es fs start) at k)

passed-for_good : (es fs : List Event) (m : Message) → AllPassed m.mark (after es) → open? (es ++ fs) m ≡ false
passed-for_good es fs m h =
    ap (λ (w : World). exposed w.readings m.mark.link m.mark.place) (run-append es fs start)
    ∙ passed_shut m.mark (run fs (after es)).readings (all_passed_run m.mark fs (after es) h).readings

past : (es fs : List Event) (who : Who) (m : Message) → readings es ≡ [] → among m (party who (after es)).opened ≡ true → open? (es ++ fs) m ≡ false
past es fs who m e a = passed-for_good es fs m (record { each = λ p. opened-shut who p (after es) (good es) m a; readings = rw e tt })

-- ### Healing

-- a side that draws a key draws past two numbers
two-more : (es fs : List Event) (who : Who) → drawn_by who es < drawn_by who (es ++ fs) → drawn_by who es + 2 ≤ drawn_by who (es ++ fs)
two-more es fs First h = omega (arith, (good es).there.sealing.parity, (good (es ++ fs)).there.sealing.parity)
two-more es fs Second h = omega (arith, (good es).back.sealing.parity, (good (es ++ fs)).back.sealing.parity)

-- all that was read till then had drawn less than each side has now
read_before : (es fs : List Event) (k : ℕ) → Healed es fs → ((who : Who) → drawn_by who (es ++ fs) ≤ k) → (s : State) →
    Old (drawn_by First es) (drawn_by Second es) s → s.drawn + 2 ≤ k
read_before es fs k h below s o = elim o.drawn
    [ inl l ↦ omega (arith, two-more es fs First (h.drew First), below First) | inr l ↦ omega (arith, two-more es fs Second (h.drew Second), below Second) ]

heals : (es fs : List Event) (n i : ℕ) → Healed es fs → ((who : Who) → drawn_by who (es ++ fs) ≤ suc n) → exposed (readings (es ++ fs)) n i ≡ false
heals es fs n i h below = rw h.unread (before-shut (readings es) n i (All-weaker _ _ earlier (readings es) (good es).readings))
  where
    earlier : (s : State) → Old (drawn_by First es) (drawn_by Second es) s → Before n s
    earlier s o = let d = read_before es fs (suc n) h below s o in record {
      drawn = omega arith;
      aside = λ j. has-not (record { link = n; place = j }) s.skipped (λ t. omega (arith, o.aside (record { link = n; place = j }) t));
    }

stays : (es fs gs hs : List Event) (who : Who) (m : Message) → Healed es fs → readings (es ++ fs ++ gs) ≡ readings es →
    ((p : Who) → drawn_by p (es ++ fs) ≤ m.mark.link) → among m (party who (after (es ++ fs ++ gs))).opened ≡ true → open? (es ++ fs ++ gs ++ hs) m ≡ false
stays es fs gs hs who m h e below a =
    passed-for_good (es ++ fs ++ gs) hs m (record {
      each = λ p. opened-shut who p (after (es ++ fs ++ gs)) (good (es ++ fs ++ gs)) m a;
      readings = rw e (All-weaker _ _ earlier (readings es) (good es).readings);
    })
  where
    earlier : (s : State) → Old (drawn_by First es) (drawn_by Second es) s → Passed m.mark s
    earlier s o = let d = read_before es fs m.mark.link h below s o in
        inl (d, has-not m.mark s.skipped (λ t. omega (arith, o.aside m.mark t)))

-- ### Sealed once

sealed-once : (w : World) → Good w → NoneTwice (keys_of (w.first.sealed ++ w.second.sealed))
sealed-once w g =
    none-twice_append w.first.sealed w.second.sealed g.there.sealing.once g.back.sealing.once
    (λ x y a b e. omega (arith, (g.there.sealing.each x a).parity, (g.back.sealing.each y b).parity, ap (λ k. k.link) e))

left-sealed : (who : Who) (w : World) → Good w → (m : Message) → among m (party who w).left ≡ true → among m (party who w).sealed ≡ true
left-sealed First w g = g.there.sealing.left
left-sealed Second w g = g.back.sealing.left

-- ### What left comes

comes : (es : List Event) (who : Who) (m : Message) → among m (party (other who) (after es)).left ≡ true → Comes es who m
comes es who m a = elim (arriving.arrives (parity who) (sender (party (other who) (after es))) (party who (after es)) (toward who (after es) (good es)) m a)
    [ inl k ↦ opened k | inr f ↦ fate f ]
  where
    answer : take_answer (after es) who m true ≡ take true (party who (after es)).side m
    answer = ap (λ b. take b (party who (after es)).side m) a

    fate : arriving.Fate (party who (after es)).side m → Comes es who m
    fate (arriving.opens s e) = opens s (answer ∙ e)
    fate (arriving.kept_out n e k) = kept_out n (answer ∙ e) k

-- ### All of it

pub every-run : EveryRun
every-run es = record {
  exactly = exactly (readings es);
  past = past es;
  heals = heals es;
  stays = stays es;
  sealed_once = sealed-once (after es) (good es);
  sender_forgets = λ fs who m a. forgets es fs who m (sealed-shut who (after es) (good es) m a);
  both_forget = λ fs who p m a. forgets es fs p m (opened-shut who p (after es) (good es) m a);
  comes = comes es;
  opened_once = λ who. (toward who (after es) (good es)).opening.once;
  handed_once = λ who. (toward who (after es) (good es)).opening.handed_once;
  handed_opened = λ who. (toward who (after es) (good es)).opening.handed;
  opened_left = λ who. (toward who (after es) (good es)).genuine;
  left_sealed = λ who. left-sealed who (after es) (good es);
}
