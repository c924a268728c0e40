-- Sending, and taking a message that the other side sent: what holds of the world goes on to hold.
use Rattle.std.proofs.Common.{◌≡◌, ℕ, zero, suc, ◌+◌, ◌*◌, ◌^◌, ◌<◌, ◌≤◌, Bool, true, false, List, [], ◌∷◌, ◌++◌, length, Some, Option, sym, refl, ap, ◌∙◌, subst, inl, inr, arith}
use Rattle.std.specs.List.{ContainsAt as Has}
use Rattle.std.proofs.ByRecursion.{has_append_left, has_push, has_push_cases}
use Rattle.std.proofs.lemmas.List.{append-nil, length_push}
use Rattle.std.proofs.lemmas.Bool.{cond_both, ltb-true}
use Rattle.ratchet.specs.declared.types.Message.{Message}
use Rattle.ratchet.specs.State.{State, has}
use Rattle.ratchet.specs.Steps.{Answer, kept, refused, fits, message, send, in_turn, is_new, checked, take}
use Rattle.runs.specs.declared.types.Who.{Who}
use Rattle.runs.specs.World.{other}
use Rattle.exchange.specs.Outside.{Draw, Outside}
use Rattle.exchange.specs.Held.{Held, Ground, draw_of, hold}
use Rattle.exchange.specs.Exchanges.{sent_on, message_bytes, send_as, Taken, opened}
use Rattle.exchange.specs.Network.{Letter, Box, Party, World, party, perform, write, seal, leave, keep, hand, drawing, in_force, with_box, after_send, performed, send_effects, take_effects, asked, draw_by}
use Rattle.exchange.specs.Model.{draws_of}
use Rattle.exchange.proofs.Holds.{sends_holds}
use Rattle.exchange.proofs.Opening.{Opens, stays, lacks, takes, turns}
use Rattle.exchange.proofs.Draws.{Rising, rising-push, rising-more, parity, Known, known-own}
use Rattle.exchange.proofs.Letters.{Proper, next-bytes}
use Rattle.exchange.proofs.Modelled.{Sends, nothing, goes, send-so}
use Rattle.exchange.proofs.Invariant.{Counted, Agrees, Inv, Moves, moves_nothing}

-- ### Counts that can be written

abbrev pub CountedIf : Answer → Type 0
CountedIf (kept s) = Counted s
CountedIf (refused n) = Unit {0}

checked-counted : (within opens countable : Bool) (s : State) → (countable ≡ true → Counted s) → CountedIf (checked within opens countable s)
checked-counted true true true s h = h refl
checked-counted true true false s h = tt
checked-counted true false c s h = tt
checked-counted false b c s h = tt

pub take_counted : (opens : Bool) (s : State) (m : Message) → Counted s → CountedIf (take opens s m)
take_counted opens s m c =
    cond_both (in_turn s m) _ _ CountedIf
    (λ t. checked-counted _ opens _ _ (λ e. record { drawn = c.drawn; sent = c.sent; before = c.before }))
    (λ f. cond_both (has m.mark s.skipped) _ _ CountedIf
    (λ t. checked-counted true opens true _ (λ e. record { drawn = c.drawn; sent = c.sent; before = c.before }))
    (λ g. cond_both (is_new s m) _ _ CountedIf
    (λ t. checked-counted _ opens (fits (s.drawn + 2)) _ (λ e. record { drawn = ltb-true (s.drawn + 2) (2 ^ 32) e; sent = omega arith; before = c.sent }))
    (λ n. tt)))

module _ (o : Outside) (secret : List ℕ) (w : World) (v : Inv o secret w) (who : Who) where
  abbrev p : Party
  p = party who w

  abbrev s : State
  s = p.held.state

  -- ### Sending

  module _ (text : List ℕ) (t : length text ≤ 1000) (d : 0 < s.drawn) (f : s.sent + 1 < 2 ^ 32) where
    abbrev letter : Letter
    letter = record { message = message s; text = text; bytes = message_bytes o p.held text }

    abbrev wrote : Party
    wrote = perform (write (sent_on o p.held)) p

    letter-proper : (g : Ground) → Agrees secret g w → Proper o g letter
    letter-proper g a = let c = (v.own who).counted in record {
      short = t;
      link = omega (arith, c.drawn);
      place = omega arith;
      before = c.before;
      bytes = ap (λ (h : Held). message_bytes o h text) (v.bytes g a who).held ∙ next-bytes o g s text d;
    }

    moves_wrote : Moves o secret w who wrote
    moves_wrote = let c = v.own who in record {
      own = record { counted = record { drawn = c.counted.drawn; sent = f; before = c.counted.before }; count = c.count; rising = c.rising; handed = c.handed; left = c.left };
      opened = v.opened who;
      left = λ l h. h;
      grows = ([], sym (append-nil (draws_of p.box)));
      bytes = λ g a k. let b = v.bytes g a who in record { held = ap (sent_on o) b.held ∙ sends_holds o g s d; proper = b.proper };
    }

    moves_sealed : Moves o secret w who (perform (seal letter) wrote)
    moves_sealed = let m = moves_wrote in record {
      own = record {
        counted = m.own.counted;
        count = m.own.count;
        rising = m.own.rising;
        handed = m.own.handed;
        left = λ l h. has_append_left p.sealed (letter ∷ []) l (m.own.left l h);
      };
      opened = m.opened;
      left = m.left;
      grows = m.grows;
      bytes = λ g a k. let b = m.bytes g a k in record {
        held = b.held;
        proper = λ l h. elim (has_push_cases p.sealed letter l h) [ inl x ↦ b.proper l x | inr e ↦ subst (Proper o g) e (letter-proper g a) ];
      };
    }

    moves_left : Moves o secret w who (perform (leave letter) (perform (seal letter) wrote))
    moves_left = let m = moves_sealed in record {
      own = record {
        counted = m.own.counted;
        count = m.own.count;
        rising = m.own.rising;
        handed = m.own.handed;
        left = λ l h. elim (has_push_cases p.left letter l h) [ inl x ↦ m.own.left l x | inr e ↦ subst (Has (p.sealed ++ letter ∷ [])) e (has_push p.sealed letter) ];
      };
      opened = m.opened;
      left = λ l h. has_append_left p.left (letter ∷ []) l h;
      grows = m.grows;
      bytes = λ g a k. let b = m.bytes g a k in record { held = b.held; proper = b.proper };
    }

  sent_moves : (text : List ℕ) (n : ℕ) (a : Answer) → Sends (length text) s a →
      Moves o secret w who (performed n (send_effects (send_as a (sent_on o p.held) (message_bytes o p.held text)) (message s) text) p)
  sent_moves text n _ nothing = moves_nothing o secret w v who
  sent_moves text zero _ (goes t d f) = moves_nothing o secret w v who
  sent_moves text (suc zero) _ (goes t d f) = moves_wrote text t d f
  sent_moves text (suc (suc zero)) _ (goes t d f) = moves_sealed text t d f
  sent_moves text (suc (suc (suc n))) _ (goes t d f) = moves_left text t d f

  pub moves_send : (text : List ℕ) (n : ℕ) → Moves o secret w who (after_send o text n p)
  moves_send text n = sent_moves text n (send (length text) s) (send-so (length text) s)

  -- ### Taking

  abbrev b : Box
  b = p.box

  force_rising : (drew : Bool) → Rising (draws_of (in_force drew b)) (in_force drew b).made
  force_rising true = rising-push (draws_of b) b.made (v.own who).rising
  force_rising false = (v.own who).rising

  force_grows : (drew : Bool) → (ds : List ℕ) × (draws_of (in_force drew b) ≡ draws_of b ++ ds)
  force_grows true = (b.made ∷ [], refl)
  force_grows false = ([], sym (append-nil (draws_of b)))

  -- a draw was made, and undone by a stop
  moves_drawn : Moves o secret w who (with_box (drawing true b) p)
  moves_drawn = let c = v.own who in record {
    own = record { counted = c.counted; count = c.count; rising = rising-more (draws_of b) b.made c.rising; handed = c.handed; left = c.left };
    opened = v.opened who;
    left = λ l h. h;
    grows = ([], sym (append-nil (draws_of b)));
    bytes = λ g a k. let x = v.bytes g a who in record { held = x.held; proper = x.proper };
  }

  module _ (l : Letter) (came : Has (party (other who) w).left l) where
    moves_kept : (h : Held) (drew : Bool) → Counted h.state → h.state.drawn ≡ 2 * length (in_force drew b).past + parity who →
        ((g : Ground) → Agrees secret g w → Known g.draws who (draws_of (in_force drew b)) → h ≡ hold o g h.state) →
        Moves o secret w who (perform (keep h (in_force drew b) l) p)
    moves_kept h drew counted count holds = let c = v.own who in record {
      own = record {
        counted = counted;
        count = count;
        rising = force_rising drew;
        handed = λ x i. has_append_left p.opened (l ∷ []) x (c.handed x i);
        left = c.left;
      };
      opened = λ x i. elim (has_push_cases p.opened l x i) [ inl y ↦ v.opened who x y | inr e ↦ subst (Has (party (other who) w).left) e came ];
      left = λ x i. i;
      grows = force_grows drew;
      bytes = λ g a k. record { held = holds g a k; proper = (v.bytes g a who).proper };
    }

    moves_handed : (h : Held) (c : Box) → Moves o secret w who (perform (keep h c l) p) → Moves o secret w who (perform (hand l) (perform (keep h c l) p))
    moves_handed h c m = record {
      own = record {
        counted = m.own.counted;
        count = m.own.count;
        rising = m.own.rising;
        handed = λ x i. elim (has_push_cases p.handed l x i) [
          | inl y ↦ m.own.handed x y
          | inr e ↦ subst (Has (p.opened ++ l ∷ [])) e (has_push p.opened l)
        ];
        left = m.own.left;
      };
      opened = m.opened;
      left = m.left;
      grows = m.grows;
      bytes = λ g a k. let x = m.bytes g a k in record { held = x.held; proper = x.proper };
    }

    -- the side stops after its page is kept, or hands the text out
    moves_on : (n : ℕ) (h : Held) (c : Box) → Moves o secret w who (perform (keep h c l) p) → Moves o secret w who (performed n (hand l ∷ []) (perform (keep h c l) p))
    moves_on zero h c m = m
    moves_on (suc n) h c m = moves_handed h c m

  -- what is held after a message was opened, whichever table serves
  module _ (g : Ground) (fresh : Option Draw) (text : List ℕ) where
    holds_took : (h : Held) (t : List ℕ) (a : Answer) → Opens o g s fresh text (opened h t false) a → h ≡ hold o g h.state
    holds_took h t _ (takes r d) = r

    holds_turned : (h : Held) (t : List ℕ) (a : Answer) → Opens o g s fresh text (opened h t true) a → ((d : Draw) → fresh ≡ Some d → d ≡ draw_of g (s.drawn + 2)) → h ≡ hold o g h.state
    holds_turned h t _ (turns d e c r) f = r (f d e)

  -- the key that was drawn is the table's next
  fresh_known : (g : Ground) → Known g.draws who (draws_of (in_force true b)) → draw_by who b.made ≡ draw_of g (s.drawn + 2)
  fresh_known g k = known-own g who (in_force true b) (s.drawn + 2) (omega (arith, (v.own who).count, length_push b.past b.own)) k

  module _ (fresh : Option Draw) (fresh-is : (d : Draw) → fresh ≡ Some d → d ≡ draw_by who b.made) (m : Message) (text bytes : List ℕ)
      (came : Has (party (other who) w).left (record { message = m; text = text; bytes = bytes })) where
    pub took_moves : (g : Ground) (n : ℕ) (a : Taken) (c : Answer) → Opens o g s fresh text a c → ((g' : Ground) → Agrees secret g' w → Opens o g' s fresh text a c) → CountedIf c →
        Moves o secret w who (performed n (take_effects a b m bytes) (asked a p))
    took_moves g n _ _ stays every counted = moves_nothing o secret w v who
    took_moves g n _ _ (lacks e) every counted = moves_nothing o secret w v who
    took_moves g zero _ _ (takes {h} r d) every counted = moves_nothing o secret w v who
    took_moves g (suc n) _ _ (takes {h} r d) every counted =
        moves_on _ came n h b (moves_kept _ came h false counted (d ∙ (v.own who).count) (λ g' x y. holds_took g' fresh text h text _ (every g' x)))
    took_moves g zero _ _ (turns {h} d e c r) every counted = moves_drawn
    took_moves g (suc n) _ _ (turns {h} d e c r) every counted =
        moves_on _ came n h (in_force true b)
        (moves_kept _ came h true counted (omega (arith, (v.own who).count, length_push b.past b.own))
        (λ g' x y. holds_turned g' fresh text h text _ (every g' x) (λ d' f. fresh-is d' f ∙ fresh_known g' y)))
