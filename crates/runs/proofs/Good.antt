-- What holds of the whole world after every run.
use Rattle.std.proofs.Common.{◌≡◌, ℕ, zero, suc, ◌+◌, ◌%◌, ◌≤◌, Bool, true, ◌⊎◌, List, [], refl, inl, inr, arith}
use Rattle.std.specs.List.{AllByRecursion as All}
use Rattle.std.proofs.ByRecursion.{All-weaker, All-push}
use Rattle.std.proofs.lemmas.Bool.{false≢true, and_parts}
use Rattle.ratchet.specs.declared.types.Mark.{Mark}
use Rattle.ratchet.specs.declared.types.Message.{Message}
use Rattle.ratchet.specs.State.{State, has}
use Rattle.ratchet.specs.Steps.{Answer, kept, message, send, advanced, recalled, turned}
use Rattle.runs.specs.declared.types.Who.{Who}
use Rattle.runs.specs.declared.types.Who.TheVariants.{First, Second}
use Rattle.runs.specs.World.{Party, World, Event, sends, takes, reads, among, performed, send_effects, take_effects, opens, step, run, start, party, other}
use Rattle.runs.proofs.Messages.{none-twice_none}
use Rattle.runs.proofs.Steps.{Sent, nothing, sent, send-so, Taken, advances, recalls, turns, take-so}
use Rattle.runs.proofs.Sides.{Kept, step_keeps, run-keeps}
use Rattle.runs.proofs.Way.{sender, taker, Sealing, Opening, Way}
use Rattle.runs.proofs.Sending.{way_wrote, way_sealed, way_left, way_turned}
use Rattle.runs.proofs.Taking.{Takes, took, advanced_takes, recalled_takes, turned_takes, ahead, way-handed}

-- ### Both ways between a side q that makes a step and the other, p

pub record Both (r t : ℕ) (p q : Party) : Type 0 where
  pub to : Way r (sender p) (taker q)
  pub back : Way t (sender q) (taker p)

module _ (r t : ℕ) (p q : Party) (b : Both r t p q) where
  both_sent : (n : ℕ) (a : Answer) → Sent q.side a → Both r t p (performed n (send_effects a (message q.side)) q)
  both_sent n _ nothing = b
  both_sent zero _ (sent d f) = b
  both_sent (suc zero) _ (sent d f) = record { to = b.to; back = way_wrote t q (taker p) b.back }
  both_sent (suc (suc zero)) _ (sent d f) = record { to = b.to; back = way_sealed t q (taker p) b.back d f }
  both_sent (suc (suc (suc n))) _ (sent d f) = record { to = b.to; back = way_left t q (taker p) b.back d f }

  module _ (o : Bool) (m : Message) (true' : o ≡ true → among m p.left ≡ true) where
    -- after the page is kept, and after the text is handed out
    both_taken : (n : ℕ) (s : State) → Takes r (sender p) q s m → Way t (sender (took q s m)) (taker p) → Both r t p (performed n (take_effects (kept s) m) q)
    both_taken zero s h k = b
    both_taken (suc zero) s h k = record { to = h.way; back = k }
    both_taken (suc (suc n)) s h k = record { to = way-handed r (sender p) q b.to s m h; back = k }

    both_took : (n : ℕ) (a : Answer) → Taken o q.side m a → Both r t p (performed n (take_effects a m) q)
    both_took n _ nothing = b
    both_took n _ (advances e on next) = both_taken n (advanced q.side m) (advanced_takes r (sender p) q b.to m (true' e) on next) b.back
    both_took n _ (recalls e there) = both_taken n (recalled q.side m) (recalled_takes r (sender p) q b.to m (true' e) there) b.back
    both_took n _ (turns e new) =
        both_taken n (turned q.side m) (turned_takes r (sender p) q b.to m (true' e) new)
        (way_turned t q (taker p) b.back m (ahead r (sender p) q b.to m (true' e) new))

-- ### The world

-- a side as it was read: no key of its is newer than the newest of its side now, and what it had put aside is older
pub record Old (d e : ℕ) (s : State) : Type 0 where
  pub drawn : (s.drawn ≤ d) ⊎ (s.drawn ≤ e)
  pub aside : (a : Mark) → has a s.skipped ≡ true → a.link + 2 ≤ s.drawn

pub record Good (w : World) : Type 0 where
  pub there : Way 0 (sender w.first) (taker w.second)
  pub back : Way 1 (sender w.second) (taker w.first)
  pub readings : All (Old w.first.side.drawn w.second.side.drawn) w.readings

-- the same as seen by the second side, which takes on the even links, and by the first
seen_second : (w : World) → Good w → Both 0 1 w.first w.second
seen_second w g = record { to = g.there; back = g.back }

seen_first : (w : World) → Good w → Both 1 0 w.second w.first
seen_first w g = record { to = g.back; back = g.there }

-- ### It is kept

drawn-kept : (k : ℕ) → Kept (λ s. k ≤ s.drawn)
drawn-kept k = record { sending = λ s d h. h; advancing = λ s m e l h. h; recalling = λ s m t h. h; turning = λ s m e h. omega arith }

pub drawn-step : (who : Who) (e : Event) (w : World) → (party who w).side.drawn ≤ (party who (step e w)).side.drawn
drawn-step who e w = step_keeps (λ s. (party who w).side.drawn ≤ s.drawn) (drawn-kept (party who w).side.drawn) who e w (omega arith)

older : (d d' e e' : ℕ) → d ≤ d' → e ≤ e' → (s : State) → Old d e s → Old d' e' s
older d d' e e' l m s h = record { drawn = elim h.drawn [ inl k ↦ inl (omega arith) | inr k ↦ inr (omega arith) ]; aside = h.aside }

readings-kept : (e : Event) (w : World) → Good w → All (Old (step e w).first.side.drawn (step e w).second.side.drawn) w.readings
readings-kept e w g =
    All-weaker _ _ (older w.first.side.drawn (step e w).first.side.drawn w.second.side.drawn (step e w).second.side.drawn (drawn-step First e w) (drawn-step Second e w))
    w.readings g.readings

-- what opens left the other side
came : (w : World) (who : Who) (m : Message) (whole : Bool) → opens w who m whole ≡ true → among m (party (other who) w).left ≡ true
came w who m whole h = (and_parts whole (among m (party (other who) w).left) h).1

good-step : (e : Event) (w : World) → Good w → Good (step e w)
good-step (sends First n f) w g =
    let b = both_sent 1 0 w.second w.first (seen_first w g) f (send n w.first.side) (send-so n w.first.side) in
    record { there = b.back; back = b.to; readings = readings-kept (sends First n f) w g }
good-step (sends Second n f) w g =
    let b = both_sent 0 1 w.first w.second (seen_second w g) f (send n w.second.side) (send-so n w.second.side) in
    record { there = b.to; back = b.back; readings = readings-kept (sends Second n f) w g }
good-step (takes First m o f) w g =
    let b = both_took 1 0 w.second w.first (seen_first w g) (opens w First m o) m (came w First m o) f _ (take-so (opens w First m o) w.first.side m) in
    record { there = b.back; back = b.to; readings = readings-kept (takes First m o f) w g }
good-step (takes Second m o f) w g =
    let b = both_took 0 1 w.first w.second (seen_second w g) (opens w Second m o) m (came w Second m o) f _ (take-so (opens w Second m o) w.second.side m) in
    record { there = b.to; back = b.back; readings = readings-kept (takes Second m o f) w g }
good-step (reads First) w g = record {
  there = g.there;
  back = g.back;
  readings = All-push _ w.readings w.first.side g.readings (record { drawn = inl (omega arith); aside = λ a h. (g.back.opening.aside a h).low });
}
good-step (reads Second) w g = record {
  there = g.there;
  back = g.back;
  readings = All-push _ w.readings w.second.side g.readings (record { drawn = inr (omega arith); aside = λ a h. (g.there.opening.aside a h).low });
}

-- ### It holds at the start

new-sealing : (r d : ℕ) → d % 2 + r ≡ 1 → Sealing r (record { drawn = d; sent = 0; before = 0; sealed = []; left = [] })
unfolding among
new-sealing r d e = record {
  parity = e;
  each = λ x a. absurd (false≢true a);
  unique = λ x y a b h. absurd (false≢true a);
  once = none-twice_none;
  left = λ x a. absurd (false≢true a);
}

new-opening : (r d : ℕ) → d % 2 ≡ r → Opening r (record { drawn = d; taken = 0; skipped = []; opened = []; handed = [] })
unfolding among has
new-opening r d e = record {
  parity = e;
  aside = λ a h. absurd (false≢true h);
  apart = tt;
  each = λ x a. absurd (false≢true a);
  once = none-twice_none;
  handed = λ x a. absurd (false≢true a);
  handed_once = none-twice_none;
}

good_start : Good start
unfolding among
good_start = record {
  there = record {
    sealing = new-sealing 0 1 refl;
    opening = new-opening 0 0 refl;
    near = inr refl;
    caught = λ e. absurd (omega arith);
    genuine = λ x a. absurd (false≢true a);
    settled = λ x a b. absurd (false≢true a);
  };
  back = record {
    sealing = new-sealing 1 0 refl;
    opening = new-opening 1 1 refl;
    near = inl refl;
    caught = λ e. omega arith;
    genuine = λ x a. absurd (false≢true a);
    settled = λ x a b. absurd (false≢true a);
  };
  readings = tt;
}

pub good : (es : List Event) → Good (run es start)
good es = run-keeps Good good-step es start good_start
