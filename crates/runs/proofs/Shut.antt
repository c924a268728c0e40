-- A mark that a side has passed: it stays so, and its key can't be worked out from what the side holds.
use Rattle.std.proofs.Common.{◌≡◌, ◌+◌, ◌<◌, ◌≤◌, true, false, inl, inr, arith}
use Rattle.std.proofs.lemmas.Bool.{both_ways}
use Rattle.ratchet.specs.declared.types.Mark.{Mark}
use Rattle.ratchet.specs.declared.types.Message.{Message}
use Rattle.ratchet.specs.State.{State, has}
use Rattle.ratchet.specs.Steps.{sends, advanced, recalled, turned}
use Rattle.runs.proofs.Marks.{has-not, without-had}
use Rattle.runs.proofs.Steps.{advanced-had, turned-had}
use Rattle.runs.proofs.Sides.{Kept}

-- its key's number is passed; as the sender it has sent it, as the taker it has taken it or passed it over, and it has not its key put aside
pub record Shut (a : Mark) (s : State) : Type 0 where
  pub drawn : a.link < s.drawn
  pub sent : s.drawn ≡ a.link + 1 → a.place < s.sent
  pub taken : s.drawn ≡ a.link + 2 → a.place < s.taken
  pub aside : has a s.skipped ≡ false

module _ (a : Mark) where
  not_aside : (s : State) → Shut a s → has a s.skipped ≡ true → ⊥
  not_aside s h t = both_ways (has a s.skipped) h.aside t

  shut_sends : (s : State) → 0 < s.drawn → Shut a s → Shut a (sends s)
  shut_sends s d h = record { drawn = h.drawn; sent = λ e. omega (arith, h.sent e); taken = h.taken; aside = h.aside }

  shut_advanced : (s : State) (m : Message) → m.mark.link + 2 ≡ s.drawn → s.taken ≤ m.mark.place → Shut a s → Shut a (advanced s m)
  shut_advanced s m e t h =
      record {
        drawn = h.drawn;
        sent = h.sent;
        taken = λ d. omega (arith, h.taken d);
        aside = has-not a (advanced s m).skipped (λ k. elim (advanced-had s m a e k) [ inl j ↦ not_aside s h j | inr p ↦ omega (arith, h.taken (omega arith)) ]);
      }

  shut_recalled : (s : State) (m : Message) → has m.mark s.skipped ≡ true → Shut a s → Shut a (recalled s m)
  shut_recalled s m t h =
      record { drawn = h.drawn; sent = h.sent; taken = h.taken; aside = has-not a (recalled s m).skipped (λ k. not_aside s h (without-had a m.mark s.skipped k)) }

  shut_turned : (s : State) (m : Message) → m.mark.link ≡ s.drawn → Shut a s → Shut a (turned s m)
  shut_turned s m e h =
      record {
        drawn = omega (arith, h.drawn);
        sent = λ d. absurd (omega (arith, h.drawn));
        taken = λ d. absurd (omega (arith, h.drawn));
        aside = has-not a (turned s m).skipped (λ k. elim (turned-had s m a k) [
          | inl j ↦ not_aside s h j
          | inr j ↦ elim j [ inl p ↦ omega (arith, h.taken (omega arith)) | inr p ↦ omega (arith, h.drawn) ]
        ]);
      }

  pub shut_kept : Kept (Shut a)
  shut_kept = record { sending = shut_sends; advancing = shut_advanced; recalling = shut_recalled; turning = shut_turned }
