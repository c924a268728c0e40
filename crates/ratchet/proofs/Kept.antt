-- A step that nothing refuses comes to the side after it.
use Rattle.std.proofs.Common.{◌≡◌, ℕ, ◌+◌, ◌^◌, ◌<◌, ◌≤◌, Bool, true, false, cond, ◌&&◌, length, refl, ◌∙◌}
use Rattle.std.proofs.lemmas.Bool.{cond-true, cond-false, le-leb, lt-ltb, and_from}
use Rattle.ratchet.specs.declared.types.Message.{Message}
use Rattle.ratchet.specs.State.{State, has}
use Rattle.ratchet.specs.Steps.{kept, checked, passed, left, short, room_for, advanced, recalled, turned, take_in_turn, take_recalled, take_new, take, in_turn, is_new, refused}

checked-kept : (w o f : Bool) (s : State) → w ≡ true → o ≡ true → f ≡ true → checked w o f s ≡ kept s
checked-kept w o f s p q r = rw (p, q, r)

module _ (opens : Bool) (s : State) (m : Message) (o : opens ≡ true) where
  pub kept_in_turn : (n : ℕ) → length s.skipped ≡ n → passed s m ≤ 256 → n + passed s m ≤ 512 → m.mark.place + 1 < 2 ^ 32 →
      (t : State) → t ≡ advanced s m → kept t ≡ take_in_turn opens s m
  kept_in_turn n e a b f t is =
      let c : length s.skipped + passed s m ≤ 512 = rw e b in
      let w = and_from (short (passed s m)) (room_for (length s.skipped + passed s m)) (le-leb _ _ a) (le-leb _ _ c) in
      let k = checked-kept _ opens _ (advanced s m) w o (lt-ltb (m.mark.place + 1) (2 ^ 32) f) in cc

  pub kept_recalled : (t : State) → t ≡ recalled s m → kept t ≡ take_recalled opens s m
  kept_recalled t is = let k = checked-kept true opens true (recalled s m) refl o refl in cc

  pub kept_new : (n : ℕ) → length s.skipped ≡ n → left s m ≤ 256 → m.mark.place ≤ 256 → n + left s m + m.mark.place ≤ 512 →
      s.drawn + 2 < 2 ^ 32 → (t : State) → t ≡ turned s m → kept t ≡ take_new opens s m
  kept_new n e a b c f t is =
      let d : length s.skipped + left s m + m.mark.place ≤ 512 = rw e c in
      let w = and_from (short (left s m)) (short m.mark.place && room_for (length s.skipped + left s m + m.mark.place)) (le-leb _ _ a)
      (and_from (short m.mark.place) (room_for (length s.skipped + left s m + m.mark.place)) (le-leb _ _ b) (le-leb _ _ d)) in
      let k = checked-kept _ opens _ (turned s m) w o (lt-ltb (s.drawn + 2) (2 ^ 32) f) in cc

pub take-recalled : (opens : Bool) (s : State) (m : Message) → in_turn s m ≡ false → has m.mark s.skipped ≡ true → take opens s m ≡ take_recalled opens s m
take-recalled opens s m turn found = cond-false (in_turn s m) _ _ turn ∙ cond-true (has m.mark s.skipped) _ _ found

pub take-elsewhere : (opens : Bool) (s : State) (m : Message) → in_turn s m ≡ false → has m.mark s.skipped ≡ false → take opens s m ≡ cond (is_new s m) (take_new opens s m) (refused 3)
take-elsewhere opens s m turn none = cond-false (in_turn s m) _ _ turn ∙ cond-false (has m.mark s.skipped) _ _ none
