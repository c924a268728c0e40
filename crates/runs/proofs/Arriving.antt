-- What becomes of a message that left: it was opened, or opens now, or breaks a limit.
use Rattle.std.proofs.Common.{◌≡◌, ℕ, ◌+◌, ◌^◌, ◌<◌, Bool, true, false, ◌&&◌, eqb, leb, ◌⊎◌, length, ◌∙◌, inl, inr, arith}
use Rattle.std.proofs.lemmas.Bool.{cases_Bool, cases_lt, cases_order, and_cases, and_from, and_left, and_right, eqb-true, eq-eqb, le-leb, lt-leb, leb-false, ltb-false, lt-ltb, cond-true, cond-false}
use Rattle.ratchet.specs.declared.types.Message.{Message}
use Rattle.ratchet.specs.State.{State, has}
use Rattle.ratchet.specs.Steps.{kept, refused, fits, in_turn, passed, advanced, recalled, is_new, left, turned, short, room_for, take_in_turn, take_new, take}
use Rattle.runs.specs.World.{Party, among}
use Rattle.runs.specs.Laws.{KeptOut, passes_too_many, no_room, old_link_too_many, new_link_too_many, no_room_for_both, no_further_key}
use Rattle.runs.proofs.Marks.{has-not}
use Rattle.runs.proofs.Way.{Sender, taker, Sealed, Behind, Way}

-- what taking a message that opens comes to
pub data Fate (s : State) (m : Message) : Type 0 where
  opens : (t : State) → take true s m ≡ kept t → Fate s m
  kept_out : (n : ℕ) → take true s m ≡ refused n → KeptOut s m n → Fate s m

-- ### The answer, by where the message stands

module _ (s : State) (m : Message) where
  in-turn-answer : in_turn s m ≡ true → take true s m ≡ take_in_turn true s m
  in-turn-answer e = cond-true (in_turn s m) _ _ e

  recalled_answer : in_turn s m ≡ false → has m.mark s.skipped ≡ true → take true s m ≡ kept (recalled s m)
  recalled_answer e h = cond-false (in_turn s m) _ _ e ∙ cond-true (has m.mark s.skipped) _ _ h

  new_answer : in_turn s m ≡ false → has m.mark s.skipped ≡ false → is_new s m ≡ true → take true s m ≡ take_new true s m
  new_answer e h n = cond-false (in_turn s m) _ _ e ∙ (cond-false (has m.mark s.skipped) _ _ h ∙ cond-true (is_new s m) _ _ n)

  in-turn-fate : in_turn s m ≡ true → m.mark.place + 1 < 2 ^ 32 → Fate s m
  in-turn-fate e f = elim (cases_Bool (short (passed s m) && room_for (length s.skipped + passed s m))) [
    | inl t ↦ opens (advanced s m) (in-turn-answer e ∙ (cond-true (short (passed s m) && room_for (length s.skipped + passed s m)) _ _ t
        ∙ cond-true (fits (m.mark.place + 1)) _ _ (lt-ltb (m.mark.place + 1) (2 ^ 32) f)))
    | inr g ↦
        let out = in-turn-answer e ∙ cond-false (short (passed s m) && room_for (length s.skipped + passed s m)) _ _ g in
        elim (and_cases (short (passed s m)) _ g) [
          | inl a ↦ kept_out 4 out (passes_too_many e (leb-false (passed s m) 256 a))
          | inr a ↦ kept_out 4 out (no_room e (leb-false (length s.skipped + passed s m) 512 a))
        ]
  ]

  abbrev room : Bool
  room = short (left s m) && (short m.mark.place && room_for (length s.skipped + left s m + m.mark.place))

  new_fate : in_turn s m ≡ false → has m.mark s.skipped ≡ false → is_new s m ≡ true → Fate s m
  new_fate e h n = elim (cases_Bool room) [
    | inl t ↦
        let within = new_answer e h n ∙ cond-true room _ _ t in
        elim (cases_Bool (fits (s.drawn + 2))) [
          | inl u ↦ opens (turned s m) (within ∙ cond-true (fits (s.drawn + 2)) _ _ u)
          | inr u ↦ kept_out 6 (within ∙ cond-false (fits (s.drawn + 2)) _ _ u) (no_further_key n (ltb-false (s.drawn + 2) (2 ^ 32) u))
        ]
    | inr g ↦
        let out = new_answer e h n ∙ cond-false room _ _ g in
        elim (and_cases (short (left s m)) _ g) [
          | inl a ↦ kept_out 4 out (old_link_too_many n (leb-false (left s m) 256 a))
          | inr a ↦ elim (and_cases (short m.mark.place) _ a) [
            | inl b ↦ kept_out 4 out (new_link_too_many n (leb-false m.mark.place 256 b))
            | inr b ↦ kept_out 4 out (no_room_for_both n (leb-false (length s.skipped + left s m + m.mark.place) 512 b))
          ]
        ]
  ]

  not_in_turn : (m.mark.link + 2 ≡ s.drawn → m.mark.place < s.taken) → in_turn s m ≡ false
  not_in_turn h = elim (cases_Bool (eqb (m.mark.link + 2) s.drawn)) [
    | inl t ↦ and_right _ (leb s.taken m.mark.place) (lt-leb s.taken m.mark.place (h (eqb-true (m.mark.link + 2) s.drawn t)))
    | inr f ↦ and_left (eqb (m.mark.link + 2) s.drawn) _ f
  ]

-- ### Where a message that left stands

pub arrives : (r : ℕ) (o : Sender) (q : Party) → Way r o (taker q) → (m : Message) → among m o.left ≡ true → (among m q.opened ≡ true) ⊎ Fate q.side m
arrives r o q w m came = elim (cases_order (m.mark.link + 2) q.side.drawn) [
  | inl e ↦ elim (cases_lt m.mark.place q.side.taken) [
    | inl l ↦ behind (inr (e, l)) (λ _. l)
    | inr l ↦ inr (in-turn-fate q.side m (and_from _ _ (eq-eqb (m.mark.link + 2) q.side.drawn e) (le-leb q.side.taken m.mark.place l)) known.counted)
  ]
  | inr d ↦ elim d [
    | inl l ↦ behind (inl l) (λ e. absurd (omega arith))
    | inr g ↦ inr (new_fate q.side m (not_in_turn q.side m (λ e. absurd (omega arith)))
        (has-not m.mark _ (λ t. omega (arith, (w.opening.aside m.mark t).low)))
        (eq-eqb m.mark.link q.side.drawn (omega (arith, known.parity, known.low, w.opening.parity, w.near))))
  ]
]
  where
    known : Sealed r o m
    known = w.sealing.each m (w.sealing.left m came)

    behind : Behind (taker q) m → (m.mark.link + 2 ≡ q.side.drawn → m.mark.place < q.side.taken) → (among m q.opened ≡ true) ⊎ Fate q.side m
    behind b l = elim (w.settled m came b)
        [ inl k ↦ inl k | inr k ↦ inr (opens (recalled q.side m) (recalled_answer q.side m (not_in_turn q.side m l) k)) ]
