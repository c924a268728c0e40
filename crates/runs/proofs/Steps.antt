-- What a step of one side can come to, and what is put aside by it.
use Rattle.std.proofs.Common.{◌≡◌, ℕ, ◌+◌, ◌-◌, ◌^◌, ◌<◌, ◌≤◌, Bool, true, eqb, ltb, leb, ◌⊎◌, ◌++◌, inl, inr, arith}
use Rattle.std.proofs.lemmas.Bool.{and_parts, eqb-true, eqb-false, leb-true, le-leb, ltb-true, cond_both, cond-true, cond-false, cases_Bool}
use Rattle.ratchet.specs.declared.types.Mark.{Mark}
use Rattle.ratchet.specs.declared.types.Message.{Message}
use Rattle.ratchet.specs.State.{State, has, places}
use Rattle.ratchet.specs.Steps.{Answer, kept, refused, fits, sends, send, in_turn, passed, advanced, recalled, is_new, left, turned, checked, take}
use Rattle.runs.proofs.Marks.{Placed, placed, place-has, has_either, has_left, has_right}

-- ### Sending

pub data Sent (s : State) : Answer → Type 0 where
  nothing : {n : ℕ} → Sent s (refused n)
  sent : 0 < s.drawn → s.sent + 1 < 2 ^ 32 → Sent s (kept (sends s))

pub send-so : (n : ℕ) (s : State) → Sent s (send n s)
send-so n s =
    cond_both (ltb 1000 n) _ _ (Sent s) (λ t. nothing) (λ f.
    cond_both (eqb s.drawn 0) _ _ (Sent s) (λ t. nothing) (λ g.
    cond_both (fits (s.sent + 1)) _ _ (Sent s) (λ t. sent (omega (arith, eqb-false s.drawn 0 g)) (ltb-true (s.sent + 1) (2 ^ 32) t)) (λ h. nothing)))

-- ### Taking

pub data Taken (opens : Bool) (s : State) (m : Message) : Answer → Type 0 where
  nothing : {n : ℕ} → Taken opens s m (refused n)
  advances : opens ≡ true → m.mark.link + 2 ≡ s.drawn → s.taken ≤ m.mark.place → Taken opens s m (kept (advanced s m))
  recalls : opens ≡ true → has m.mark s.skipped ≡ true → Taken opens s m (kept (recalled s m))
  turns : opens ≡ true → m.mark.link ≡ s.drawn → Taken opens s m (kept (turned s m))

-- what passes its checks opens
checked-so : (within opens countable : Bool) (s t : State) (m : Message) → (opens ≡ true → Taken opens s m (kept t)) → Taken opens s m (checked within opens countable t)
checked-so within opens countable s t m h =
    cond_both within _ _ (Taken opens s m)
    (λ _. cond_both opens _ _ (Taken opens s m) (λ o. cond_both countable _ _ (Taken opens s m) (λ _. h o) (λ _. nothing)) (λ _. nothing))
    (λ _. nothing)

pub take-so : (opens : Bool) (s : State) (m : Message) → Taken opens s m (take opens s m)
take-so opens s m =
    cond_both (in_turn s m) _ _ (Taken opens s m)
    (λ t. let e = and_parts (eqb (m.mark.link + 2) s.drawn) _ t in
    checked-so _ opens _ s (advanced s m) m (λ o. advances o (eqb-true (m.mark.link + 2) s.drawn e.0) (leb-true s.taken m.mark.place e.1)))
    (λ f. cond_both (has m.mark s.skipped) _ _ (Taken opens s m)
    (λ t. checked-so true opens true s (recalled s m) m (λ o. recalls o t))
    (λ g. cond_both (is_new s m) _ _ (Taken opens s m)
    (λ t. checked-so _ opens _ s (turned s m) m (λ o. turns o (eqb-true m.mark.link s.drawn t)))
    (λ h. nothing)))

-- ### What is put aside

-- the places passed over in turn
pub advanced-had : (s : State) (m : Message) (a : Mark) → m.mark.link + 2 ≡ s.drawn → has a (advanced s m).skipped ≡ true →
    (has a s.skipped ≡ true) ⊎ ((a.link + 2 ≡ s.drawn) × (s.taken ≤ a.place) × (a.place < m.mark.place))
advanced-had s m a e h = elim (has_either a s.skipped _ h) [
  | inl k ↦ inl k
  | inr k ↦ let p = placed a m.mark.link s.taken (passed s m) k in inr (omega arith, p.from, omega arith)
]

pub advanced-has : (s : State) (m : Message) (a : Mark) → a.link ≡ m.mark.link → s.taken ≤ a.place → a.place < m.mark.place → has a (advanced s m).skipped ≡ true
advanced-has s m a e l u =
    has_right a s.skipped _ (place-has a m.mark.link s.taken (passed s m) (record { link = e; from = l; below = omega arith }))

-- what is left of the old link
left-some : (s : State) (m : Message) → 2 ≤ s.drawn → left s m ≡ m.before - s.taken
left-some s m h = cond-true (leb 2 s.drawn) _ _ (le-leb 2 s.drawn h)

pub left-placed : (s : State) (m : Message) (a : Mark) → Placed (s.drawn - 2) s.taken (left s m) a → (a.link + 2 ≡ s.drawn) × (s.taken ≤ a.place) × (a.place < m.before)
left-placed s m a p = elim (cases_Bool (leb 2 s.drawn)) [
  | inl t ↦ let l = leb-true 2 s.drawn t in let e = left-some s m l in (omega arith, omega arith, omega arith)
  | inr f ↦ let z = cond-false (leb 2 s.drawn) (m.before - s.taken) 0 f in absurd (omega arith)
]

-- by a new link: the rest of the old one, and the places passed over on the new one
pub turned-had : (s : State) (m : Message) (a : Mark) → has a (turned s m).skipped ≡ true →
    (has a s.skipped ≡ true) ⊎ (((a.link + 2 ≡ s.drawn) × (s.taken ≤ a.place) × (a.place < m.before)) ⊎ ((a.link ≡ m.mark.link) × (a.place < m.mark.place)))
turned-had s m a h = elim (has_either a (s.skipped ++ places (s.drawn - 2) s.taken (left s m)) _ h) [
  | inl k ↦ elim (has_either a s.skipped _ k) [
    | inl j ↦ inl j
    | inr j ↦ inr (inl (left-placed s m a (placed a (s.drawn - 2) s.taken (left s m) j)))
  ]
  | inr k ↦ let p = placed a m.mark.link 0 m.mark.place k in inr (inr (p.link, omega arith))
]

pub turned-kept : (s : State) (m : Message) (a : Mark) → has a s.skipped ≡ true → has a (turned s m).skipped ≡ true
turned-kept s m a h = has_left a (s.skipped ++ places (s.drawn - 2) s.taken (left s m)) _ (has_left a s.skipped _ h)

pub turned-old : (s : State) (m : Message) (a : Mark) → a.link + 2 ≡ s.drawn → s.taken ≤ a.place → a.place < m.before → has a (turned s m).skipped ≡ true
turned-old s m a e l u =
    let n = left-some s m (omega arith) in
    has_left a (s.skipped ++ places (s.drawn - 2) s.taken (left s m)) _
    (has_right a s.skipped _ (place-has a (s.drawn - 2) s.taken (left s m) (record { link = omega arith; from = l; below = omega arith })))

pub turned-new : (s : State) (m : Message) (a : Mark) → a.link ≡ m.mark.link → a.place < m.mark.place → has a (turned s m).skipped ≡ true
turned-new s m a e u =
    has_right a (s.skipped ++ places (s.drawn - 2) s.taken (left s m)) _
    (place-has a m.mark.link 0 m.mark.place (record { link = e; from = omega arith; below = omega arith }))
