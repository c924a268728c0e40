-- When the sides that were read leave a key shut, and that this stays so over a run.
use Rattle.std.proofs.Common.{◌≡◌, ℕ, zero, suc, ◌+◌, ◌<◌, ◌≤◌, Bool, true, false, ◌&&◌, eqb, leb, ◌⊎◌, List, [], ◌∷◌, refl, inl, inr, append-nil, arith}
use Rattle.std.specs.List.{AllByRecursion as All}
use Rattle.std.proofs.ByRecursion.{All-weaker, All-push}
use Rattle.std.proofs.lemmas.Bool.{both_ways, cases_Bool, or_from, or_cases, and_parts, and_left, and_right, eqb-true, leb-true, ne_eqb}
use Rattle.ratchet.specs.declared.types.Mark.{Mark}
use Rattle.ratchet.specs.State.{State, has}
use Rattle.runs.specs.declared.types.Who.{Who}
use Rattle.runs.specs.declared.types.Who.TheVariants.{First, Second}
use Rattle.chain.specs.Secret.{Knows}
use Rattle.runs.specs.Stock.{key_of, stock, stocks}
use Rattle.runs.specs.Rule.{any_read, read_at, root_open, link_open, sees, exposed}
use Rattle.runs.specs.World.{World, Event, sends, takes, reads, step, run, party}
use Rattle.runs.proofs.Exposed.{exactly}
use Rattle.runs.proofs.Sides.{step_keeps, run-keeps}
use Rattle.runs.proofs.Shut.{Shut, shut_kept}

false-from : (b : Bool) → (b ≡ true → ⊥) → b ≡ false
false-from b h = elim (cases_Bool b) [ inl t ↦ absurd (h t) | inr f ↦ f ]

any_false : (p : State → Bool) (rs : List State) → All (λ s. p s ≡ false) rs → any_read p rs ≡ false
unfolding any_read
any_false p [] h = refl
any_false p (s ∷ rs) h = or_from (p s) (any_read p rs) h.0 (any_false p rs h.1)

no_read : (n : ℕ) (rs : List State) → All (λ s. s.drawn ≡ n → ⊥) rs → read_at rs n ≡ false
no_read n rs h = any_false _ rs (All-weaker _ _ (λ s d. ne_eqb s.drawn n d) rs h)

-- ### A link after all that was read

-- a side read before link n was reached
pub record Before (n : ℕ) (s : State) : Type 0 where
  pub drawn : s.drawn < n
  pub aside : (i : ℕ) → has (record { link = n; place = i }) s.skipped ≡ false

before-sees : (n i : ℕ) (s : State) → Before n s → sees n i s ≡ false
before-sees n i s h =
    or_from _ _ (and_left (eqb s.drawn (suc n)) _ (ne_eqb s.drawn (suc n) (λ e. omega arith)))
    (or_from _ _ (and_left (eqb s.drawn (suc (suc n))) _ (ne_eqb s.drawn (suc (suc n)) (λ e. omega arith))) (h.aside i))

pub before-shut : (rs : List State) (n i : ℕ) → All (Before n) rs → exposed rs n i ≡ false
before-shut rs n i h =
    or_from (link_open rs n) _
    (and_right (root_open rs n) _
    (or_from (read_at rs n) _ (no_read n rs (All-weaker _ _ (λ s b e. omega (arith, b.drawn)) rs h)) (no_read (suc n) rs (All-weaker _ _ (λ s b e. omega (arith, b.drawn)) rs h))))
    (any_false (sees n i) rs (All-weaker _ _ (λ s b. before-sees n i s b) rs h))

-- ### A mark passed by all that was read later

-- a side read well before the mark's link, or after it had passed the mark
abbrev pub Passed : Mark → State → Type 0
Passed a s = ((s.drawn + 2 ≤ a.link) × (has a s.skipped ≡ false)) ⊎ Shut a s

module _ (a : Mark) where
  passed_drawn : (s : State) (k : ℕ) → k ≤ a.link → a.link ≤ k + 1 → Passed a s → s.drawn ≡ k → ⊥
  passed_drawn s k l u (inl h) e = omega arith
  passed_drawn s k l u (inr h) e = omega (arith, h.drawn)

  passed_sees : (s : State) → Passed a s → sees a.link a.place s ≡ true → ⊥
  passed_sees s (inl h) t = elim (or_cases (eqb s.drawn (suc a.link) && leb s.sent a.place) _ t) [
    | inl b ↦ omega (arith, eqb-true s.drawn (suc a.link) (and_parts (eqb s.drawn (suc a.link)) _ b).0)
    | inr k ↦ elim (or_cases (eqb s.drawn (suc (suc a.link)) && leb s.taken a.place) _ k) [
      | inl b ↦ omega (arith, eqb-true s.drawn (suc (suc a.link)) (and_parts (eqb s.drawn (suc (suc a.link))) _ b).0)
      | inr b ↦ both_ways (has a s.skipped) h.1 b
    ]
  ]
  passed_sees s (inr h) t = elim (or_cases (eqb s.drawn (suc a.link) && leb s.sent a.place) _ t) [
    | inl b ↦
        let p = and_parts (eqb s.drawn (suc a.link)) _ b in
        let d = eqb-true s.drawn (suc a.link) p.0 in
        omega (arith, h.sent (omega arith), leb-true s.sent a.place p.1)
    | inr k ↦ elim (or_cases (eqb s.drawn (suc (suc a.link)) && leb s.taken a.place) _ k) [
      | inl b ↦
          let p = and_parts (eqb s.drawn (suc (suc a.link))) _ b in
          let d = eqb-true s.drawn (suc (suc a.link)) p.0 in
          omega (arith, h.taken (omega arith), leb-true s.taken a.place p.1)
      | inr b ↦ both_ways (has a s.skipped) h.aside b
    ]
  ]

  root_shut : (rs : List State) (n : ℕ) → read_at rs n ≡ false → ((k : ℕ) → suc k ≡ n → read_at rs k ≡ false) → root_open rs n ≡ false
  unfolding root_open
  root_shut rs zero h below = h
  root_shut rs (suc n) h below = or_from (read_at rs (suc n)) _ h (and_right (root_open rs n) _ (or_from (read_at rs n) _ (below n refl) h))

  pub passed_shut : (rs : List State) → All (Passed a) rs → exposed rs a.link a.place ≡ false
  passed_shut rs h =
      or_from (link_open rs a.link) _
      (and_left (root_open rs a.link) _
      (root_shut rs a.link (no_read a.link rs (All-weaker _ _ (λ s p. passed_drawn s a.link (omega arith) (omega arith) p) rs h))
      (λ k e. no_read k rs (All-weaker _ _ (λ s p. passed_drawn s k (omega arith) (omega arith) p) rs h))))
      (any_false (sees a.link a.place) rs (All-weaker _ _ (λ s p. false-from _ (passed_sees s p)) rs h))

  -- a side that has passed a mark can't work its key out from what it holds
  pub shut_unknown : (s : State) → Shut a s → Knows (stock s) (key_of a) → ⊥
  unfolding stocks
  shut_unknown s h k =
      both_ways (exposed (s ∷ []) a.link a.place) (passed_shut (s ∷ []) (inr h, tt))
      ((exactly (s ∷ []) a.link a.place).1 (rw (append-nil (stock s)) k))

  -- ### Over a run

  pub record AllPassed (w : World) : Type 0 where
    pub each : (who : Who) → Shut a (party who w).side
    pub readings : All (Passed a) w.readings

  readings_step : (e : Event) (w : World) → AllPassed w → All (Passed a) (step e w).readings
  readings_step (sends First n f) w h = h.readings
  readings_step (sends Second n f) w h = h.readings
  readings_step (takes First m b f) w h = h.readings
  readings_step (takes Second m b f) w h = h.readings
  readings_step (reads who) w h = All-push (Passed a) w.readings (party who w).side h.readings (inr (h.each who))

  pub all_passed_run : (es : List Event) (w : World) → AllPassed w → AllPassed (run es w)
  all_passed_run = run-keeps AllPassed (λ e w h. record { each = λ who. step_keeps (Shut a) (shut_kept a) who e w (h.each who); readings = readings_step e w h })
