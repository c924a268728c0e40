-- A search that finds the first that passes a test, as the library says it: what is then known of a list, for any test.
use Rattle.std.proofs.Common.{◌≡◌, ℕ, zero, suc, ◌<◌, ◌≤◌, Bool, true, false, cond, ◌||◌, List, [], ◌∷◌, length, get_or, take, nat_lt, sym, refl, ap, ◌∙◌, arith, Some, None}
use Rattle.std.specs.List.{remove, position, position_or_len}
use Rattle.std.proofs.lemmas.Bool.{or_from}
use Rattle.std.proofs.lemmas.Bool.Decides.{nat_tests}
use Rattle.std.proofs.lemmas.List.{take_all}
use Rattle.std.proofs.lemmas.List.Quantifiers.{position-Some}
use Rattle.std.proofs.lemmas.List.Sums.{fails_before_first}
use Rattle.std.proofs.lemmas.Option.{none-some}
use Rattle.ratchet.specs.declared.types.Mark.{Mark}
use Rattle.ratchet.specs.Blank.{blank}
use Rattle.ratchet.specs.Same.{same_mark}
use Rattle.ratchet.specs.State.{has, without}
use Rattle.ratchet.proofs.Finds as finds

none_there : (b : Bool) (n : ℕ) → cond b (Some n) None ≡ None → b ≡ false
none_there true n e = absurd (none-some n (sym e))
none_there false n e = refl

-- g tells whether an element passes the test f
module _ {A : Type 0} (f : A → Bool) (g : List A → Bool) (none : g [] ≡ false) (more : (x : A) (xs : List A) → g (x ∷ xs) ≡ (f x || g xs)) where
  pub passed_over : (xs : List A) (i : ℕ) (d : A) → i ≤ length xs → ((k : ℕ) → k < i → f (get_or xs k d) ≡ false) → g (take i xs) ≡ false
  passed_over xs zero d h before = none
  passed_over [] (suc i) d h before = none
  passed_over (x ∷ xs) (suc i) d h before =
      more x (take i xs) ∙ or_from (f x) (g (take i xs)) (before 0 (omega arith)) (passed_over xs i d (omega arith) (λ k l. before (suc k) (omega arith)))

  -- the first that passes stands at i
  pub first_at : (xs : List A) (i : ℕ) (d : A) → position f xs ≡ Some i → (i < length xs) × (g (take i xs) ≡ false) × (f (get_or xs i d) ≡ true)
  first_at xs i d e = let p = position-Some f xs i d e in (p.0, passed_over xs i d (omega (arith, p.0)) p.2, p.1)

  -- none passes
  pub nowhere : (xs : List A) (d : A) → position f xs ≡ None → g xs ≡ false
  nowhere xs d e =
      let b = none_there (nat_lt (position_or_len f xs) (length xs)) (position_or_len f xs) e in
      let le : length xs ≤ position_or_len f xs = grind (arith, nat_tests, b) in
      let all = passed_over xs (length xs) d (omega arith) (λ k l. fails_before_first f xs k d (omega (arith, le))) in
      ap g (sym (take_all (length xs) xs (omega arith))) ∙ all

-- a search among marks is one for the test `same_mark`
pub has_step : (m x : Mark) (xs : List Mark) → has m (x ∷ xs) ≡ (same_mark x m || has m xs)
unfolding has
has_step m x xs = refl

pub has-nil : (m : Mark) → has m [] ≡ false
unfolding has
has-nil m = refl

pub without-step : (m x : Mark) (xs : List Mark) → without m (x ∷ xs) ≡ cond (same_mark x m) xs (x ∷ without m xs)
unfolding without
without-step m x xs = refl

-- what a search for a mark comes to
module _ (m : Mark) (xs : List Mark) where
  pub mark_at : (i : ℕ) → position (λ x. same_mark x m) xs ≡ Some i → (i < length xs) × (has m (take i xs) ≡ false) × (same_mark (get_or xs i blank) m ≡ true)
  mark_at i e = first_at (λ x. same_mark x m) (has m) (has-nil m) (has_step m) xs i blank e

  pub no_mark : position (λ x. same_mark x m) xs ≡ None → has m xs ≡ false
  no_mark e = nowhere (λ x. same_mark x m) (has m) (has-nil m) (has_step m) xs blank e

  pub mark_there : (i : ℕ) → position (λ x. same_mark x m) xs ≡ Some i → has m xs ≡ true
  mark_there i e = let p = mark_at i e in finds.found (λ x. same_mark x m) (has m) (has-nil m) (has_step m) xs i blank p.0 p.2

  pub mark_out : (i : ℕ) → position (λ x. same_mark x m) xs ≡ Some i → without m xs ≡ remove xs i
  mark_out i e =
      let p = mark_at i e in
      finds.taken_out (λ x. same_mark x m) (has m) (has-nil m) (has_step m) (without m) (without-step m) xs i blank p.0 p.1 p.2
