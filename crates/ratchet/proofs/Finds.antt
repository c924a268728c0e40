-- A search through a list, for any test: what holds while nothing is found, and once something is.
use Rattle.std.proofs.Common.{◌≡◌, ℕ, zero, suc, ◌+◌, ◌<◌, ◌≤◌, Bool, true, false, cond, ◌||◌, List, [], ◌∷◌, length, get_or, take, sym, refl, ap, ◌∙◌, add-one, arith}
use Rattle.std.proofs.lemmas.List.{take_all}
use Rattle.std.proofs.lemmas.Bool.{or_parts, or_from, or_left, or_right, cond-true, cond-false}
use Rattle.std.specs.List.{remove}

-- g tells whether an element passes the test f
module _ {A : Type 0} (f : A → Bool) (g : List A → Bool) (none : g [] ≡ false) (more : (x : A) (xs : List A) → g (x ∷ xs) ≡ (f x || g xs)) where
  pub not_yet : (xs : List A) (i : ℕ) (d : A) → i < length xs → g (take i xs) ≡ false → f (get_or xs i d) ≡ false → g (take (i + 1) xs) ≡ false
  not_yet [] i d h before here = absurd (omega arith)
  not_yet (x ∷ xs) zero d h before here = more x [] ∙ or_from (f x) (g []) here none
  not_yet (x ∷ xs) (suc i) d h before here =
      let p = or_parts (f x) (g (take i xs)) (sym (more x (take i xs)) ∙ before) in
      let r = not_yet xs i d (omega arith) p.1 here in
      let s = rw add-one at r in
      rw add-one (more x (take (suc i) xs) ∙ or_from (f x) (g (take (suc i) xs)) p.0 s)

  pub found : (xs : List A) (i : ℕ) (d : A) → i < length xs → f (get_or xs i d) ≡ true → g xs ≡ true
  found [] i d h here = absurd (omega arith)
  found (x ∷ xs) zero d h here = more x xs ∙ or_left (f x) (g xs) here
  found (x ∷ xs) (suc i) d h here = more x xs ∙ or_right (f x) (g xs) (found xs i d (omega arith) here)

  pub never : (xs : List A) (i : ℕ) → length xs ≤ i → g (take i xs) ≡ false → g xs ≡ false
  never xs i h before = let e = take_all i xs h in cc

  -- w is a list without the first that passes
  pub taken_out : (w : List A → List A) → ((x : A) (xs : List A) → w (x ∷ xs) ≡ cond (f x) xs (x ∷ w xs)) → (xs : List A) (i : ℕ) (d : A) → i < length xs →
      g (take i xs) ≡ false → f (get_or xs i d) ≡ true → w xs ≡ remove xs i
  taken_out w step [] i d h before here = absurd (omega arith)
  taken_out w step (x ∷ xs) zero d h before here = step x xs ∙ cond-true (f x) xs (x ∷ w xs) here
  taken_out w step (x ∷ xs) (suc i) d h before here =
      let p = or_parts (f x) (g (take i xs)) (sym (more x (take i xs)) ∙ before) in
      let r = taken_out w step xs i d (omega arith) p.1 here in
      step x xs ∙ (cond-false (f x) xs (x ∷ w xs) p.0 ∙ ap (λ (l : List A). x ∷ l) r)

  pub left_alone : (w : List A → List A) → w [] ≡ [] → ((x : A) (xs : List A) → w (x ∷ xs) ≡ cond (f x) xs (x ∷ w xs)) → (xs : List A) → g xs ≡ false → w xs ≡ xs
  left_alone w nil step [] e = nil
  left_alone w nil step (x ∷ xs) e =
      let p = or_parts (f x) (g xs) (sym (more x xs) ∙ e) in
      step x xs ∙ (cond-false (f x) xs (x ∷ w xs) p.0 ∙ ap (λ (l : List A). x ∷ l) (left_alone w nil step xs p.1))

  -- v is a value of the first that passes
  module _ {B : Type 0} (u : A → B) (v : List A → B) (step : (x : A) (xs : List A) → v (x ∷ xs) ≡ cond (f x) (u x) (v xs)) where
    pub value_found : (xs : List A) (i : ℕ) (d : A) → i < length xs → g (take i xs) ≡ false → f (get_or xs i d) ≡ true → v xs ≡ u (get_or xs i d)
    value_found [] i d h before here = absurd (omega arith)
    value_found (x ∷ xs) zero d h before here = step x xs ∙ cond-true (f x) (u x) (v xs) here
    value_found (x ∷ xs) (suc i) d h before here =
        let p = or_parts (f x) (g (take i xs)) (sym (more x (take i xs)) ∙ before) in
        step x xs ∙ (cond-false (f x) (u x) (v xs) p.0 ∙ value_found xs i d (omega arith) p.1 here)

    pub value_never : (xs : List A) → g xs ≡ false → v xs ≡ v []
    value_never [] e = refl
    value_never (x ∷ xs) e =
        let p = or_parts (f x) (g xs) (sym (more x xs) ∙ e) in
        step x xs ∙ (cond-false (f x) (u x) (v xs) p.0 ∙ value_never xs p.1)
