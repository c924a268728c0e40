-- An array that `from_fn` made, by a closure that stays as it is.
use Rattle.std.proofs.Common.{◌≡◌, ℕ, zero, suc, ◌+◌, ◌<◌, ◌≤◌, List, map, get_or, sym, ap, ◌∙◌, subst, refl, inl, inr, arith}
use Rattle.std.specs.List.{range_with_len}
use Rattle.std.proofs.lemmas.Bool.{cases_lt}
use Rattle.std.proofs.lemmas.List.FromFn.{fill_by_all}
use Rattle.std.specs.Array.{IsFromFnResult, IsFromFnResultFrom}
use denote.Param.Members.{Mut, Called}

module _ {F : Type 0} (g : Mut F (ℕ × Unit {0}) ℕ) (f : F) (h : ℕ → ℕ) (each : (i y : ℕ) (q : F) → Called g f (i, tt) y q → (q ≡ f) × (y ≡ h i)) (ys : List ℕ) where
  from : (q : F) (i n : ℕ) → q ≡ f → IsFromFnResultFrom g q ys i n → (k : ℕ) → i ≤ k → k < i + n → get_or ys k 0 ≡ h k
  from q i zero e all k le lt = absurd (omega arith)
  from q i (suc n) e (after, y, at, call, rest) k le lt =
      let now = each i y after (subst (λ (p : F). Called g p (i, tt) y after) e call) in
      elim (cases_lt i k) [
        | inl l ↦ from after (i + 1) n now.0 rest k (omega arith) (omega arith)
        | inr l ↦ let is : k ≡ i = omega arith in ap (λ (j : ℕ). get_or ys j 0) is ∙ at.1 0 ∙ now.1 ∙ ap h (sym is)
      ]

  pub made : (n : ℕ) → IsFromFnResult g f ys n → ys ≡ map h (range_with_len 0 n)
  made n all = fill_by_all h ys n 0 all.long (λ k lt. from f 0 n refl all.each k (omega arith) (omega arith))
