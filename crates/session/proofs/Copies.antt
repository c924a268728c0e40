-- An array made by a closure that answers, for each index, what stands there in another.
use Rattle.std.proofs.Common.{◌≡◌, ℕ, zero, suc, ◌+◌, ◌<◌, ◌≤◌, List, length, get_or, sym, refl, ◌∙◌, subst, inl, inr, arith}
use Rattle.std.specs.Array.{IsFromFnResultFrom, IsFromFnResult}
use Rattle.std.specs.Fn.{Mut, Called}
use Rattle.std.proofs.lemmas.Bool.{cases_lt}
use Rattle.std.proofs.lemmas.List.{same_lists}

module _ {F B : Type 0} (g : Mut F (ℕ × Unit {0}) B) (xs ys : List B) (f : F)
    (once : (i : ℕ) (y : B) (q : F) (d : B) → i < length xs → Called g f (i, tt) y q → (y ≡ get_or xs i d) × (q ≡ f)) where
  each : (n i : ℕ) (p : F) → p ≡ f → i + n ≤ length xs → IsFromFnResultFrom g p ys i n → (k : ℕ) (d : B) → i ≤ k → k < i + n → get_or ys k d ≡ get_or xs k d
  each zero i p e room h k d a b = absurd (omega arith)
  each (suc n) i p e room h k d a b =
      let call = once i h.1 h.0 d (omega arith) (subst (λ (t : F). Called g t (i, tt) h.1 h.0) e h.3) in
      elim (cases_lt i k) [
        | inl later ↦ each n (i + 1) h.0 call.1 (omega arith) h.4 k d (omega arith) (omega arith)
        | inr here ↦ let same : i ≡ k = omega arith in subst (λ (j : ℕ). get_or ys j d ≡ get_or xs j d) same (h.2.1 d ∙ call.0)
      ]

  pub copied : (n : ℕ) → length xs ≡ n → IsFromFnResult g f ys n → ys ≡ xs
  copied n size h = same_lists ys xs (h.long ∙ sym size) (λ k d l. each n 0 f refl (omega arith) h.each k d (omega arith) (omega (arith, h.long)))
