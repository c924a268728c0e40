-- A list of known length, written out by its elements.
use Rattle.std.proofs.Common.{◌≡◌, ℕ, zero, suc, ◌+◌, ◌<◌, List, [], ◌∷◌, length, get_or, drop, sym, ap, ◌∙◌, add-suc, zero-add, arith, drop-cons}
use Rattle.std.proofs.lemmas.List.{drop_all}

-- the n elements from place i on
abbrev pub elements : List ℕ → ℕ → ℕ → List ℕ
elements xs i zero = []
elements xs i (suc n) = get_or xs i 0 ∷ elements xs (suc i) n

pub drop-elements : (xs : List ℕ) (n i : ℕ) → length xs ≡ i + n → drop i xs ≡ elements xs i n
drop-elements xs zero i len = drop_all i xs (omega arith)
drop-elements xs (suc n) i len =
    let lt : i < length xs = omega (arith, add-suc i n) in
    drop-cons xs i 0 lt ∙ ap (λ (ys : List ℕ). get_or xs i 0 ∷ ys) (drop-elements xs n (suc i) (omega (arith, add-suc i n)))

pub by_elements : (xs : List ℕ) (n : ℕ) → length xs ≡ n → xs ≡ elements xs 0 n
by_elements xs n len = drop-elements xs n 0 (len ∙ sym (zero-add n))
