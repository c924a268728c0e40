-- Two lists taken together place by place, and a loop that does so in place.
use Rattle.std.proofs.Common.{◌≡◌, ℕ, zero, suc, ◌+◌, ◌<◌, ◌≤◌, List, [], ◌∷◌, ◌++◌, length, get_or, take, drop, set, refl, ap, ◌∙◌, add-one, arith}
use lib.Bits.{bit_xor, xor_assoc, xor_self, xor_zero_r}
use lib.Lanes.{zip2}
use Rattle.std.proofs.lemmas.List.{take_all, drop_all, append-nil}

module _ (f : ℕ → ℕ → ℕ) where
  zip_read : (xs ys : List ℕ) (i : ℕ) → i < length ys → get_or (zip2 f (take i xs) ys ++ drop i xs) i 0 ≡ get_or xs i 0
  zip_read xs [] i h = absurd (omega arith)
  zip_read xs (y ∷ ys) zero h = refl
  zip_read [] (y ∷ ys) (suc i) h = refl
  zip_read (x ∷ xs) (y ∷ ys) (suc i) h = zip_read xs ys i (omega arith)

  zip_write : (xs ys : List ℕ) (i : ℕ) → i < length xs → i < length ys → set (zip2 f (take i xs) ys ++ drop i xs) i (f (get_or xs i 0) (get_or ys i 0)) ≡ zip2 f (take (suc i) xs) ys ++ drop (suc i) xs
  zip_write [] ys i h k = absurd (omega arith)
  zip_write (x ∷ xs) [] i h k = absurd (omega arith)
  zip_write (x ∷ xs) (y ∷ ys) zero h k = refl
  zip_write (x ∷ xs) (y ∷ ys) (suc i) h k = ap (λ zs. f x y ∷ zs) (zip_write xs ys i (omega arith) (omega arith))

  -- the loop's start, its step and its end
  pub zip_none : (xs ys : List ℕ) → xs ≡ zip2 f (take 0 xs) ys ++ drop 0 xs
  zip_none xs ys = refl

  pub zip_more : (xs ys ws : List ℕ) (i : ℕ) → i < length xs → i < length ys → ws ≡ zip2 f (take i xs) ys ++ drop i xs → set ws i (f (get_or ws i 0) (get_or ys i 0)) ≡ zip2 f (take (i + 1) xs) ys ++ drop (i + 1) xs
  zip_more xs ys ws i h k e =
      let read = zip_read xs ys i k in
      let write = zip_write xs ys i h k in
      let one = add-one i in
      cc

  pub zip_all : (xs ys : List ℕ) (n : ℕ) → length xs ≤ n → zip2 f (take n xs) ys ++ drop n xs ≡ zip2 f xs ys
  zip_all xs ys n h = rw (take_all, drop_all, append-nil)

  pub zip_append : (xs bs cs ds : List ℕ) → length xs ≡ length cs → zip2 f (xs ++ bs) (cs ++ ds) ≡ zip2 f xs cs ++ zip2 f bs ds
  zip_append [] bs [] ds h = refl
  zip_append [] bs (c ∷ cs) ds h = absurd (omega arith)
  zip_append (x ∷ xs) bs [] ds h = absurd (omega arith)
  zip_append (x ∷ xs) bs (c ∷ cs) ds h = ap (λ zs. f x c ∷ zs) (zip_append xs bs cs ds (omega arith))

  pub get_d_zip : (xs ys : List ℕ) (i : ℕ) → i < length xs → i < length ys → get_or (zip2 f xs ys) i 0 ≡ f (get_or xs i 0) (get_or ys i 0)
  get_d_zip [] ys i h k = absurd (omega arith)
  get_d_zip (x ∷ xs) [] i h k = absurd (omega arith)
  get_d_zip (x ∷ xs) (y ∷ ys) zero h k = refl
  get_d_zip (x ∷ xs) (y ∷ ys) (suc i) h k = get_d_zip xs ys i (omega arith) (omega arith)

  pub length_zip : (xs ys : List ℕ) → length xs ≤ length ys → length (zip2 f xs ys) ≡ length xs
  length_zip [] ys h = refl
  length_zip (x ∷ xs) [] h = absurd (omega arith)
  length_zip (x ∷ xs) (y ∷ ys) h = ap suc (length_zip xs ys (omega arith))

-- exclusive or with one list, twice, changes nothing
pub xor_twice : (x y : ℕ) → bit_xor (bit_xor x y) y ≡ x
xor_twice x y = xor_assoc x y y ∙ ap (bit_xor x) (xor_self y) ∙ xor_zero_r x

pub zip_xor_twice : (xs ys : List ℕ) → length xs ≤ length ys → zip2 bit_xor (zip2 bit_xor xs ys) ys ≡ xs
zip_xor_twice [] ys h = refl
zip_xor_twice (x ∷ xs) [] h = absurd (omega arith)
zip_xor_twice (x ∷ xs) (y ∷ ys) h =
    let here = xor_twice x y in
    let there = zip_xor_twice xs ys (omega arith) in
    cc
