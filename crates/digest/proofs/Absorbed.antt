-- The hash value after blocks of a message: a block more, and blocks in two parts.
use Rattle.std.proofs.Common.{◌≡◌, ℕ, zero, suc, ◌+◌, ◌*◌, ◌<◌, ◌≤◌, List, [], ◌++◌, length, get_or, take, drop, sym, refl, ◌∙◌, add-zero, add-suc, add-one, mul-zero, mul-suc, arith, length-drop}
use Rattle.std.proofs.lemmas.List.{drop-append-le, drop-drop, take-append-le}
use Rattle.std.specs.Simd.{first_chunks}
use Rattle.digest.specs.Sha256.{absorbed, compressed}

pub absorbed-none : (h m : List ℕ) → absorbed h m 0 ≡ h
unfolding absorbed
absorbed-none h m = refl

pub absorbed-more : (h m : List ℕ) (n : ℕ) → absorbed h m (suc n) ≡ compressed (absorbed h m n) (take 64 (drop (64 * n) m))
unfolding absorbed
absorbed-more h m n = refl

-- a block, as the code cuts it
pub chunk-at : (n k : ℕ) (xs : List ℕ) (i : ℕ) → i < k → get_or (first_chunks n k xs) i [] ≡ take n (drop (n * i) xs)
chunk-at n zero xs i lt = absurd (omega arith)
chunk-at n (suc k) xs zero lt = rw mul-zero refl
chunk-at n (suc k) xs (suc i) lt =
    let later = chunk-at n k (drop n xs) i (omega arith) in
    let twice = drop-drop (n * i) n xs in
    let place : n + n * i ≡ n * suc i = omega (arith, mul-suc n i) in
    cc

-- a loop's step
pub absorb_more : (h m s b r : List ℕ) (n : ℕ) → s ≡ absorbed h m n → b ≡ take 64 (drop (64 * n) m) → r ≡ compressed s b → r ≡ absorbed h m (n + 1)
absorb_more h m s b r n was cut here =
    let more = absorbed-more h m n in
    let one = add-one n in
    cc

-- what stands behind the blocks does not matter
pub absorbed-front : (h a b : List ℕ) (n : ℕ) → 64 * n ≤ length a → absorbed h (a ++ b) n ≡ absorbed h a n
absorbed-front h a b zero le = absorbed-none h (a ++ b) ∙ sym (absorbed-none h a)
absorbed-front h a b (suc n) le =
    let same = absorbed-front h a b n (omega arith) in
    let left = drop-append-le (64 * n) a b (omega arith) in
    let front = take-append-le 64 (drop (64 * n) a) b (omega (arith, length-drop (64 * n) a)) in
    let here = absorbed-more h (a ++ b) n in
    let there = absorbed-more h a n in
    cc

-- n blocks, and then k more of what is left
pub absorbed-add : (h m : List ℕ) (n k : ℕ) → absorbed h m (n + k) ≡ absorbed (absorbed h m n) (drop (64 * n) m) k
absorbed-add h m n zero = rw add-zero (sym (absorbed-none (absorbed h m n) (drop (64 * n) m)))
absorbed-add h m n (suc k) =
    let same = absorbed-add h m n k in
    let here = absorbed-more h m (n + k) in
    let there = absorbed-more (absorbed h m n) (drop (64 * n) m) k in
    let twice = drop-drop (64 * k) (64 * n) m in
    let place : 64 * (n + k) ≡ 64 * n + 64 * k = omega arith in
    let step = add-suc n k in
    cc
