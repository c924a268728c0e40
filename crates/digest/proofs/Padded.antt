-- The padding of the last bytes: in one block, or in two.
use Rattle.std.proofs.Common.{◌≡◌, ℕ, ◌+◌, ◌-◌, ◌/◌, ◌%◌, ◌<◌, ◌≤◌, List, ◌∷◌, ◌++◌, length, take, replicate, refl, ◌∙◌, arith, length-append}
use lib.ListN.{length-replicate, replicate-append-replicate}
use Rattle.std.proofs.lemmas.List.{append_assoc, drop_at, length-take-le, take_all, take_at, take-replicate}
use Rattle.digest.specs.Sha256.{absorbed, compressed, length_bytes, padding, zeros}
use Rattle.digest.proofs.Absorbed.{absorbed-none, absorbed-more}

pub length-length_bytes : (n : ℕ) → length (length_bytes n) ≡ 8
unfolding length_bytes
length-length_bytes n = refl

one_block : (v q : List ℕ) → length q ≡ 64 → absorbed v q (length q / 64) ≡ compressed v q
one_block v q len =
    let one : length q / 64 ≡ 1 = omega arith in
    let more = absorbed-more v q 0 in
    let none = absorbed-none v q in
    let all = take_all 64 q (omega arith) in
    cc

two_blocks : (v a b : List ℕ) → length a ≡ 64 → length b ≡ 64 → absorbed v (a ++ b) (length (a ++ b) / 64) ≡ compressed (compressed v a) b
two_blocks v a b la lb =
    let len = length-append a b in
    let two : length (a ++ b) / 64 ≡ 2 = omega arith in
    let second = absorbed-more v (a ++ b) 1 in
    let first = absorbed-more v (a ++ b) 0 in
    let none = absorbed-none v (a ++ b) in
    let front = take_at a b 64 la in
    let back = drop_at a b 64 la in
    let all = take_all 64 b (omega arith) in
    cc

module _ (v p : List ℕ) (u n : ℕ) (len : length p ≡ 64) where
  pub close_one : (p₁ p₂ r : List ℕ) → u < 56
      → p₁ ≡ take u p ++ (0x80 ∷ replicate (63 - u) 0)
      → p₂ ≡ take 56 p₁ ++ length_bytes n
      → r ≡ compressed v p₂
      → r ≡ absorbed v (take u p ++ padding u n) (length (take u p ++ padding u n) / 64)
  unfolding padding zeros
  close_one p₁ p₂ r room marked written turned =
      let k : ℕ = 55 - u in
      let q : List ℕ = take u p ++ (0x80 ∷ replicate k 0) in
      let lu : length (take u p) ≡ u = length-take-le u p (omega arith) in
      let lr : length (replicate {A = ℕ} k 0) ≡ k = length-replicate k 0 in
      let lq : length q ≡ 56 = length-append (take u p) (0x80 ∷ replicate k 0) ∙ omega arith in
      let size : 63 - u ≡ k + 8 = omega arith in
      let split = replicate-append-replicate {A = ℕ} k 8 0 in
      let join = append_assoc (take u p) (0x80 ∷ replicate k 0) (replicate 8 0) in
      let front = take_at q (replicate 8 0) 56 lq in
      let few : (119 - u % 64) % 64 ≡ k = omega arith in
      let pad = append_assoc (take u p) (0x80 ∷ replicate k 0) (length_bytes n) in
      let all : p₂ ≡ take u p ++ padding u n = cc in
      let l₂ : length (q ++ length_bytes n) ≡ 64 = length-append q (length_bytes n) ∙ omega (arith, length-length_bytes n) in
      let long : length (take u p ++ padding u n) ≡ 64 = cc in
      let one = one_block v (take u p ++ padding u n) long in
      cc

  pub close_two : (p₁ p₂ p₃ f r : List ℕ) → 56 ≤ u → u < 64
      → p₁ ≡ take u p ++ (0x80 ∷ replicate (63 - u) 0)
      → f ≡ compressed v p₁
      → p₂ ≡ replicate (length p₁) 0
      → p₃ ≡ take 56 p₂ ++ length_bytes n
      → r ≡ compressed f p₃
      → r ≡ absorbed v (take u p ++ padding u n) (length (take u p ++ padding u n) / 64)
  unfolding padding zeros
  close_two p₁ p₂ p₃ f r full within marked first wiped written turned =
      let k : ℕ = 63 - u in
      let lu : length (take u p) ≡ u = length-take-le u p (omega arith) in
      let lr : length (replicate {A = ℕ} k 0) ≡ k = length-replicate k 0 in
      let q : List ℕ = take u p ++ (0x80 ∷ replicate k 0) in
      let same : p₁ ≡ q = cc in
      let lq : length q ≡ 64 = length-append (take u p) (0x80 ∷ replicate k 0) ∙ omega arith in
      let blank = take-replicate {X = ℕ} 56 64 0 (omega arith) in
      let b : List ℕ = replicate 56 0 ++ length_bytes n in
      let last : p₃ ≡ b = cc in
      let lb : length b ≡ 64 = length-append (replicate 56 0) (length_bytes n) ∙ omega (arith, length-length_bytes n) in
      let split = replicate-append-replicate {A = ℕ} k 56 0 in
      let few : (119 - u % 64) % 64 ≡ k + 56 = omega arith in
      let in_two = append_assoc (replicate k 0) (replicate 56 0) (length_bytes n) in
      let join = append_assoc (take u p) (0x80 ∷ replicate k 0) b in
      let all : take u p ++ padding u n ≡ q ++ b = cc in
      let two = two_blocks v q b lq lb in
      cc
