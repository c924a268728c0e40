-- Two messages that are padded to the same blocks are one message: the blocks end in the length, and their number tells it up to a block.
use Rattle.std.proofs.Common.{◌≡◌, ℕ, ◌+◌, ◌*◌, ◌/◌, ◌%◌, ◌^◌, ◌<◌, List, ◌∷◌, ◌++◌, length, get_or, drop, replicate, sym, refl, ap, ◌∙◌, arith, length-append}
use native.Mathlib.Decide.{dec_lt}
use lib.ListN.{length-replicate}
use Rattle.std.proofs.lemmas.Nat.{shr-shr, shr_split}
use Rattle.std.proofs.lemmas.List.{append_assoc, append_cancel_right, drop_at}
use Rattle.digest.specs.Sha256.{AlonePadded, length_bytes, padded, padding, zeros}
use Rattle.digest.proofs.Padded.{length-length_bytes}

-- equal above k + 8 bits and in the byte below them is equal above k bits
byte_more : (x y k : ℕ) → x / 2 ^ (k + 8) ≡ y / 2 ^ (k + 8) → x / 2 ^ k % 2 ^ 8 ≡ y / 2 ^ k % 2 ^ 8 → x / 2 ^ k ≡ y / 2 ^ k
byte_more x y k above byte =
    omega (arith, shr_split (x / 2 ^ k) 8, shr_split (y / 2 ^ k) 8, shr-shr x k 8, shr-shr y k 8)

same-length_bytes : (x y : ℕ) → x < 2 ^ 64 → y < 2 ^ 64 → length_bytes x ≡ length_bytes y → x ≡ y
unfolding length_bytes
same-length_bytes x y hx hy e =
    let none : x / 2 ^ 64 ≡ y / 2 ^ 64 = omega arith in
    let a = byte_more x y 56 none (ap (λ (l : List ℕ). get_or l 0 0) e) in
    let b = byte_more x y 48 a (ap (λ (l : List ℕ). get_or l 1 0) e) in
    let c = byte_more x y 40 b (ap (λ (l : List ℕ). get_or l 2 0) e) in
    let d = byte_more x y 32 c (ap (λ (l : List ℕ). get_or l 3 0) e) in
    let f = byte_more x y 24 d (ap (λ (l : List ℕ). get_or l 4 0) e) in
    let g = byte_more x y 16 f (ap (λ (l : List ℕ). get_or l 5 0) e) in
    let h = byte_more x y 8 g (ap (λ (l : List ℕ). get_or l 6 0) e) in
    let low : x % 2 ^ 8 ≡ y % 2 ^ 8 = ap (λ (l : List ℕ). get_or l 7 0) e in
    omega (arith, h, low)

-- the message and all of its padding but the length
lead : List ℕ → List ℕ
lead m = m ++ (0x80 ∷ replicate (zeros (length m)) 0)

padded-lead : (m : List ℕ) → padded m ≡ lead m ++ length_bytes (length m * 8 % 2 ^ 64)
unfolding padded padding lead
padded-lead m = sym (append_assoc m (0x80 ∷ replicate (zeros (length m)) 0) (length_bytes (length m * 8 % 2 ^ 64)))

length-lead : (m : List ℕ) → length (lead m) ≡ length m + zeros (length m) + 1
unfolding lead
length-lead m =
    length-append m (0x80 ∷ replicate (zeros (length m)) 0) ∙ omega (arith, length-replicate {A = ℕ} (zeros (length m)) 0)

few-zeros : (l : ℕ) → zeros l < 64
unfolding zeros
few-zeros l = omega arith

-- lengths that are near one another and whose bits agree modulo 2 ^ 64 are one
near : (a b : ℕ) → a < b + 64 → b < a + 64 → a * 8 % 2 ^ 64 ≡ b * 8 % 2 ^ 64 → a ≡ b
near a b lo hi e =
    let i : ℕ = a * 8 / 2 ^ 64 in
    let j : ℕ = b * 8 / 2 ^ 64 in
    elim (dec_lt i j) [ yes h ↦ omega arith | no h ↦ elim (dec_lt j i) [ yes k ↦ omega arith | no k ↦ omega arith ] ]

same_length : (m n : List ℕ) → padded n ≡ padded m → length n ≡ length m
same_length m n e =
    let x : ℕ = length n * 8 % 2 ^ 64 in
    let y : ℕ = length m * 8 % 2 ^ 64 in
    let split : lead n ++ length_bytes x ≡ lead m ++ length_bytes y = sym (padded-lead n) ∙ e ∙ padded-lead m in
    let sizes : length (lead n) ≡ length (lead m) =
    omega (arith, length-append (lead n) (length_bytes x), length-append (lead m) (length_bytes y), ap length split, length-length_bytes x, length-length_bytes y) in
    let last : length_bytes x ≡ length_bytes y =
    sym (drop_at (lead n) (length_bytes x) (length (lead m)) sizes) ∙ ap (drop (length (lead m))) split ∙ drop_at (lead m) (length_bytes y) (length (lead m)) refl in
    let bits : x ≡ y = same-length_bytes x y (omega arith) (omega arith) last in
    let n-few = few-zeros (length n) in
    let m-few = few-zeros (length m) in
    let n-lead = length-lead n in
    let m-lead = length-lead m in
    near (length n) (length m) (omega arith) (omega arith) bits

pub alone_padded : (m : List ℕ) → AlonePadded m
unfolding padded
alone_padded m n e =
    let len = same_length m n e in
    let p : List ℕ = padding (length m) (length m * 8 % 2 ^ 64) in
    let same : padding (length n) (length n * 8 % 2 ^ 64) ≡ p = ap (λ (l : ℕ). padding l (l * 8 % 2 ^ 64)) len in
    append_cancel_right n m p (ap (λ (q : List ℕ). n ++ q) (sym same) ∙ e)
