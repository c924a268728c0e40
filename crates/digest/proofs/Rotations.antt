-- Rotations of 32-bit words: of an exclusive or, and one after another; so the short forms of the four sums of rotations.
use Rattle.std.proofs.Common.{◌≡◌, ℕ, ◌+◌, ◌-◌, ◌*◌, ◌/◌, ◌%◌, ◌^◌, ◌<◌, sym, refl, ap, ◌∙◌, add-zero, add_assoc, mul_assoc, add-mul, add_comm, arith}
use native.Mathlib.Nat.{mul-add-div_right, mul-add-mod_self_right, mul-mod_left}
use lib.Bits.{bit_or, bit_xor, or_lt, or_shifted_r, xor_assoc, xor_block, xor_lt, xor_mod, xor_shr}
use Rattle.std.proofs.lemmas.Nat.{mod-pow-add, pow-add, pow_pos, shl-shr, shr_below, shr_le, shr-shr}
use Rattle.digest.specs.Sha256.{rotr}

-- the low n bits above the others
turned : (n k x : ℕ) → ℕ
turned n k x = (x % 2 ^ n) * 2 ^ k + x / 2 ^ n

module _ (n k : ℕ) (all : n + k ≡ 32) where
  above_lt : (x : ℕ) → x < 2 ^ 32 → x / 2 ^ n < 2 ^ k
  above_lt x lt =
      let e : 32 ≡ k + n = omega arith in
      let w : 2 ^ 32 ≡ 2 ^ (k + n) = ap (λ (j : ℕ). 2 ^ j) e in
      shr_below x k n (omega arith)

  shifted : (x : ℕ) → x * 2 ^ (32 - n) % 2 ^ 32 ≡ (x % 2 ^ n) * 2 ^ k
  shifted x =
      let e : 32 - n ≡ k = omega arith in
      let split = mod-pow-add (x * 2 ^ k) n k in
      let back = shl-shr x k in
      let low = mul-mod_left x (2 ^ k) in
      let none = add-zero ((x % 2 ^ n) * 2 ^ k) in
      cc

  rotr_turned : (x : ℕ) → x < 2 ^ 32 → rotr n x ≡ turned n k x
  unfolding turned
  rotr_turned x lt = ap (bit_or (x / 2 ^ n)) (shifted x) ∙ or_shifted_r (x % 2 ^ n) k (x / 2 ^ n) (above_lt x lt)

  pub rotr_xor : (x y : ℕ) → x < 2 ^ 32 → y < 2 ^ 32 → rotr n (bit_xor x y) ≡ bit_xor (rotr n x) (rotr n y)
  unfolding turned
  rotr_xor x y hx hy =
      let one = rotr_turned (bit_xor x y) (xor_lt 32 x y hx hy) in
      let a = rotr_turned x hx in
      let b = rotr_turned y hy in
      let low = xor_mod x y n in
      let high = xor_shr x y n in
      let join = xor_block k (x % 2 ^ n) (y % 2 ^ n) (x / 2 ^ n) (y / 2 ^ n) (above_lt x hx) (above_lt y hy) in
      cc

pub rotr_lt : (n x : ℕ) → x < 2 ^ 32 → rotr n x < 2 ^ 32
rotr_lt n x lt = or_lt 32 (x / 2 ^ n) (x * 2 ^ (32 - n) % 2 ^ 32) (omega (arith, shr_le x n)) (omega arith)

pub rotr_rotr : (m n k x : ℕ) → m + n + k ≡ 32 → x < 2 ^ 32 → rotr m (rotr n x) ≡ rotr (m + n) x
unfolding turned
rotr_rotr m n k x all lt =
    let a : ℕ = x % 2 ^ n in
    let b : ℕ = x / 2 ^ n in
    let inner : rotr n x ≡ a * 2 ^ (k + m) + b = rotr_turned n (k + m) (omega arith) x lt in
    let y : ℕ = (a * 2 ^ k) * 2 ^ m + b in
    let apart : a * 2 ^ (k + m) + b ≡ y = ap (λ (j : ℕ). a * j + b) (pow-add 2 k m) ∙ ap (λ (j : ℕ). j + b) (sym (mul_assoc a (2 ^ k) (2 ^ m))) in
    let is : rotr n x ≡ y = inner ∙ apart in
    let small = rotr_lt n x lt in
    let outer : rotr m (rotr n x) ≡ (rotr n x % 2 ^ m) * 2 ^ (n + k) + rotr n x / 2 ^ m = rotr_turned m (n + k) (omega arith) (rotr n x) small in
    let low = mul-add-mod_self_right (a * 2 ^ k) (2 ^ m) b in
    let high = mul-add-div_right (pow_pos m) (a * 2 ^ k) b in
    let twice = shr-shr x n m in
    let order = add_comm n m in
    let whole : rotr (m + n) x ≡ (x % 2 ^ (m + n)) * 2 ^ k + x / 2 ^ (m + n) = rotr_turned (m + n) k all x lt in
    let parts = mod-pow-add x m n in
    let share = add-mul ((b % 2 ^ m) * 2 ^ n) a (2 ^ k) in
    let group = mul_assoc (b % 2 ^ m) (2 ^ n) (2 ^ k) in
    let power = pow-add 2 n k in
    let regroup = add_assoc ((b % 2 ^ m) * 2 ^ (n + k)) (a * 2 ^ k) (b / 2 ^ m) in
    cc

-- two rotations, the second from the first, and three
pub two-rotations : (m n k x a r : ℕ) → m + n + k ≡ 32 → x < 2 ^ 32 → a ≡ rotr n x → r ≡ rotr m (bit_xor x a) → r ≡ bit_xor (rotr m x) (rotr (m + n) x)
two-rotations m n k x a r all lt first second =
    let apart = rotr_xor m (n + k) (omega arith) x (rotr n x) lt (rotr_lt n x lt) in
    let joined = rotr_rotr m n k x all lt in
    cc

pub three_rotations : (l m n k x a b r : ℕ) → l + m + n + k ≡ 32 → x < 2 ^ 32 → a ≡ rotr n x → b ≡ rotr m (bit_xor x a) → r ≡ rotr l (bit_xor x b)
    → r ≡ bit_xor (bit_xor (rotr l x) (rotr (l + m) x)) (rotr (l + m + n) x)
three_rotations l m n k x a b r all lt first second third =
    let y : ℕ = bit_xor x (rotr n x) in
    let ly = xor_lt 32 x (rotr n x) lt (rotr_lt n x lt) in
    let apart = rotr_xor l (m + n + k) (omega arith) x (rotr m y) lt (rotr_lt m y ly) in
    let joined = rotr_rotr l m (n + k) y (omega arith) ly in
    let rest = two-rotations (l + m) n k x (rotr n x) (rotr (l + m) y) all lt refl refl in
    let group = xor_assoc (rotr l x) (rotr (l + m) x) (rotr (l + m + n) x) in
    cc
