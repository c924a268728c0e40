-- The short forms of choice and majority give what the standard's forms give: bit by bit, from eight cases.
use Rattle.std.proofs.Common.{◌≡◌, ℕ, zero, suc, ◌-◌, ◌/◌, ◌%◌, ◌^◌, ◌<◌, refl, pow-suc, arith}
use lib.Bits.{bit_and, bit_xor, and_shr, xor_shr, and_mod, xor_mod}
use Rattle.digest.specs.Sha256.{ch, maj}

and_half : (a b : ℕ) → bit_and a b / 2 ≡ bit_and (a / 2) (b / 2)
and_half a b = and_shr a b 1

xor_half : (a b : ℕ) → bit_xor a b / 2 ≡ bit_xor (a / 2) (b / 2)
xor_half a b = xor_shr a b 1

and_low : (a b : ℕ) → bit_and a b % 2 ≡ bit_and (a % 2) (b % 2)
and_low a b = and_mod a b 1

xor_low : (a b : ℕ) → bit_xor a b % 2 ≡ bit_xor (a % 2) (b % 2)
xor_low a b = xor_mod a b 1

-- two numbers with one half and one last bit are one number
by_halves : (a b : ℕ) → a / 2 ≡ b / 2 → a % 2 ≡ b % 2 → a ≡ b
by_halves a b h l = omega arith

-- what holds of both bits holds of a number's last bit
at-bit : (P : ℕ → Type 0) → P 0 → P 1 → (n : ℕ) → n < 2 → P n
at-bit P at-0 at_1 zero h = at-0
at-bit P at-0 at_1 (suc zero) h = at_1
at-bit P at-0 at_1 (suc (suc n)) h = absurd (omega arith)

at_bits : (P : ℕ → ℕ → ℕ → Type 0) → P 0 0 0 → P 0 0 1 → P 0 1 0 → P 0 1 1 → P 1 0 0 → P 1 0 1 → P 1 1 0 → P 1 1 1
    → (x y z : ℕ) → P (x % 2) (y % 2) (z % 2)
at_bits P a b c d e f g h x y z =
    at-bit (λ i. P i (y % 2) (z % 2))
    (at-bit (λ j. P 0 j (z % 2)) (at-bit (P 0 0) a b (z % 2) (omega arith)) (at-bit (P 0 1) c d (z % 2) (omega arith)) (y % 2) (omega arith))
    (at-bit (λ j. P 1 j (z % 2)) (at-bit (P 1 0) e f (z % 2) (omega arith)) (at-bit (P 1 1) g h (z % 2) (omega arith)) (y % 2) (omega arith))
    (x % 2) (omega arith)

maj_wide : ℕ → ℕ → ℕ → ℕ
maj_wide x y z = bit_xor (bit_xor (bit_and x y) (bit_and x z)) (bit_and y z)

maj_short : ℕ → ℕ → ℕ → ℕ
maj_short x y z = bit_xor y (bit_and (bit_xor x y) (bit_xor y z))

maj_same : (k x y z : ℕ) → x < 2 ^ k → y < 2 ^ k → z < 2 ^ k → maj_wide x y z ≡ maj_short x y z
unfolding maj_wide maj_short
maj_same zero x y z hx hy hz =
    let ex : x ≡ 0 = omega arith in
    let ey : y ≡ 0 = omega arith in
    rw (ex, ey) refl
maj_same (suc k) x y z hx hy hz =
    let p = pow-suc 2 k in
    by_halves _ _
    (simp (and_half, xor_half) (maj_same k (x / 2) (y / 2) (z / 2) (omega arith) (omega arith) (omega arith)))
    (simp (and_low, xor_low) (at_bits (λ i j l. maj_wide i j l ≡ maj_short i j l) refl refl refl refl refl refl refl refl x y z))

pub majority_short : (x y z : ℕ) → x < 2 ^ 32 → y < 2 ^ 32 → z < 2 ^ 32 → maj x y z ≡ bit_xor y (bit_and (bit_xor x y) (bit_xor y z))
unfolding maj maj_wide maj_short
majority_short x y z = maj_same 32 x y z

ch_wide : ℕ → ℕ → ℕ → ℕ → ℕ
ch_wide n x y z = bit_xor (bit_and x y) (bit_and n z)

ch_short : ℕ → ℕ → ℕ → ℕ
ch_short x y z = bit_xor z (bit_and x (bit_xor y z))

ch_same : (k x y z : ℕ) → x < 2 ^ k → z < 2 ^ k → ch_wide (2 ^ k - 1 - x) x y z ≡ ch_short x y z
unfolding ch_wide ch_short
ch_same zero x y z hx hz =
    let ex : x ≡ 0 = omega arith in
    let ez : z ≡ 0 = omega arith in
    rw (ex, ez) refl
ch_same (suc k) x y z hx hz =
    let p = pow-suc 2 k in
    let half : (2 ^ suc k - 1 - x) / 2 ≡ 2 ^ k - 1 - x / 2 = omega arith in
    let low : (2 ^ suc k - 1 - x) % 2 ≡ 1 - x % 2 = omega arith in
    by_halves _ _
    (simp (and_half, xor_half, half) (ch_same k (x / 2) (y / 2) (z / 2) (omega arith) (omega arith)))
    (simp (and_low, xor_low, low) (at_bits (λ i j l. ch_wide (1 - i) i j l ≡ ch_short i j l) refl refl refl refl refl refl refl refl x y z))

pub choice_short : (x y z : ℕ) → x < 2 ^ 32 → z < 2 ^ 32 → ch x y z ≡ bit_xor z (bit_and x (bit_xor y z))
unfolding ch ch_wide ch_short
choice_short x y z = ch_same 32 x y z
