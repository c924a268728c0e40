-- Numbers in four bytes and in two: what is read at a place.
use Rattle.std.proofs.Common.{◌≡◌, ℕ, ◌+◌, ◌*◌, ◌/◌, ◌%◌, ◌≤◌, List, drop, arith}
use Rattle.std.proofs.lemmas.List.{get_or-drop}
use Rattle.exchange.specs.Wire.{four_at}

-- read behind the first so many
pub four-drop : (n at : ℕ) (b : List ℕ) → four_at (drop n b) at ≡ four_at b (n + at)
four-drop n at b =
    let p = get_or-drop n b at 0 in
    let q = get_or-drop n b (at + 1) 0 in
    let r = get_or-drop n b (at + 2) 0 in
    let s = get_or-drop n b (at + 3) 0 in
    let e : n + (at + 1) ≡ n + at + 1 = omega arith in
    let f : n + (at + 2) ≡ n + at + 2 = omega arith in
    let g : n + (at + 3) ≡ n + at + 3 = omega arith in
    cc

-- and a number that fits is what its two bytes spell
pub two-read : (n : ℕ) → n ≤ 512 → (n / 256 % 256) * 256 + n % 256 ≡ n
two-read n h = omega arith
