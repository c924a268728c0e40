-- What is left out of the product is a multiple of 256.
use Rattle.std.proofs.Common.{◌≡◌, ℕ, ◌+◌, ◌*◌, ◌/◌, ◌%◌, ap, ◌∙◌}
use Rattle.std.proofs.Math.Nat.{add-mod-mod, div-add-mod, add-mul-mod_self_left, mul_assoc, mul_comm, mul-add, add_comm}
use Rattle.octets.proofs.counting.counted.Goals as goal

low : (s i : ℕ) → s * (i % 256) % 256 ≡ s * i % 256
low s i =
    let q = i / 256 in
    let r = i % 256 in
    let whole = div-add-mod i 256 in
    let apart = mul-add s (256 * q) r in
    let left = mul_assoc s 256 q in
    let turn = mul_comm s 256 in
    let right = mul_assoc 256 s q in
    let order = add_comm (s * (256 * q)) (s * r) in
    let cut = add-mul-mod_self_left (s * r) 256 (s * q) in
    cc

pub returns : goal.returns
returns c =
    let first = c.args.first in
    let step = c.args.step in
    let i = c.args.i in
    ap (λ k. (first + k) % 256) (low step i) ∙ add-mod-mod first (step * i) 256
