-- What a length that is written to the end of a block leaves.
use Rattle.std.proofs.Common.{◌≡◌, ℕ, ◌+◌, List, ◌++◌, length, take, drop, ap, arith}
use Rattle.std.proofs.lemmas.List.{append-nil, drop_all}
use Rattle.digest.specs.Sha256.{length_bytes}

pub length-written : (b r out : List ℕ) (x : ℕ) → length b ≡ 64 → r ≡ length_bytes x → out ≡ take 56 b ++ (r ++ drop (56 + length r) b)
    → out ≡ take 56 b ++ length_bytes x
unfolding length_bytes
length-written b r out x len here put =
    let eight : length r ≡ 8 = ap length here in
    let none = drop_all (56 + length r) b (omega arith) in
    let end = append-nil r in
    cc
