-- The key's block, its pads, and the two hashes of an HMAC.
use Rattle.std.proofs.Common.{◌≡◌, ℕ, ◌+◌, ◌-◌, ◌<◌, ◌≤◌, List, [], ◌++◌, length, get_or, take, drop, set, replicate, sym, ap, ◌∙◌, subst, zero-add, arith, length-append, le-ltb, lt-ltb}
use lib.Bits.{bit_xor}
use lib.ListN.{length-map, length-replicate}
use Rattle.std.proofs.lemmas.List.Edits.{map_over_more}
use Rattle.std.proofs.lemmas.List.{append_assoc, append-nil, drop_all, drop-replicate, get_or_default, take_all}
use Rattle.digest.specs.Hmac.{block_key, filled, hmac_sha_256, xored}
use Rattle.digest.specs.Keyed.{Macs}
use Rattle.digest.specs.Sha256.{compressed, initial, sha_256}
use Rattle.digest.specs.Streaming.{Holds, fresh}
use Rattle.digest.proofs.Absorbed.{absorbed-more, absorbed-none}
use Rattle.digest.specs.declared.mac.Mac.{Mac}
use Rattle.digest.specs.declared.streaming.Hasher.{Hasher}

pub key-long : (k d : List ℕ) → 64 < length k → d ≡ sha_256 k → filled d ≡ block_key k
unfolding block_key
key-long k d long hashed =
    let test = lt-ltb 64 (length k) long in
    cc

pub key-short : (k : List ℕ) → length k ≤ 64 → filled k ≡ block_key k
unfolding block_key
key-short k short =
    let test = le-ltb 64 (length k) short in
    cc

-- both hashes begun with the pads of the key's block
pub macs_none : (x : Mac) (k b : List ℕ) → b ≡ block_key k → Holds x.inner (xored 0x36 b) → Holds x.outer (xored 0x5c b) → Macs x k []
macs_none x k b same inner outer = record {
  inner = subst (Holds x.inner) (ap (xored 0x36) same ∙ sym (append-nil (xored 0x36 (block_key k)))) inner;
  outer = subst (Holds x.outer) (ap (xored 0x5c) same) outer;
}

pub xor_more : (xs ys : List ℕ) (pad i : ℕ) → i < length xs → i < length ys → ys ≡ xored pad (take i xs) ++ drop i xs
    → set ys i (bit_xor (get_or ys i 0) pad) ≡ xored pad (take (i + 1) xs) ++ drop (i + 1) xs
unfolding xored
xor_more xs ys pad i lt here was = map_over_more (λ b. bit_xor b pad) xs ys i (get_or ys i 0) lt was (get_or_default ys i 0 (get_or ys i 0) here)

pub xor_all : (xs ys : List ℕ) (pad i : ℕ) → length xs ≤ i → ys ≡ xored pad (take i xs) ++ drop i xs → ys ≡ xored pad xs
xor_all xs ys pad i past was =
    let all = take_all i xs past in
    let none = drop_all i xs past in
    let end = append-nil (xored pad xs) in
    cc

length-filled : (s : List ℕ) → length s ≤ 64 → length (filled s) ≡ 64
unfolding filled
length-filled s le = length-append s (replicate (64 - length s) 0) ∙ omega (arith, length-replicate {A = ℕ} (64 - length s) 0)

-- a hash begun with one block, the bytes filled up and taken exclusive-or the pad
pub begun : (x y : Hasher) (s p₁ p₂ : List ℕ) (pad : ℕ) → x ≡ fresh → length s ≤ 64
    → p₁ ≡ s ++ drop (0 + length s) x.pending → p₂ ≡ xored pad p₁ → y.value ≡ compressed x.value p₂ → y.count ≡ 64
    → Holds y (xored pad (filled s))
unfolding filled fresh xored
begun x y s p₁ p₂ pad new short put xor turned count =
    let b : List ℕ = xored pad (filled s) in
    let blank : x.pending ≡ replicate 64 0 = ap (λ (h : Hasher). h.pending) new in
    let first : x.value ≡ initial = ap (λ (h : Hasher). h.value) new in
    let behind = drop-replicate {X = ℕ} (length s) 64 0 in
    let at = zero-add (length s) in
    let full : p₁ ≡ filled s = cc in
    let same : p₂ ≡ b = xor ∙ ap (xored pad) full in
    let len : length b ≡ 64 = length-map (filled s) (λ b. bit_xor b pad) ∙ length-filled s short in
    let more = absorbed-more initial b 0 in
    let none = absorbed-none initial b in
    let all = take_all 64 b (omega arith) in
    let past = drop_all 64 b (omega arith) in
    let left : length b - 64 ≡ 0 = omega arith in
    record {
      blocks = 1;
      whole = omega arith;
      rest = omega arith;
      value = cc;
      pending = ap (λ (n : ℕ). take n y.pending) left ∙ sym past;
      count = omega arith;
    }

-- one part more behind a pad and a message
pub holds-behind : (x : Hasher) (a m p : List ℕ) → Holds x (a ++ m ++ p) → Holds x (a ++ (m ++ p))
holds-behind x a m p h = subst (Holds x) (append_assoc a m p) h

pub hmac_from : (k m d r : List ℕ) → d ≡ sha_256 (xored 0x36 (block_key k) ++ m) → r ≡ sha_256 (xored 0x5c (block_key k) ++ d) → r ≡ hmac_sha_256 k m
unfolding hmac_sha_256
hmac_from k m d r inner outer = outer ∙ ap (λ (xs : List ℕ). sha_256 (xored 0x5c (block_key k) ++ xs)) inner
