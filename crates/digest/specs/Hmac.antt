-- HMAC with SHA-256, as RFC 2104 defines it, on lists of bytes.
use Rattle.std.specs.Prelude.{ℕ, ◌-◌, cond, List, ◌++◌, map, length, replicate, bit_xor, nat_lt}
use Rattle.digest.specs.Sha256.{sha_256}

-- 2: zeros fill a block of 64 bytes
unfoldable pub filled : List ℕ → List ℕ
filled k = k ++ replicate (64 - length k) 0

-- 2: a key longer than a block is hashed first
unfoldable pub block_key : List ℕ → List ℕ
block_key k = filled (cond (nat_lt 64 (length k)) (sha_256 k) k)

-- 2: each byte of the block exclusive-or the pad's
unfoldable pub xored : ℕ → List ℕ → List ℕ
xored pad k = map (λ b. bit_xor b pad) k

-- 2: H (K xor opad, H (K xor ipad, text))
unfoldable pub hmac_sha_256 : List ℕ → List ℕ → List ℕ
hmac_sha_256 k m = sha_256 (xored 0x5c (block_key k) ++ sha_256 (xored 0x36 (block_key k) ++ m))
