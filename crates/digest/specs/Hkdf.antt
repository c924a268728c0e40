-- HKDF with SHA-256, as RFC 5869 defines it, on lists of bytes.
use Rattle.std.specs.Prelude.{ℕ, zero, suc, ◌+◌, ◌*◌, ◌/◌, List, [], ◌∷◌, ◌++◌, take}
use Rattle.digest.specs.Hmac.{hmac_sha_256}

-- 2.2: the pseudorandom key. No salt is the empty list, which HMAC fills up with zeros as it does the 32 zeros of the standard
unfoldable pub extracted : (salt input : List ℕ) → List ℕ
extracted salt input = hmac_sha_256 salt input

-- 2.3: T(0) is empty, and T(i) is HMAC (PRK, T(i - 1) | info | i)
unfoldable pub hkdf_t : (key info : List ℕ) → ℕ → List ℕ
hkdf_t key info zero = []
hkdf_t key info (suc i) = hmac_sha_256 key (hkdf_t key info i ++ info ++ suc i ∷ [])

-- 2.3: T(1) | T(2) | .. | T(n)
unfoldable pub joined : (key info : List ℕ) → ℕ → List ℕ
joined key info zero = []
joined key info (suc n) = joined key info n ++ hkdf_t key info (suc n)

-- 2.3: the first len bytes of T(1) | .. | T(N), where N is len / 32 rounded up
unfoldable pub expanded : (key info : List ℕ) (len : ℕ) → List ℕ
expanded key info len = take len (joined key info ((len + 31) / 32))

-- 2.3: len is at most 255 blocks of 32 bytes
abbrev pub most : ℕ
most = 255 * 32

-- 2: extract, then expand
unfoldable pub hkdf_sha_256 : (salt input info : List ℕ) → (len : ℕ) → List ℕ
hkdf_sha_256 salt input info len = expanded (extracted salt input) info len
