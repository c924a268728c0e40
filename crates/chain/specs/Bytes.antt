-- The bytes of each secret: what its recipe comes to with the digests.
-- Assumes nothing.
use Rattle.std.specs.Prelude.{ℕ, zero, suc, List, [], ◌∷◌, ◌++◌, take, drop}
use Rattle.digest.specs.Hkdf.{hkdf_sha_256}
use Rattle.digest.specs.Hmac.{hmac_sha_256}
use Rattle.seal.specs.declared.keys.MessageKey.{MessageKey}
use Rattle.chain.specs.Secret.{Secret, shared, own, joint, mix, root, chain, next, key}

-- what the recipes begin with: what the two had from the start, the secret half of each key, and what keys n and n + 1 give together
pub record Ground : Type 0 where
  pub shared : List ℕ
  pub own : ℕ → List ℕ
  pub joint : ℕ → List ℕ

-- a root with a joint secret: 64 bytes of HKDF (RFC 5869) with the root as the salt, the joint secret as the input, and no info
abbrev pub mix_bytes : (root joint : List ℕ) → List ℕ
mix_bytes r j = hkdf_sha_256 r j [] 64

-- the first 32 of them are the next root, the others the beginning of the link's chain
abbrev pub root_bytes : List ℕ → List ℕ
root_bytes x = take 32 x

abbrev pub chain_bytes : List ℕ → List ℕ
chain_bytes x = drop 32 x

-- a chain's value at the next place, and the key of the message at this one: HMAC (RFC 2104) of it with the byte 2, and with the byte 1
abbrev pub next_bytes : List ℕ → List ℕ
next_bytes c = hmac_sha_256 c (2 ∷ [])

abbrev pub key_bytes : List ℕ → List ℕ
key_bytes c = hmac_sha_256 c (1 ∷ [])

-- the bytes of a secret, by its recipe
unfoldable pub bytes_of : Ground → Secret → List ℕ
bytes_of g shared = g.shared
bytes_of g (own n) = g.own n
bytes_of g (joint n) = g.joint n
bytes_of g (mix r j) = mix_bytes (bytes_of g r) (bytes_of g j)
bytes_of g (root x) = root_bytes (bytes_of g x)
bytes_of g (chain x) = chain_bytes (bytes_of g x)
bytes_of g (next c) = next_bytes (bytes_of g c)
bytes_of g (key c) = key_bytes (bytes_of g c)

-- a chain's value so many places on, and the keys of the places passed over
unfoldable pub chain_along : ℕ → List ℕ → List ℕ
chain_along zero c = c
chain_along (suc n) c = next_bytes (chain_along n c)

unfoldable pub keys_along : ℕ → List ℕ → List MessageKey
keys_along zero c = []
keys_along (suc n) c = keys_along n c ++ record { 0 = key_bytes (chain_along n c) } ∷ []
