-- What the calls come to: as bytes, and by the recipes of the bytes that they are given.
-- Assumes nothing.
use Rattle.std.specs.Prelude.{◌≡◌, ℕ, ◌<◌, List, [], slice_index_or}
use Rattle.seal.specs.declared.keys.MessageKey.{MessageKey}
use Rattle.chain.specs.Secret.{Secret, mix, root, chain, next, key, along}
use Rattle.chain.specs.Bytes.{Ground, bytes_of, mix_bytes, root_bytes, chain_bytes, next_bytes, key_bytes, chain_along, keys_along}

-- of root r and joint secret j: the next root, and the beginning of the link's chain
pub record Linked (r j after begun : List ℕ) : Type 0 where
  pub root_is : after ≡ root_bytes (mix_bytes r j)
  pub chain_is : begun ≡ chain_bytes (mix_bytes r j)
  pub root_made : (g : Ground) (x y : Secret) → r ≡ bytes_of g x → j ≡ bytes_of g y → after ≡ bytes_of g (root (mix x y))
  pub chain_made : (g : Ground) (x y : Secret) → r ≡ bytes_of g x → j ≡ bytes_of g y → begun ≡ bytes_of g (chain (mix x y))

-- of a chain's value: the key of the message at its place, and the value at the next
pub record Advanced (c here after : List ℕ) : Type 0 where
  pub key_is : here ≡ key_bytes c
  pub next_is : after ≡ next_bytes c
  pub key_made : (g : Ground) (x : Secret) → c ≡ bytes_of g x → here ≡ bytes_of g (key x)
  pub next_made : (g : Ground) (x : Secret) → c ≡ bytes_of g x → after ≡ bytes_of g (next x)

-- of a chain's value: the value so many places on
pub record Skipped (c : List ℕ) (n : ℕ) (after : List ℕ) : Type 0 where
  pub chain_is : after ≡ chain_along n c
  pub chain_made : (g : Ground) (x : Secret) → c ≡ bytes_of g x → after ≡ bytes_of g (along n x)

-- and the keys of the places passed over, in order
pub record Walked (c : List ℕ) (n : ℕ) (keys : List MessageKey) (after : List ℕ) : Type 0 where
  pub skipped : Skipped c n after
  pub keys_are : keys ≡ keys_along n c
  pub keys_made : (g : Ground) (x : Secret) (i : ℕ) → c ≡ bytes_of g x → i < n → (slice_index_or keys i (record { 0 = [] })).0 ≡ bytes_of g (key (along i x))
