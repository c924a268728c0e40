-- Secrets, each written as the recipe by which it comes about, and what somebody with some of them can work out.
-- Assumes that nothing goes backwards, and that a joint secret comes only from a secret half.
use Rattle.std.specs.Prelude.{ℕ, zero, suc, List}
use mathlib.Core.List.{Memᴰ}

-- shared: what the two had from the start; own n: the secret half of key n; joint n: what keys n and n + 1 give together;
-- mix: a root with a joint secret; root and chain: made from that; next: one place on in a chain; key: the key of one message
pub data Secret : Type 0 where
  shared : Secret
  own : ℕ → Secret
  joint : ℕ → Secret
  mix : Secret → Secret → Secret
  root : Secret → Secret
  chain : Secret → Secret
  next : Secret → Secret
  key : Secret → Secret
  deriving Discrete as Secret-discrete

-- public halves are known to all, so a joint secret comes from either secret half; all else from what it is made of
pub data Knows (stock : List Secret) : Secret → Type 0 where
  had : {s : Secret} → Memᴰ s stock → Knows stock s
  below : {n : ℕ} → Knows stock (own n) → Knows stock (joint n)
  above : {n : ℕ} → Knows stock (own (suc n)) → Knows stock (joint n)
  mixed : {r j : Secret} → Knows stock r → Knows stock j → Knows stock (mix r j)
  rooted : {x : Secret} → Knows stock x → Knows stock (root x)
  chained : {x : Secret} → Knows stock x → Knows stock (chain x)
  onward : {c : Secret} → Knows stock c → Knows stock (next c)
  keyed : {c : Secret} → Knows stock c → Knows stock (key c)

-- root n; link n is made from root n and the joint secret of keys n and n + 1
unfoldable pub root_of : ℕ → Secret
root_of zero = shared
root_of (suc n) = root (mix (root_of n) (joint n))

abbrev pub link_of : ℕ → Secret
link_of n = mix (root_of n) (joint n)

-- a chain's value so many places on
unfoldable pub along : ℕ → Secret → Secret
along zero c = c
along (suc i) c = next (along i c)

abbrev pub chain_at : (n i : ℕ) → Secret
chain_at n i = along i (chain (link_of n))

abbrev pub key_at : (n i : ℕ) → Secret
key_at n i = key (chain_at n i)
