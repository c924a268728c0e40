-- Chains and the keys along them are the same by either definition.
use Rattle.std.proofs.Common.{◌≡◌, ℕ, zero, suc, ◌+◌, List, [], ◌∷◌, map, refl, ap, ◌∙◌, add-one}
use Rattle.std.proofs.lemmas.List.{map-append}
use Rattle.chain.specs.Bytes as links
use Rattle.keybox.specs.Box.{Scheme}
use Rattle.exchange.specs.Exchanges.{walked, keys_along}
use Rattle.session.specs.Ours.{ours}
use Rattle.session.specs.Views.{key_in}

module _ (scheme : Scheme) where
  pub chain_same : (n : ℕ) (c : List ℕ) → links.chain_along n c ≡ walked (ours scheme) n c
  unfolding links.chain_along walked
  chain_same zero c = refl
  chain_same (suc n) c = ap links.next_bytes (chain_same n c)

  pub keys_same : (n : ℕ) (c : List ℕ) → map key_in (links.keys_along n c) ≡ keys_along (ours scheme) n c
  unfolding links.keys_along keys_along
  keys_same zero c = refl
  keys_same (suc n) c =
      let e = keys_same n c in
      let f = ap links.key_bytes (chain_same n c) in
      map-append key_in (links.keys_along n c) (record { 0 = links.key_bytes (links.chain_along n c) } ∷ []) ∙ cc

  -- one place on
  pub chain_next : (n : ℕ) (c at after : List ℕ) → at ≡ links.chain_along n c → after ≡ links.next_bytes at → after ≡ walked (ours scheme) (n + 1) c
  unfolding walked
  chain_next n c at after e f = rw add-one (f ∙ ap links.next_bytes (e ∙ chain_same n c))
