-- The bytes of each recipe, from those of what it is made of.
use Rattle.std.proofs.Common.{◌≡◌, ℕ, List, [], ◌∷◌, length, ap, ◌∙◌, arith, length-drop}
use Rattle.std.proofs.lemmas.List.{length-take-le}
use Rattle.digest.proofs.Lengths.{length-hkdf, length-hmac}
use Rattle.chain.specs.Secret.{Secret, mix, root, chain, next, key}
use Rattle.chain.specs.Answers.{Linked, Advanced}
use Rattle.chain.specs.Bytes.{Ground, bytes_of, mix_bytes, root_bytes, chain_bytes, next_bytes, key_bytes}

pub linked : (r j after begun : List ℕ) → after ≡ root_bytes (mix_bytes r j) → begun ≡ chain_bytes (mix_bytes r j) → Linked r j after begun
unfolding bytes_of
linked r j after begun p q = record {
  root_is = p;
  chain_is = q;
  root_made = λ g x y d e. p ∙ ap (λ (z : List ℕ). root_bytes (mix_bytes z j)) d ∙ ap (λ (z : List ℕ). root_bytes (mix_bytes (bytes_of g x) z)) e;
  chain_made = λ g x y d e. q ∙ ap (λ (z : List ℕ). chain_bytes (mix_bytes z j)) d ∙ ap (λ (z : List ℕ). chain_bytes (mix_bytes (bytes_of g x) z)) e;
}

pub advanced : (c here after : List ℕ) → here ≡ key_bytes c → after ≡ next_bytes c → Advanced c here after
unfolding bytes_of
advanced c here after p q = record {
  key_is = p;
  next_is = q;
  key_made = λ g x e. p ∙ ap key_bytes e;
  next_made = λ g x e. q ∙ ap next_bytes e;
}

-- ### Each is 32 bytes long

length-mix : (g : Ground) (x y : Secret) → length (bytes_of g (mix x y)) ≡ 64
unfolding bytes_of
length-mix g x y = length-hkdf (bytes_of g x) (bytes_of g y) [] 64

pub length-root : (g : Ground) (x y : Secret) → length (bytes_of g (root (mix x y))) ≡ 32
unfolding bytes_of
length-root g x y = length-take-le 32 (bytes_of g (mix x y)) (omega (arith, length-mix g x y))

pub length-chain : (g : Ground) (x y : Secret) → length (bytes_of g (chain (mix x y))) ≡ 32
unfolding bytes_of
length-chain g x y = omega (arith, length-drop 32 (bytes_of g (mix x y)), length-mix g x y)

pub length-next : (g : Ground) (c : Secret) → length (bytes_of g (next c)) ≡ 32
unfolding bytes_of
length-next g c = length-hmac (bytes_of g c) (2 ∷ [])

pub length-key : (g : Ground) (c : Secret) → length (bytes_of g (key c)) ≡ 32
unfolding bytes_of
length-key g c = length-hmac (bytes_of g c) (1 ∷ [])
