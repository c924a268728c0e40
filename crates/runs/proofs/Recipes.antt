-- The recipes of roots, links, chains and keys: which are the same, and which never are.
use Rattle.std.proofs.Common.{◌≡◌, ℕ, zero, suc, false, ◌&&◌, eqb, ◌⊎◌, sym, refl, ap, ◌∙◌, inl, inr}
use Rattle.std.proofs.lemmas.Bool.{cases_Bool}
use Rattle.std.proofs.lemmas.Bool.Decides.{same_from_decides, Decides-and, Decides-eqb, Decides-like}
use Rattle.chain.specs.Secret.{Secret, shared, own, joint, mix, root, chain, next, key, root_of, link_of, along, chain_at, key_at}
use Rattle.runs.specs.Working.{same_secret}
use Rattle.runs.proofs.Works.{same-decides}

-- a number for the outermost part of a recipe
abbrev pub kind : Secret → ℕ
kind shared = 0
kind (own n) = 1
kind (joint n) = 2
kind (mix r j) = 3
kind (root x) = 4
kind (chain x) = 5
kind (next c) = 6
kind (key c) = 7

-- how many roots lie under it, how many places on it is
unfoldable depth : Secret → ℕ
depth shared = 0
depth (own n) = n
depth (joint n) = n
depth (mix r j) = depth r
depth (root x) = suc (depth x)
depth (chain x) = depth x
depth (next c) = depth c
depth (key c) = depth c

unfoldable reach : Secret → ℕ
reach shared = 0
reach (own n) = 0
reach (joint n) = 0
reach (mix r j) = 0
reach (root x) = 0
reach (chain x) = 0
reach (next c) = suc (reach c)
reach (key c) = reach c

depth-root : (n : ℕ) → depth (root_of n) ≡ n
unfolding depth root_of
depth-root zero = refl
depth-root (suc n) = ap suc (depth-root n)

depth-along : (i : ℕ) (c : Secret) → depth (along i c) ≡ depth c
unfolding depth along
depth-along zero c = refl
depth-along (suc i) c = depth-along i c

depth-chain : (n i : ℕ) → depth (chain_at n i) ≡ n
unfolding depth
depth-chain n i = depth-along i (chain (link_of n)) ∙ depth-root n

reach-chain : (n i : ℕ) → reach (chain_at n i) ≡ i
unfolding reach along
reach-chain n zero = refl
reach-chain n (suc i) = ap suc (reach-chain n i)

-- ### Never the same

pub kind-root : (n : ℕ) → (kind (root_of n) ≡ 0) ⊎ (kind (root_of n) ≡ 4)
unfolding root_of
kind-root zero = inl refl
kind-root (suc n) = inr refl

pub kind-chain : (n i : ℕ) → (kind (chain_at n i) ≡ 5) ⊎ (kind (chain_at n i) ≡ 6)
unfolding along
kind-chain n zero = inl refl
kind-chain n (suc i) = inr refl

-- a root is the first secret or begins with `root`
pub root-kind : (n : ℕ) (s : Secret) → (kind s ≡ 0 → ⊥) → (kind s ≡ 4 → ⊥) → root_of n ≡ s → ⊥
root-kind n s a b e = elim (kind-root n) [ inl k ↦ a (sym (ap kind e) ∙ k) | inr k ↦ b (sym (ap kind e) ∙ k) ]

-- a chain begins with `chain` or `next`
pub chain-kind : (n i : ℕ) (s : Secret) → (kind s ≡ 5 → ⊥) → (kind s ≡ 6 → ⊥) → chain_at n i ≡ s → ⊥
chain-kind n i s a b e = elim (kind-chain n i) [ inl k ↦ a (sym (ap kind e) ∙ k) | inr k ↦ b (sym (ap kind e) ∙ k) ]

pub different : (a b : Secret) → (a ≡ b → ⊥) → same_secret a b ≡ false
different a b no' = elim (cases_Bool (same_secret a b)) [ inl t ↦ absurd (no' ((same-decides a b).0 t)) | inr f ↦ f ]

-- ### The same just if their numbers are

pub own-own : (m n : ℕ) → same_secret (own m) (own n) ≡ eqb m n
own-own m n = same_from_decides (same_secret (own m) (own n)) (eqb m n) (same-decides (own m) (own n)) (Decides-like (eqb m n) (ap own) (λ e. cc) (Decides-eqb m n))

pub root-root : (m n : ℕ) → same_secret (root_of m) (root_of n) ≡ eqb m n
root-root m n =
    same_from_decides (same_secret (root_of m) (root_of n)) (eqb m n) (same-decides (root_of m) (root_of n))
    (Decides-like (eqb m n) (ap root_of) (λ e. sym (depth-root m) ∙ (ap depth e ∙ depth-root n)) (Decides-eqb m n))

chains : (m i n j : ℕ) → (m ≡ n) × (i ≡ j) → chain_at m i ≡ chain_at n j
chains m i n j e = let a = e.0 in let b = e.1 in cc

chains-back : (m i n j : ℕ) → chain_at m i ≡ chain_at n j → (m ≡ n) × (i ≡ j)
chains-back m i n j e = (sym (depth-chain m i) ∙ (ap depth e ∙ depth-chain n j), sym (reach-chain m i) ∙ (ap reach e ∙ reach-chain n j))

pub chain-chain : (m i n j : ℕ) → same_secret (chain_at m i) (chain_at n j) ≡ (eqb m n && eqb i j)
chain-chain m i n j =
    same_from_decides (same_secret (chain_at m i) (chain_at n j)) (eqb m n && eqb i j) (same-decides (chain_at m i) (chain_at n j))
    (Decides-like (eqb m n && eqb i j) (chains m i n j) (chains-back m i n j) (Decides-and (eqb m n) (eqb i j) (Decides-eqb m n) (Decides-eqb i j)))

pub keys-back : (m i n j : ℕ) → key_at m i ≡ key_at n j → (m ≡ n) × (i ≡ j)
keys-back m i n j e = chains-back m i n j (cc)

pub key-key : (m i n j : ℕ) → same_secret (key_at m i) (key_at n j) ≡ (eqb m n && eqb i j)
key-key m i n j =
    same_from_decides (same_secret (key_at m i) (key_at n j)) (eqb m n && eqb i j) (same-decides (key_at m i) (key_at n j))
    (Decides-like (eqb m n && eqb i j) (λ e. ap key (chains m i n j e)) (keys-back m i n j) (Decides-and (eqb m n) (eqb i j) (Decides-eqb m n) (Decides-eqb i j)))
