-- What is in the stock of the sides that were read: each recipe, in terms of what these sides had drawn, sent, taken and put aside.
use Rattle.std.proofs.Common.{◌≡◌, ℕ, zero, suc, ◌≤◌, Bool, false, ◌&&◌, ◌||◌, eqb, List, [], ◌∷◌, ◌++◌, map, sym, refl, ap, ◌∙◌, arith}
use lib.Dec.{eqb-suc-suc}
use Rattle.std.proofs.lemmas.Bool.{or_from, ne_eqb}
use Rattle.ratchet.specs.declared.types.Mark.{Mark}
use Rattle.ratchet.specs.State.{State, has}
use Rattle.chain.specs.Secret.{Secret, own, joint, root_of, link_of, chain_at, key_at}
use Rattle.runs.specs.Stock.{key_of, sending, taking, stock, stocks}
use Rattle.runs.specs.Rule.{any_read, read_at}
use Rattle.runs.specs.Working.{same_secret, in_stock}
use Rattle.runs.proofs.Bools.{or_false, or_assoc, any_same, any_none}
use Rattle.runs.proofs.Recipes.{kind, kind-root, kind-chain, root-kind, chain-kind, different, own-own, root-root, chain-chain, key-key}

-- ### Parts of a stock

in-append : (x : Secret) (a b : List Secret) → in_stock x (a ++ b) ≡ (in_stock x a || in_stock x b)
unfolding in_stock
in-append x [] b = refl
in-append x (y ∷ a) b = rw (in-append x a b, or_assoc (same_secret y x) (in_stock x a) (in_stock x b))

in-stocks : (x : Secret) (rs : List State) → in_stock x (stocks rs) ≡ any_read (λ s. in_stock x (stock s)) rs
unfolding stocks any_read in_stock
in-stocks x [] = refl
in-stocks x (s ∷ rs) = let a = in-append x (stock s) (stocks rs) in let b = in-stocks x rs in cc

-- a recipe that is no chain is in neither chain's place; one that is no key is not among the keys put aside
module _ (x : Secret) (no-chain : (n i : ℕ) → same_secret (chain_at n i) x ≡ false) where
  no_sending : (d k : ℕ) → in_stock x (sending d k) ≡ false
  unfolding in_stock sending
  no_sending zero k = refl
  no_sending (suc d) k = or_from (same_secret (chain_at d k) x) false (no-chain d k) refl

  no_taking : (d k : ℕ) → in_stock x (taking d k) ≡ false
  unfolding in_stock taking
  no_taking zero k = refl
  no_taking (suc zero) k = refl
  no_taking (suc (suc d)) k = or_from (same_secret (chain_at d k) x) false (no-chain d k) refl

no_keys : (x : Secret) → ((n i : ℕ) → same_secret (key_at n i) x ≡ false) → (ms : List Mark) → in_stock x (map key_of ms) ≡ false
unfolding in_stock
no_keys x no_key [] = refl
no_keys x no_key (m ∷ ms) = or_from (same_secret (key_of m) x) _ (no_key m.link m.place) (no_keys x no_key ms)

-- the five parts together
in-stock : (x : Secret) (s : State) (a b c d e : Bool) → same_secret (own s.drawn) x ≡ a → same_secret (root_of s.drawn) x ≡ b →
    in_stock x (sending s.drawn s.sent) ≡ c → in_stock x (taking s.drawn s.taken) ≡ d → in_stock x (map key_of s.skipped) ≡ e →
    in_stock x (stock s) ≡ (a || (b || ((c || d) || e)))
unfolding in_stock
in-stock x s a b c d e ha hb hc hd he =
    rw (
      in-append x (sending s.drawn s.sent ++ taking s.drawn s.taken) (map key_of s.skipped),
      in-append x (sending s.drawn s.sent) (taking s.drawn s.taken),
      ha,
      hb,
      hc,
      hd,
      he,
    )

-- ### Own halves and roots

own-none : (n : ℕ) (x : Secret) → (kind x ≡ 1 → ⊥) → same_secret (own n) x ≡ false
own-none n x h = different (own n) x (λ e. h (sym (ap kind e)))

root_none : (n : ℕ) (x : Secret) → (kind x ≡ 0 → ⊥) → (kind x ≡ 4 → ⊥) → same_secret (root_of n) x ≡ false
root_none n x h k = different (root_of n) x (root-kind n x h k)

chain-none : (n i : ℕ) (x : Secret) → (kind x ≡ 5 → ⊥) → (kind x ≡ 6 → ⊥) → same_secret (chain_at n i) x ≡ false
chain-none n i x h k = different (chain_at n i) x (chain-kind n i x h k)

key-none : (n i : ℕ) (x : Secret) → (kind x ≡ 7 → ⊥) → same_secret (key_at n i) x ≡ false
key-none n i x h = different (key_at n i) x (λ e. h (sym (ap kind e)))

-- a recipe that is neither chain nor key is in a stock as the own half or as the root
plain_in : (x : Secret) (s : State) (a b : Bool) → ((k : ℕ) → kind x ≡ k → 5 ≤ k → ⊥) → same_secret (own s.drawn) x ≡ a → same_secret (root_of s.drawn) x ≡ b →
    in_stock x (stock s) ≡ (a || b)
plain_in x s a b h ha hb =
    in-stock x s a b false false false ha hb
    (no_sending x (λ m i. chain-none m i x (λ e. h 5 e (omega arith)) (λ e. h 6 e (omega arith))) s.drawn s.sent)
    (no_taking x (λ m i. chain-none m i x (λ e. h 5 e (omega arith)) (λ e. h 6 e (omega arith))) s.drawn s.taken)
    (no_keys x (λ m i. key-none m i x (λ e. h 7 e (omega arith))) s.skipped)
    ∙ ap (λ y. a || y) (or_false b)

own_in : (n : ℕ) (s : State) → in_stock (own n) (stock s) ≡ eqb s.drawn n
own_in n s =
    plain_in (own n) s (eqb s.drawn n) false (λ k e l. omega arith) (own-own s.drawn n) (root_none s.drawn (own n) (omega arith) (omega arith))
    ∙ or_false (eqb s.drawn n)

root_in : (n : ℕ) (s : State) → in_stock (root_of n) (stock s) ≡ eqb s.drawn n
root_in n s =
    plain_in (root_of n) s false (eqb s.drawn n) (λ k e l. omega (arith, kind-root n)) (own-none s.drawn (root_of n) (λ e. omega (arith, kind-root n)))
    (root-root s.drawn n)

-- neither a joint secret nor a link's mix is kept
joint-in : (n : ℕ) (s : State) → in_stock (joint n) (stock s) ≡ false
joint-in n s =
    plain_in (joint n) s false false (λ k e l. omega arith) (own-none s.drawn (joint n) (omega arith)) (root_none s.drawn (joint n) (omega arith) (omega arith))

link-in : (n : ℕ) (s : State) → in_stock (link_of n) (stock s) ≡ false
link-in n s =
    plain_in (link_of n) s false false (λ k e l. omega arith) (own-none s.drawn (link_of n) (omega arith)) (root_none s.drawn (link_of n) (omega arith) (omega arith))

-- ### Chains and keys

sending-in : (n i d k : ℕ) → in_stock (chain_at n i) (sending d k) ≡ (eqb d (suc n) && eqb k i)
unfolding in_stock sending
sending-in n i zero k = rw (ne_eqb 0 (suc n) (omega arith))
sending-in n i (suc d) k = or_false (same_secret (chain_at d k) (chain_at n i)) ∙ (chain-chain d k n i ∙ ap (λ b. b && eqb k i) (sym (eqb-suc-suc d n)))

taking-in : (n i d k : ℕ) → in_stock (chain_at n i) (taking d k) ≡ (eqb d (suc (suc n)) && eqb k i)
unfolding in_stock taking
taking-in n i zero k = rw (ne_eqb 0 (suc (suc n)) (omega arith))
taking-in n i (suc zero) k = rw (ne_eqb 1 (suc (suc n)) (omega arith))
taking-in n i (suc (suc d)) k =
    or_false (same_secret (chain_at d k) (chain_at n i)) ∙ (chain-chain d k n i ∙ ap (λ b. b && eqb k i) (sym (eqb-suc-suc (suc d) (suc n) ∙ eqb-suc-suc d n)))

-- at the very place: the chain that a side sends on, or takes on
abbrev pub holds_chain : ℕ → ℕ → State → Bool
holds_chain n i s = (eqb s.drawn (suc n) && eqb s.sent i) || (eqb s.drawn (suc (suc n)) && eqb s.taken i)

chain-in : (n i : ℕ) (s : State) → in_stock (chain_at n i) (stock s) ≡ holds_chain n i s
chain-in n i s =
    let x : Secret = chain_at n i in
    in-stock x s false false (eqb s.drawn (suc n) && eqb s.sent i) (eqb s.drawn (suc (suc n)) && eqb s.taken i) false
    (own-none s.drawn x (λ e. omega (arith, kind-chain n i)))
    (root_none s.drawn x (λ e. omega (arith, kind-chain n i)) (λ e. omega (arith, kind-chain n i)))
    (sending-in n i s.drawn s.sent) (taking-in n i s.drawn s.taken)
    (no_keys x (λ m j. key-none m j x (λ e. omega (arith, kind-chain n i))) s.skipped)
    ∙ or_false (holds_chain n i s)

keys_in : (n i : ℕ) (ms : List Mark) → in_stock (key_at n i) (map key_of ms) ≡ has (record { link = n; place = i }) ms
unfolding in_stock has
keys_in n i [] = refl
keys_in n i (m ∷ ms) = let a = key-key m.link m.place n i in let b = keys_in n i ms in cc

key_in : (n i : ℕ) (s : State) → in_stock (key_at n i) (stock s) ≡ has (record { link = n; place = i }) s.skipped
key_in n i s =
    let x : Secret = key_at n i in
    in-stock x s false false false false (has (record { link = n; place = i }) s.skipped)
    (own-none s.drawn x (omega arith)) (root_none s.drawn x (omega arith) (omega arith))
    (no_sending x (λ m j. chain-none m j x (omega arith) (omega arith)) s.drawn s.sent)
    (no_taking x (λ m j. chain-none m j x (omega arith) (omega arith)) s.drawn s.taken)
    (keys_in n i s.skipped)

-- ### All that was read

module _ (rs : List State) where
  pub own_read : (n : ℕ) → in_stock (own n) (stocks rs) ≡ read_at rs n
  own_read n = in-stocks (own n) rs ∙ any_same _ _ (own_in n) rs

  pub root_read : (n : ℕ) → in_stock (root_of n) (stocks rs) ≡ read_at rs n
  root_read n = in-stocks (root_of n) rs ∙ any_same _ _ (root_in n) rs

  pub joint_read : (n : ℕ) → in_stock (joint n) (stocks rs) ≡ false
  joint_read n = in-stocks (joint n) rs ∙ any_none _ (joint-in n) rs

  pub link_read : (n : ℕ) → in_stock (link_of n) (stocks rs) ≡ false
  link_read n = in-stocks (link_of n) rs ∙ any_none _ (link-in n) rs

  pub chain_read : (n i : ℕ) → in_stock (chain_at n i) (stocks rs) ≡ any_read (holds_chain n i) rs
  chain_read n i = in-stocks (chain_at n i) rs ∙ any_same _ _ (chain-in n i) rs

  pub key_read : (n i : ℕ) → in_stock (key_at n i) (stocks rs) ≡ any_read (λ s. has (record { link = n; place = i }) s.skipped) rs
  key_read n i = in-stocks (key_at n i) rs ∙ any_same _ _ (key_in n i) rs
