-- What can be worked out from the sides that were read, recipe by recipe, and that a key can be just if the rule says that it lies open.
use Rattle.std.proofs.Common.{◌≡◌, ℕ, zero, suc, Bool, true, false, ◌&&◌, ◌||◌, eqb, leb, List, Decides, sym, refl, ap, ◌∙◌}
use Rattle.std.proofs.lemmas.Bool.Decides.{Decides-at}
use Rattle.ratchet.specs.State.{State, has}
use Rattle.chain.specs.Secret.{own, joint, root_of, link_of, along, chain_at, key_at, Knows}
use Rattle.runs.specs.Stock.{stocks}
use Rattle.runs.specs.Rule.{any_read, read_at, root_open, link_open, sees, exposed}
use Rattle.runs.specs.Working.{works_out}
use Rattle.runs.proofs.Bools.{or_assoc, or_comm, or_middle, and_or, upto_none, upto_more, any_same, any_or}
use Rattle.runs.proofs.Stocks.{holds_chain, own_read, root_read, joint_read, link_read, chain_read, key_read}
use Rattle.runs.proofs.Works.{works_out-decides}

-- a side read from which the chain's value at a place can be had by going on: the sender's or the taker's, at that place or before
abbrev pub reaches : ℕ → ℕ → State → Bool
reaches n i s = (eqb s.drawn (suc n) && leb s.sent i) || (eqb s.drawn (suc (suc n)) && leb s.taken i)

reaches-none : (n : ℕ) (s : State) → holds_chain n 0 s ≡ reaches n 0 s
reaches-none n s = rw (upto_none s.sent, upto_none s.taken)

reaches_more : (n i : ℕ) (s : State) → (holds_chain n (suc i) s || reaches n i s) ≡ reaches n (suc i) s
reaches_more n i s =
    or_middle (eqb s.drawn (suc n) && eqb s.sent (suc i)) _ (eqb s.drawn (suc n) && leb s.sent i) _
    ∙ rw (
      and_or (eqb s.drawn (suc n)) (eqb s.sent (suc i)) (leb s.sent i),
      and_or (eqb s.drawn (suc (suc n))) (eqb s.taken (suc i)) (leb s.taken i),
      upto_more s.sent i,
      upto_more s.taken i,
    )

-- what is seen is reached, or was put aside
sees-parts : (n i : ℕ) (s : State) → (reaches n i s || has (record { link = n; place = i }) s.skipped) ≡ sees n i s
sees-parts n i s = or_assoc (eqb s.drawn (suc n) && leb s.sent i) _ _

-- a || (b || c) with b brought in front
or_front : (a b c : Bool) → (a || (b || c)) ≡ (b || (a || c))
or_front true true c = refl
or_front true false c = refl
or_front false b c = refl

module _ (rs : List State) where
  pub works_own : (n : ℕ) → works_out (stocks rs) (own n) ≡ read_at rs n
  unfolding works_out
  works_own n = own_read rs n

  pub works_joint : (n : ℕ) → works_out (stocks rs) (joint n) ≡ (read_at rs n || read_at rs (suc n))
  unfolding works_out
  works_joint n = rw (joint_read rs n, own_read rs n, own_read rs (suc n))

  pub works_link_by : (n : ℕ) → works_out (stocks rs) (link_of n) ≡ (works_out (stocks rs) (root_of n) && (read_at rs n || read_at rs (suc n)))
  unfolding works_out
  works_link_by n = let a = link_read rs n in let b = works_joint n in cc

  pub works_root_none : works_out (stocks rs) (root_of zero) ≡ read_at rs 0
  unfolding works_out root_of
  works_root_none = root_read rs 0

  pub works_root_more : (n : ℕ) → works_out (stocks rs) (root_of (suc n)) ≡ (read_at rs (suc n) || works_out (stocks rs) (link_of n))
  unfolding works_out root_of
  works_root_more n = let a = root_read rs (suc n) in cc

  pub works_root : (n : ℕ) → works_out (stocks rs) (root_of n) ≡ root_open rs n
  unfolding root_open
  works_root zero = works_root_none
  works_root (suc n) = let a = works_root_more n in let b = works_link_by n in let c = works_root n in cc

  pub works_link : (n : ℕ) → works_out (stocks rs) (link_of n) ≡ link_open rs n
  works_link n = let a = works_link_by n in let b = works_root n in cc

  pub works_chain_none : (n : ℕ) → works_out (stocks rs) (chain_at n 0) ≡ (any_read (holds_chain n 0) rs || link_open rs n)
  unfolding works_out along
  works_chain_none n = let a = chain_read rs n 0 in let b = works_link n in cc

  pub works_chain_more : (n i : ℕ) → works_out (stocks rs) (chain_at n (suc i)) ≡ (any_read (holds_chain n (suc i)) rs || works_out (stocks rs) (chain_at n i))
  unfolding works_out along
  works_chain_more n i = let a = chain_read rs n (suc i) in cc

  pub works_chain : (n i : ℕ) → works_out (stocks rs) (chain_at n i) ≡ (link_open rs n || any_read (reaches n i) rs)
  works_chain n zero =
      works_chain_none n ∙ (or_comm (any_read (holds_chain n 0) rs) (link_open rs n) ∙ ap (λ b. link_open rs n || b) (any_same _ _ (reaches-none n) rs))
  works_chain n (suc i) =
      works_chain_more n i ∙ (ap (λ b. any_read (holds_chain n (suc i)) rs || b) (works_chain n i)
      ∙ (or_front (any_read (holds_chain n (suc i)) rs) (link_open rs n) _
      ∙ ap (λ b. link_open rs n || b) (any_or _ _ rs ∙ any_same _ _ (reaches_more n i) rs)))

  pub works_key_by : (n i : ℕ) →
      works_out (stocks rs) (key_at n i) ≡ (any_read (λ s. has (record { link = n; place = i }) s.skipped) rs || works_out (stocks rs) (chain_at n i))
  unfolding works_out
  works_key_by n i = let a = key_read rs n i in cc

  pub works_key : (n i : ℕ) → works_out (stocks rs) (key_at n i) ≡ exposed rs n i
  works_key n i =
      works_key_by n i ∙ (ap (λ b. any_read (λ s. has (record { link = n; place = i }) s.skipped) rs || b) (works_chain n i)
      ∙ (or_front _ (link_open rs n) (any_read (reaches n i) rs)
      ∙ ap (λ b. link_open rs n || b) (or_comm _ (any_read (reaches n i) rs) ∙ (any_or _ _ rs ∙ any_same _ _ (sees-parts n i) rs))))

  -- from any sides that were read, a key can be worked out just if the rule says that it lies open
  pub exactly : (n i : ℕ) → Decides (exposed rs n i) (Knows (stocks rs) (key_at n i))
  exactly n i = Decides-at (exposed rs n i) (works_out (stocks rs) (key_at n i)) (sym (works_key n i)) (works_out-decides (stocks rs) (key_at n i))
