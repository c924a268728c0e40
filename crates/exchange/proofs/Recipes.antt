-- The bytes of recipes: chains walked, keys put aside and taken from there, and joint secrets of both sides.
use Rattle.std.proofs.Common.{◌≡◌, ℕ, zero, suc, ◌+◌, ◌%◌, Bool, true, false, cond, eqb, List, [], ◌∷◌, ◌++◌, map, Some, sym, refl, ap, ◌∙◌, inl, inr, arith}
use Rattle.std.proofs.lemmas.List.{map-append}
use Rattle.std.proofs.lemmas.Bool.{false≢true, cases_Bool, cases_eq, or_cases, eq-eqb, ne_eqb, cond-true, cond-false}
use Rattle.ratchet.specs.declared.types.Mark.{Mark}
use Rattle.ratchet.specs.Same.{same_mark}
use Rattle.ratchet.specs.State.{has, without, places}
use Rattle.runs.specs.declared.types.Who.{Who}
use Rattle.runs.specs.declared.types.Who.TheVariants.{First, Second}
use Rattle.runs.specs.World.{other}
use Rattle.chain.specs.Secret.{Secret, joint, along, chain_at, key_at}
use Rattle.runs.specs.Stock.{sending, taking}
use Rattle.runs.proofs.Messages.{same-mark}
use Rattle.exchange.specs.Outside.{Outside, Lawful, Meets}
use Rattle.exchange.specs.Held.{Ground, drawer, draw_of, or_none, bytes_of, chain_bytes, key_bytes_of}
use Rattle.exchange.specs.Exchanges.{walked, keys_along, key_aside, keys_without}

-- ### Marks and keys side by side

pub aside-key : (f : Mark → List ℕ) (m : Mark) (xs : List Mark) → has m xs ≡ true → key_aside m xs (map f xs) ≡ f m
unfolding has key_aside
aside-key f m [] h = absurd (false≢true h)
aside-key f m (x ∷ xs) h = elim (cases_Bool (same_mark x m)) [
  | inl t ↦ cond-true (same_mark x m) (f x) _ t ∙ ap f (same-mark x m t)
  | inr t ↦ cond-false (same_mark x m) (f x) _ t
      ∙ aside-key f m xs (elim (or_cases (same_mark x m) (has m xs) h) [ inl u ↦ absurd (false≢true (sym t ∙ u)) | inr u ↦ u ])
]

pub aside-without : (f : Mark → List ℕ) (m : Mark) (xs : List Mark) → keys_without m xs (map f xs) ≡ map f (without m xs)
unfolding without keys_without
aside-without f m [] = refl
aside-without f m (x ∷ xs) = go (same_mark x m) (aside-without f m xs)
  where
    go : (b : Bool) → keys_without m xs (map f xs) ≡ map f (without m xs) → cond b (map f xs) (f x ∷ keys_without m xs (map f xs)) ≡ map f (cond b xs (x ∷ without m xs))
    go true e = refl
    go false e = ap (λ ks. f x ∷ ks) e

pub places-last : (l f n : ℕ) → places l f (suc n) ≡ places l f n ++ record { link = l; place = f + n } ∷ []
unfolding places
places-last l f zero = let e : f ≡ f + 0 = omega arith in λ i. record { link = l; place = e i } ∷ []
places-last l f (suc n) =
    let e : f + 1 + n ≡ f + suc n = omega arith in
    ap (λ (xs : List Mark). record { link = l; place = f } ∷ xs) (places-last l (f + 1) n ∙ ap (λ k. places l (f + 1) n ++ record { link = l; place = k } ∷ []) e)

module _ (o : Outside) (g : Ground) where
  -- ### Chains

  pub walk : (c : Secret) (k i n : ℕ) → n ≡ k + i → walked o i (bytes_of o g (along k c)) ≡ bytes_of o g (along n c)
  unfolding walked bytes_of along
  walk c k zero n e = let z : k ≡ n = omega arith in ap (λ j. bytes_of o g (along j c)) z
  walk c k (suc i) n e =
      let z : suc (k + i) ≡ n = omega arith in
      ap o.next_bytes (walk c k i (k + i) refl) ∙ ap (λ j. bytes_of o g (along j c)) z

  pub walk_key : (l k i n : ℕ) → n ≡ k + i → o.key_bytes (walked o i (bytes_of o g (chain_at l k))) ≡ bytes_of o g (key_at l n)
  unfolding bytes_of
  walk_key l k i n e = ap o.key_bytes (walk _ k i n e)

  pub walk_keys : (l k i : ℕ) → keys_along o i (bytes_of o g (chain_at l k)) ≡ map (key_bytes_of o g) (places l k i)
  unfolding keys_along places
  walk_keys l k zero = refl
  walk_keys l k (suc i) =
      (λ j. walk_keys l k i j ++ walk_key l k i (k + i) refl j ∷ [])
      ∙ (sym (map-append (key_bytes_of o g) (places l k i) _) ∙ ap (map (key_bytes_of o g)) (sym (places-last l k i)))

  -- the chain that a side sends on, and the one that it takes on
  pub sends_on : (d l i : ℕ) → d ≡ l + 1 → chain_bytes o g (sending d i) ≡ bytes_of o g (chain_at l i)
  unfolding sending
  sends_on zero l i e = absurd (omega arith)
  sends_on (suc d) l i e = let z : d ≡ l = omega arith in ap (λ k. bytes_of o g (chain_at k i)) z

  pub takes_on : (d l i : ℕ) → d ≡ l + 2 → chain_bytes o g (taking d i) ≡ bytes_of o g (chain_at l i)
  unfolding taking
  takes_on zero l i e = absurd (omega arith)
  takes_on (suc zero) l i e = absurd (omega arith)
  takes_on (suc (suc d)) l i e = let z : d ≡ l = omega arith in ap (λ k. bytes_of o g (chain_at k i)) z

-- ### Joint secrets

pub drawer-next : (n : ℕ) → drawer (suc n) ≡ other (drawer n)
drawer-next n = elim (cases_eq (n % 2) 1) [
  | inl e ↦
      let f : suc n % 2 ≡ 1 → ⊥ = λ h. omega arith in
      cond-false (eqb (suc n % 2) 1) First Second (ne_eqb (suc n % 2) 1 f) ∙ sym (ap other (cond-true (eqb (n % 2) 1) First Second (eq-eqb (n % 2) 1 e)))
  | inr d ↦
      let f : suc n % 2 ≡ 1 = omega arith in
      cond-true (eqb (suc n % 2) 1) First Second (eq-eqb (suc n % 2) 1 f) ∙ sym (ap other (cond-false (eqb (n % 2) 1) First Second (ne_eqb (n % 2) 1 d)))
]

module _ (o : Outside) (k : Lawful o) where
  pub meets : (a : Who) (m n : ℕ) → Meets o (record { who = a; nth = m }) (record { who = other a; nth = n })
  meets First m n = k.meet m n
  meets Second m n = let t = k.meet n m in record { secret = t.secret; ours = t.theirs; theirs = t.ours }

  module _ (g : Ground) (n : ℕ) where
    neighbours : Meets o (draw_of g n) (draw_of g (suc n))
    neighbours = rw (drawer-next n) (meets (drawer n) (g.draws n) (g.draws (suc n)))

    -- the box of the lower key, and that of the higher
    pub joint_below : o.joint (draw_of g n) (o.half (draw_of g (suc n))) ≡ Some (bytes_of o g (joint n))
    unfolding bytes_of
    joint_below = neighbours.ours ∙ ap Some (sym (ap or_none neighbours.ours))

    pub joint_above : o.joint (draw_of g (suc n)) (o.half (draw_of g n)) ≡ Some (bytes_of o g (joint n))
    unfolding bytes_of
    joint_above = neighbours.theirs ∙ ap Some (sym (ap or_none neighbours.ours))
