-- Working out by computing is working out: the test decides what can be known.
use Rattle.std.proofs.Common.{◌≡◌, suc, Bool, true, false, ◌&&◌, ◌||◌, List, [], ◌∷◌, Decides, sym, refl, inl, inr}
use mathlib.Core.List.Memᴰ
use mathlib.Core.List.{Memᴰ}
use native.Mathlib.Decide.{ℕ_discrete}
use Rattle.std.proofs.lemmas.Bool.{false≢true, or_cases, or_left, or_right, and_parts, and_from}
use Rattle.chain.specs.Secret.{Secret, Secret-discrete, shared, own, joint, mix, root, chain, next, key, Knows, had, below, above, mixed, rooted, chained, onward, keyed}
use Rattle.runs.specs.Working.{same_secret, in_stock, works_out}

abbrev says_yes : {P : Type 0} → Dec P → Bool
says_yes d = elim d [ yes e ↦ true | no n ↦ false ]

decided : {P : Type 0} (d : Dec P) → Decides (says_yes d) P
decided (yes e) = (λ _. e, λ _. refl)
decided (no n) = (λ f. absurd (false≢true f), λ e. absurd (n e))

-- the test of two recipes decides their equality
pub same-decides : (a b : Secret) → Decides (same_secret a b) (a ≡ b)
unfolding same_secret
same-decides a b = decided (Secret-discrete ℕ_discrete a b)

-- ### A stock

in-to : (s : Secret) (xs : List Secret) → in_stock s xs ≡ true → Memᴰ s xs
unfolding in_stock
in-to s [] h = absurd (false≢true h)
in-to s (x ∷ xs) h = elim (or_cases (same_secret x s) (in_stock s xs) h)
    [ inl e ↦ Memᴰ.head (sym ((same-decides x s).0 e)) | inr m ↦ Memᴰ.tail (in-to s xs m) ]

in-from : (s : Secret) (xs : List Secret) → Memᴰ s xs → in_stock s xs ≡ true
unfolding in_stock
in-from s [] m = absurd (Memᴰ.not-nil m)
in-from s (x ∷ xs) m = elim (Memᴰ.cases_cons m)
    [ inl e ↦ or_left (same_secret x s) (in_stock s xs) ((same-decides x s).1 (sym e)) | inr k ↦ or_right (same_secret x s) (in_stock s xs) (in-from s xs k) ]

pub in_stock-decides : (s : Secret) (xs : List Secret) → Decides (in_stock s xs) (Memᴰ s xs)
in_stock-decides s xs = (in-to s xs, in-from s xs)

-- ### Working out

module _ (st : List Secret) where
  stocked : (s : Secret) → in_stock s st ≡ true → Knows st s
  stocked s h = had (in-to s st h)

  works_to : (s : Secret) → works_out st s ≡ true → Knows st s
  unfolding works_out
  works_to shared h = stocked shared h
  works_to (own n) h = stocked (own n) h
  works_to (joint n) h = elim (or_cases (in_stock (joint n) st) (in_stock (own n) st || in_stock (own (suc n)) st) h) [
    | inl e ↦ stocked (joint n) e
    | inr k ↦ elim (or_cases (in_stock (own n) st) (in_stock (own (suc n)) st) k) [ inl e ↦ below (stocked (own n) e) | inr e ↦ above (stocked (own (suc n)) e) ]
  ]
  works_to (mix r j) h = elim (or_cases (in_stock (mix r j) st) (works_out st r && works_out st j) h)
      [ inl e ↦ stocked (mix r j) e | inr k ↦ let both = and_parts (works_out st r) (works_out st j) k in mixed (works_to r both.0) (works_to j both.1) ]
  works_to (root x) h = elim (or_cases (in_stock (root x) st) (works_out st x) h) [ inl e ↦ stocked (root x) e | inr k ↦ rooted (works_to x k) ]
  works_to (chain x) h = elim (or_cases (in_stock (chain x) st) (works_out st x) h) [ inl e ↦ stocked (chain x) e | inr k ↦ chained (works_to x k) ]
  works_to (next c) h = elim (or_cases (in_stock (next c) st) (works_out st c) h) [ inl e ↦ stocked (next c) e | inr k ↦ onward (works_to c k) ]
  works_to (key c) h = elim (or_cases (in_stock (key c) st) (works_out st c) h) [ inl e ↦ stocked (key c) e | inr k ↦ keyed (works_to c k) ]

  -- what is in the stock is worked out, whatever its recipe
  works_had : (s : Secret) → in_stock s st ≡ true → works_out st s ≡ true
  unfolding works_out
  works_had shared h = h
  works_had (own n) h = h
  works_had (joint n) h = or_left (in_stock (joint n) st) _ h
  works_had (mix r j) h = or_left (in_stock (mix r j) st) _ h
  works_had (root x) h = or_left (in_stock (root x) st) _ h
  works_had (chain x) h = or_left (in_stock (chain x) st) _ h
  works_had (next c) h = or_left (in_stock (next c) st) _ h
  works_had (key c) h = or_left (in_stock (key c) st) _ h

  works_from : {s : Secret} → Knows st s → works_out st s ≡ true
  unfolding works_out
  works_from {s} (had m) = works_had s (in-from s st m)
  works_from (below {n} k) = or_right (in_stock (joint n) st) _ (or_left (in_stock (own n) st) _ (works_from k))
  works_from (above {n} k) = or_right (in_stock (joint n) st) _ (or_right (in_stock (own n) st) _ (works_from k))
  works_from (mixed {r} {j} k l) = or_right (in_stock (mix r j) st) _ (and_from (works_out st r) (works_out st j) (works_from k) (works_from l))
  works_from (rooted {x} k) = or_right (in_stock (root x) st) _ (works_from k)
  works_from (chained {x} k) = or_right (in_stock (chain x) st) _ (works_from k)
  works_from (onward {c} k) = or_right (in_stock (next c) st) _ (works_from k)
  works_from (keyed {c} k) = or_right (in_stock (key c) st) _ (works_from k)

pub works_out-decides : (st : List Secret) (s : Secret) → Decides (works_out st s) (Knows st s)
works_out-decides st s = (works_to st s, works_from st)
