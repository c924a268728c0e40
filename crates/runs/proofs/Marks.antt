-- Marks put aside: which are there after some are added, or one is taken away.
use Rattle.std.proofs.Common.{◌≡◌, ℕ, zero, suc, ◌+◌, ◌<◌, ◌≤◌, true, false, ◌||◌, ◌⊎◌, List, [], ◌∷◌, ◌++◌, sym, refl, ap, ◌∙◌, inl, inr, arith}
use Rattle.std.proofs.lemmas.Bool.{false≢true, both_ways, or_cases, or_left, or_right, or_from, cases_Bool, cases_eq, cond-true, cond-false, cond_both}
use Rattle.ratchet.specs.declared.types.Mark.{Mark}
use Rattle.ratchet.specs.Same.{same_mark}
use Rattle.ratchet.specs.State.{has, without, places}
use Rattle.runs.proofs.Bools.{or_assoc}
use Rattle.runs.proofs.Messages.{same-mark, mark-same}

-- not being there, as a test
pub has-not : (a : Mark) (xs : List Mark) → (has a xs ≡ true → ⊥) → has a xs ≡ false
has-not a xs h = elim (cases_Bool (has a xs)) [ inl t ↦ absurd (h t) | inr f ↦ f ]

-- ### Two lists

pub has-append : (a : Mark) (xs ys : List Mark) → has a (xs ++ ys) ≡ (has a xs || has a ys)
unfolding has
has-append a [] ys = refl
has-append a (x ∷ xs) ys = rw (has-append a xs ys, or_assoc (same_mark x a) (has a xs) (has a ys))

pub has_either : (a : Mark) (xs ys : List Mark) → has a (xs ++ ys) ≡ true → (has a xs ≡ true) ⊎ (has a ys ≡ true)
has_either a xs ys h = or_cases (has a xs) (has a ys) (sym (has-append a xs ys) ∙ h)

pub has_left : (a : Mark) (xs ys : List Mark) → has a xs ≡ true → has a (xs ++ ys) ≡ true
has_left a xs ys h = has-append a xs ys ∙ or_left (has a xs) _ h

pub has_right : (a : Mark) (xs ys : List Mark) → has a ys ≡ true → has a (xs ++ ys) ≡ true
has_right a xs ys h = has-append a xs ys ∙ or_right (has a xs) _ h

-- ### Places of a link

pub record Placed (l f n : ℕ) (a : Mark) : Type 0 where
  pub link : a.link ≡ l
  pub from : f ≤ a.place
  pub below : a.place < f + n

pub placed : (a : Mark) (l f n : ℕ) → has a (places l f n) ≡ true → Placed l f n a
unfolding has places
placed a l f zero h = absurd (false≢true h)
placed a l f (suc n) h = elim (or_cases (same_mark (record { link = l; place = f }) a) _ h) [
  | inl e ↦ let s = same-mark (record { link = l; place = f }) a e in
      record { link = sym (ap (λ m. m.link) s); from = omega (arith, ap (λ m. m.place) s); below = omega (arith, ap (λ m. m.place) s) }
  | inr k ↦ let r = placed a l (f + 1) n k in record { link = r.link; from = omega arith; below = omega arith }
]

pub place-has : (a : Mark) (l f n : ℕ) → Placed l f n a → has a (places l f n) ≡ true
unfolding has places
place-has a l f zero p = absurd (omega arith)
place-has a l f (suc n) p = elim (cases_eq f a.place) [
  | inl e ↦ or_left (same_mark (record { link = l; place = f }) a) _ (mark-same (record { link = l; place = f }) a (λ i. record { link = sym p.link i; place = e i }))
  | inr d ↦ or_right (same_mark (record { link = l; place = f }) a) _ (place-has a l (f + 1) n (record { link = p.link; from = omega arith; below = omega arith }))
]

-- ### One taken away

pub without-had : (a m : Mark) (xs : List Mark) → has a (without m xs) ≡ true → has a xs ≡ true
unfolding has without
without-had a m [] h = h
without-had a m (x ∷ xs) h = elim (cases_Bool (same_mark x m)) [
  | inl t ↦ or_right (same_mark x a) _ (rw (cond-true (same_mark x m) xs (x ∷ without m xs) t) at h)
  | inr f ↦ elim (or_cases (same_mark x a) (has a (without m xs)) (rw (cond-false (same_mark x m) xs (x ∷ without m xs) f) at h))
      [ inl e ↦ or_left (same_mark x a) _ e | inr k ↦ or_right (same_mark x a) _ (without-had a m xs k) ]
]

pub without_other : (a m : Mark) (xs : List Mark) → (a ≡ m → ⊥) → has a xs ≡ true → has a (without m xs) ≡ true
unfolding has without
without_other a m [] d h = h
without_other a m (x ∷ xs) d h =
    cond_both (same_mark x m) xs (x ∷ without m xs) (λ zs. has a zs ≡ true)
    (λ t. elim (or_cases (same_mark x a) (has a xs) h) [ inl e ↦ absurd (d (sym (same-mark x a e) ∙ same-mark x m t)) | inr k ↦ k ])
    (λ f. elim (or_cases (same_mark x a) (has a xs) h)
    [ inl e ↦ or_left (same_mark x a) _ e | inr k ↦ or_right (same_mark x a) _ (without_other a m xs d k) ])

-- ### None twice

abbrev pub Apart : List Mark → Type 0
Apart [] = Unit {0}
Apart (x ∷ xs) = (has x xs ≡ false) × Apart xs

pub without_gone : (m : Mark) (xs : List Mark) → Apart xs → has m (without m xs) ≡ false
unfolding has without
without_gone m [] h = refl
without_gone m (x ∷ xs) h =
    cond_both (same_mark x m) xs (x ∷ without m xs) (λ zs. has m zs ≡ false)
    (λ t. rw (same-mark x m t) at h.0) (λ f. or_from (same_mark x m) _ f (without_gone m xs h.1))

pub apart-without : (m : Mark) (xs : List Mark) → Apart xs → Apart (without m xs)
unfolding without
apart-without m [] h = tt
apart-without m (x ∷ xs) h =
    cond_both (same_mark x m) xs (x ∷ without m xs) Apart (λ t. h.1)
    (λ f. (has-not x (without m xs) (λ t. both_ways (has x xs) h.0 (without-had x m xs t)), apart-without m xs h.1))

pub apart-append : (xs ys : List Mark) → Apart xs → Apart ys → ((a : Mark) → has a xs ≡ true → has a ys ≡ true → ⊥) → Apart (xs ++ ys)
unfolding has
apart-append [] ys hx hy d = hy
apart-append (x ∷ xs) ys hx hy d = (
  has-append x xs ys ∙ or_from (has x xs) (has x ys) hx.0 (has-not x ys (d x (or_left (same_mark x x) _ (mark-same x x refl)))),
  apart-append xs ys hx.1 hy (λ a p q. d a (or_right (same_mark x a) _ p) q),
)

pub apart-places : (l f n : ℕ) → Apart (places l f n)
unfolding places
apart-places l f zero = tt
apart-places l f (suc n) =
    (has-not (record { link = l; place = f }) (places l (f + 1) n) (λ t. let p = placed (record { link = l; place = f }) l (f + 1) n t in omega arith), apart-places l (f + 1) n)
