-- Marks in order of link and place.
use Rattle.std.proofs.Common.{◌≡◌, ℕ, zero, suc, ◌+◌, ◌<◌, ◌≤◌, true, false, List, [], ◌∷◌, ◌++◌, length, get_or, Decides, sym, refl, ◌∙◌, subst, inl, inr, arith, Bool, nat_lt, ◌==◌, ◌||◌, ◌&&◌}
use Rattle.std.specs.List.{AllByRecursion as All, IsAllAdjacentAnswer}
use Rattle.std.proofs.ByRecursion.{All-get_or, All-weaker, All-append}
use Rattle.std.proofs.lemmas.Bool.{false≢true, cond_both}
use Rattle.std.proofs.lemmas.Bool.Decides.{nat_tests}
use Rattle.ratchet.specs.Blank.{blank}
use Rattle.ratchet.specs.declared.types.Mark.{Mark}
use Rattle.ratchet.specs.Same.{same_mark}
use Rattle.ratchet.specs.State.{places, without}
use Rattle.page.specs.Valid.{Below, Rising}

pub decides_no : {P : Type 0} → (P → ⊥) → Decides false P
decides_no never = ((λ e. absurd (false≢true e)), (λ p. absurd (never p)))

pub decides_yes : {P : Type 0} → P → Decides true P
decides_yes p = ((λ _. p), (λ _. refl))

pub below_on : (a b c : Mark) → Below a b → Below b c → Below a c
below_on a b c (inl h) (inl k) = inl (omega arith)
below_on a b c (inl h) (inr k) = inl (omega (arith, k.0))
below_on a b c (inr h) (inl k) = inl (omega (arith, h.0))
below_on a b c (inr h) (inr k) = inr (h.0 ∙ k.0, omega (arith, h.1, k.1))

-- as the order of marks tests it
abbrev pub lower : Mark → Mark → Bool
lower a b = nat_lt a.link b.link || (a.link == b.link && nat_lt a.place b.place)

lower_Decides : (a b : Mark) → Decides (lower a b) (Below a b)
lower_Decides a b = (λ e. grind (arith, nat_tests), λ h. grind (arith, nat_tests))

abbrev Neighbours : List Mark → Type 0
Neighbours ms = (k : ℕ) (d : Mark) → suc k < length ms → Below (get_or ms k d) (get_or ms (suc k) d)

all_above : (m : Mark) (ms : List Mark) → Neighbours (m ∷ ms) → All (Below m) ms
all_above m [] h = tt
all_above m (x ∷ xs) h =
    let first = h 0 m (omega arith) in
    (first, All-weaker (Below x) (Below m) (λ y above. below_on m x y first above) xs (all_above x xs (λ k d l. h (suc k) d (omega arith))))

rising : (ms : List Mark) → Neighbours ms → Rising ms
rising [] h = tt
rising (m ∷ ms) h = (all_above m ms h, rising ms (λ k d l. h (suc k) d (omega arith)))

neighbours : (ms : List Mark) → Rising ms → Neighbours ms
neighbours [] h k d l = absurd (omega arith)
neighbours (m ∷ ms) h zero d l = All-get_or (Below m) ms 0 d (omega arith) h.0
neighbours (m ∷ ms) h (suc k) d l = neighbours ms h.1 k d (omega arith)

-- neighbour by neighbour
pub rising_answer : (ms : List Mark) (r : Bool) → IsAllAdjacentAnswer (λ x y b. b ≡ lower x y) ms r → Decides r (Rising ms)
rising_answer ms true h = decides_yes (rising ms (λ k d l.
    let e : k + 1 ≡ suc k = omega arith in
    subst (λ j. Below (get_or ms k d) (get_or ms j d)) e ((lower_Decides (get_or ms k d) (get_or ms (k + 1) d)).0 (sym (h k d (omega arith))))))
rising_answer ms false h = decides_no (λ up.
    let e : suc h.0 ≡ h.0 + 1 = omega arith in
    let below = subst (λ j. Below (get_or ms h.0 blank) (get_or ms j blank)) e (neighbours ms up h.0 blank (omega (arith, h.1))) in
    false≢true (h.2 blank ∙ (lower_Decides (get_or ms h.0 blank) (get_or ms (h.0 + 1) blank)).1 below))

-- ### Marks put behind others, and taken out

pub rising-append : (xs ys : List Mark) → Rising xs → Rising ys → All (λ x. All (Below x) ys) xs → Rising (xs ++ ys)
rising-append [] ys hx hy h = hy
rising-append (x ∷ xs) ys hx hy h = (All-append (Below x) xs ys hx.0 h.0, rising-append xs ys hx.1 hy h.1)

-- the places of a link
pub all-places : (P : Mark → Type 0) (l f n : ℕ) → ((p : ℕ) → f ≤ p → p < f + n → P (record { link = l; place = p })) → All P (places l f n)
unfolding places
all-places P l f zero h = tt
all-places P l f (suc n) h = (h f (omega arith) (omega arith), all-places P l (f + 1) n (λ p a b. h p (omega arith) (omega arith)))

pub rising-places : (l f n : ℕ) → Rising (places l f n)
unfolding places
rising-places l f zero = tt
rising-places l f (suc n) = (all-places (Below (record { link = l; place = f })) l (f + 1) n (λ p a b. inr (refl, omega arith)), rising-places l (f + 1) n)

-- one taken out
pub all_without : (P : Mark → Type 0) (m : Mark) (xs : List Mark) → All P xs → All P (without m xs)
unfolding without
all_without P m [] h = tt
all_without P m (x ∷ xs) h = cond_both (same_mark x m) xs (x ∷ without m xs) (All P) (λ _. h.1) (λ _. (h.0, all_without P m xs h.1))

pub rising-without : (m : Mark) (xs : List Mark) → Rising xs → Rising (without m xs)
unfolding without
rising-without m [] h = tt
rising-without m (x ∷ xs) h = cond_both (same_mark x m) xs (x ∷ without m xs) Rising (λ _. h.1) (λ _. (all_without (Below x) m xs h.0, rising-without m xs h.1))

pub without-few : (m : Mark) (xs : List Mark) → length (without m xs) ≤ length xs
unfolding without
without-few m [] = omega arith
without-few m (x ∷ xs) = cond_both (same_mark x m) xs (x ∷ without m xs) (λ (l : List Mark). length l ≤ suc (length xs)) (λ _. omega arith) (λ _. omega (arith, without-few m xs))

pub without-none : (m : Mark) → without m [] ≡ []
unfolding without
without-none m = refl
