-- Runs of marks put into the slots of a side, as lists.
use Rattle.std.proofs.Common.{◌≡◌, ℕ, zero, suc, ◌+◌, ◌-◌, ◌<◌, ◌≤◌, List, ◌++◌, length, get_or, take, drop, set, replicate, sym, refl, ap, ◌∙◌, arith}
use lib.Seq.{paste}
use Rattle.std.proofs.lemmas.List.Edits.{paste_more, take-paste, drop-paste, paste_none, paste-paste}
use Rattle.std.proofs.lemmas.List.{drop-drop, drop-replicate, take_all, length-append}
use Rattle.ratchet.specs.declared.types.Mark.{Mark}
use Rattle.ratchet.specs.State.{places}

pub length-places : (l f n : ℕ) → length (places l f n) ≡ n
unfolding places
length-places l f zero = refl
length-places l f (suc n) = ap suc (length-places l (f + 1) n)

pub length_both : (l f n k g m : ℕ) → length (places l f n ++ places k g m) ≡ n + m
length_both l f n k g m = length-append (places l f n) (places k g m) ∙ omega (arith, length-places l f n, length-places k g m)

pub get_or-places : (l f n i : ℕ) (d : Mark) → i < n → get_or (places l f n) i d ≡ record { link = l; place = f + i }
unfolding places
get_or-places l f zero i d h = absurd (omega arith)
get_or-places l f (suc n) zero d h = let e : f + 0 ≡ f = omega arith in cc
get_or-places l f (suc n) (suc i) d h =
    let e : f + 1 + i ≡ f + suc i = omega arith in let r = get_or-places l (f + 1) n i d (omega arith) in cc

-- one more of a run of marks
pub put_more : (xs : List Mark) (at l f n i : ℕ) → at + i < length xs → i < n →
    set (paste xs at (places l f n) i) (at + i) (record { link = l; place = f + i }) ≡ paste xs at (places l f n) (i + 1)
put_more xs at l f n i h k =
    let d : Mark = record { link = 0; place = 0 } in
    let m = get_or-places l f n i d k in
    let e = paste_more xs at (places l f n) i d h (omega (arith, length-places l f n)) in cc

-- marks put behind those that a side has, z in all: what it then has, and that the slots behind are as blank as they were
module _ (xs ys s : List Mark) (at n z : ℕ) (h : at ≤ length xs) (k : length s ≡ n) (put : ys ≡ paste xs at s n) (all : z ≡ at + n) where
  pub grown_front : take z ys ≡ take at xs ++ s
  grown_front = rw (put, all) (take-paste xs at s n h (omega arith) ∙ ap (λ (l : List Mark). take at xs ++ l) (take_all n s (omega arith)))

  pub grown_rest : (b : Mark) (size : ℕ) → drop at xs ≡ replicate (size - at) b → drop z ys ≡ replicate (size - z) b
  grown_rest b size e =
      let m : size - at - n ≡ size - (at + n) = omega arith in
      rw (put, all) (drop-paste xs at s n h (omega arith)
      ∙ (sym (drop-drop n at xs) ∙ (ap (λ (l : List Mark). drop n l) e ∙ (drop-replicate n (size - at) b ∙ ap (λ (j : ℕ). replicate j b) m))))

-- a run put behind another, which may be none
pub put_both : (xs ys zs s t : List Mark) (at n m : ℕ) → length s ≡ n → length t ≡ m → at ≤ length xs →
    ys ≡ paste xs at s n → zs ≡ paste ys (at + n) t m → zs ≡ paste xs at (s ++ t) (n + m)
put_both xs ys zs s t at n m e f h p q = let both = paste-paste xs at s t n m (sym e) (sym f) h in cc

pub put_none : (xs : List Mark) (at l f n : ℕ) → n ≡ 0 → xs ≡ paste xs at (places l f n) n
put_none xs at l f n e = rw e (paste_none xs at (places l f 0))
