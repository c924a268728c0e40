-- Keys that are numbers: their halves, and what two of them give.
use Rattle.std.proofs.Common.{◌≡◌, ℕ, ◌+◌, ◌/◌, ◌%◌, true, false, eqb, ◌⊎◌, List, ◌++◌, get_or, take, set, replicate, Some, None, sym, refl, ap, ◌∙◌, inl, inr, arith}
use borrow.Rule.Slice.PartMut.{put_mid}
use denote.Enum.Declared.{tag_of}
use Rattle.std.proofs.lemmas.Bool.{cases_lt, eq-eqb, ne_eqb}
use Rattle.runs.specs.contracts.types.Who.{the_type}
use Rattle.runs.specs.declared.types.Who.{Who}
use Rattle.runs.specs.declared.types.Who.TheVariants.{First, Second}
use Rattle.keybox.specs.Numbers.{eight, key_of, number_half, number_joint}

-- a side as `as` numbers it
abbrev pub number : Who → ℕ
number who = tag_of the_type who

pub side-is : (who : Who) (d : ℕ) → key_of who d % 2 ≡ number who
side-is First d = omega arith
side-is Second d = omega arith

draw_is : (who : Who) (d : ℕ) → key_of who d / 2 ≡ d
draw_is First d = omega arith
draw_is Second d = omega arith

pub half-put : (who : Who) (d : ℕ) (b : List ℕ) → b ≡ eight d → put_mid 8 8 (set (replicate 32 0) 0 (number who)) b ≡ number_half (key_of who d)
unfolding number_half
half-put who d b f =
    let s = side-is who d in
    let t = ap eight (draw_is who d) in
    cc

-- what a key gives with a half: nothing if that is not the other side's, else the first's name and the second's
pub joint-none : (k : ℕ) (h : List ℕ) → (get_or h 0 0 + k % 2 ≡ 1 → ⊥) → number_joint k h ≡ None
unfolding number_joint
joint-none k h apart = let no_one = ne_eqb (get_or h 0 0 + k % 2) 1 apart in simp no_one

pub joint-first : (k : ℕ) (h : List ℕ) → k % 2 ≡ 0 → get_or h 0 0 ≡ 1 → number_joint k h ≡ Some (take 16 (number_half k) ++ take 16 h)
unfolding number_joint
joint-first k h e f =
    let taken : eqb (get_or h 0 0 + k % 2) 1 ≡ true = eq-eqb _ _ (omega arith) in
    let mine : eqb (k % 2) 0 ≡ true = eq-eqb _ _ e in
    simp (taken, mine)

pub joint-second : (k : ℕ) (h : List ℕ) → k % 2 ≡ 1 → get_or h 0 0 ≡ 0 → number_joint k h ≡ Some (take 16 h ++ take 16 (number_half k))
unfolding number_joint
joint-second k h e f =
    let taken : eqb (get_or h 0 0 + k % 2) 1 ≡ true = eq-eqb _ _ (omega arith) in
    let other : eqb (k % 2) 0 ≡ false = ne_eqb _ _ (λ z. omega arith) in
    simp (taken, other)

-- the same of the key of a draw
pub joined-first : (d : ℕ) (h own r : List ℕ) → get_or h 0 0 ≡ 1 → own ≡ number_half (key_of First d) → r ≡ take 16 own ++ take 16 h → Some r ≡ number_joint (key_of First d) h
joined-first d h own r f mine is = let e = joint-first (key_of First d) h (side-is First d) f in cc

pub joined-second : (d : ℕ) (h own r : List ℕ) → get_or h 0 0 ≡ 0 → own ≡ number_half (key_of Second d) → r ≡ take 16 h ++ take 16 own → Some r ≡ number_joint (key_of Second d) h
joined-second d h own r f mine is = let e = joint-second (key_of Second d) h (side-is Second d) f in cc

pub refuses : (who : Who) (d : ℕ) (h : List ℕ) → (get_or h 0 0 + number who ≡ 1 → ⊥) → None ≡ number_joint (key_of who d) h
refuses who d h apart = sym (joint-none (key_of who d) h (λ z. apart (omega (arith, side-is who d))))

half-side : (k : ℕ) → get_or (number_half k) 0 0 ≡ k % 2
unfolding number_half
half-side k = refl

parity : (n : ℕ) → (n % 2 ≡ 0) ⊎ (n % 2 ≡ 1)
parity n = elim (cases_lt (n % 2) 1) [ inl l ↦ inl (omega arith) | inr g ↦ inr (omega arith) ]

same_side : (a b : ℕ) → a % 2 ≡ b % 2 → number_joint a (number_half b) ≡ None
same_side a b e = joint-none a (number_half b) (λ h. omega (arith, half-side b))

other-side : (a b : ℕ) → a % 2 ≡ 0 → b % 2 ≡ 1 → number_joint a (number_half b) ≡ number_joint b (number_half a)
other-side a b e f = joint-first a (number_half b) e (half-side b ∙ f) ∙ sym (joint-second b (number_half a) f (half-side a ∙ e))

pub agree : (a b : ℕ) → number_joint a (number_half b) ≡ number_joint b (number_half a)
agree a b =
    elim (parity a) [
      | inl e ↦ elim (parity b) [ inl f ↦ same_side a b (e ∙ sym f) ∙ sym (same_side b a (f ∙ sym e)) | inr f ↦ other-side a b e f ]
      | inr e ↦ elim (parity b) [ inl f ↦ sym (other-side b a f e) | inr f ↦ same_side a b (e ∙ sym f) ∙ sym (same_side b a (f ∙ sym e)) ]
    ]
