-- Two lists compared without a way out at the first difference: the differences are gathered by `or`.
use Rattle.std.proofs.Common.{◌≡◌, ℕ, List, [], ◌∷◌, ◌++◌, length, map, nat_eq, sym, refl, ap, ◌∙◌, arith}
use lib.Bits.{bit_and, bit_or, bit_xor, or_add_and, xor_add_and, and_le_l, and_le_r, and_self}
use Rattle.std.specs.Bool.{Decides}
use Rattle.std.specs.List.{zip}
use Rattle.std.proofs.lemmas.Bool.Decides.{Decides-eqb, Decides-like}
use Rattle.std.proofs.lemmas.List.{same_from_push, map-append}
use Rattle.std.proofs.lemmas.Slice.Zip.{firsts-zip, seconds-zip}

bit_or-none : (a b : ℕ) → bit_or a b ≡ 0 → (a ≡ 0) × (b ≡ 0)
bit_or-none a b e =
    let sum = or_add_and a b in
    let left = and_le_l a b in
    let right = and_le_r a b in
    (omega arith, omega arith)

or_nones : (a b : ℕ) → a ≡ 0 → b ≡ 0 → bit_or a b ≡ 0
or_nones a b e f = let sum = or_add_and a b in omega arith

xor_none : (a b : ℕ) → bit_xor a b ≡ 0 → a ≡ b
xor_none a b e =
    let sum = xor_add_and a b in
    let left = and_le_l a b in
    let right = and_le_r a b in
    omega arith

xor_same : (a b : ℕ) → a ≡ b → bit_xor a b ≡ 0
xor_same a b e =
    let sum = xor_add_and a b in
    let self : bit_and a b ≡ a = ap (bit_and a) (sym e) ∙ and_self a in
    omega arith

abbrev firsts : List (ℕ × ℕ) → List ℕ
firsts pairs = map (λ (p : ℕ × ℕ). p.0) pairs

abbrev seconds : List (ℕ × ℕ) → List ℕ
seconds pairs = map (λ (p : ℕ × ℕ). p.1) pairs

-- what was gathered from some pairs says whether each is of two the same
pub record Agree (pairs : List (ℕ × ℕ)) (gathered : ℕ) : Type 0 where
  pub forth : gathered ≡ 0 → firsts pairs ≡ seconds pairs
  pub back : firsts pairs ≡ seconds pairs → gathered ≡ 0

pub agree-none : Agree [] 0
agree-none = record { forth = λ _. refl; back = λ _. refl }

pub agree-more : (pairs : List (ℕ × ℕ)) (g x y more : ℕ) → more ≡ bit_or g (bit_xor x y) → Agree pairs g → Agree (pairs ++ ((x, y) ∷ [])) more
agree-more pairs g x y more is so_far =
    let left = map-append (λ (p : ℕ × ℕ). p.0) pairs ((x, y) ∷ []) in
    let right = map-append (λ (p : ℕ × ℕ). p.1) pairs ((x, y) ∷ []) in
    record {
      forth = λ e. (
          let none = bit_or-none g (bit_xor x y) (sym is ∙ e) in
          let before = so_far.forth none.0 in
          let here = xor_none x y none.1 in
          cc
          );
      back = λ e. (
          let pushed : firsts pairs ++ x ∷ [] ≡ seconds pairs ++ y ∷ [] = sym left ∙ e ∙ right in
          let both = same_from_push (firsts pairs) (seconds pairs) x y pushed in
          is ∙ or_nones g (bit_xor x y) (so_far.back both.0) (xor_same x y both.1)
          );
    }

-- gathered from all pairs of two lists of one length: they are the same, or not
pub agree-all : (g : ℕ) (xs ys : List ℕ) → length xs ≡ length ys → Agree (zip xs ys) g → Decides (nat_eq g 0) (xs ≡ ys)
agree-all g xs ys long agree =
    let left = firsts-zip xs ys (sym long) in
    let right = seconds-zip xs ys (sym long) in
    Decides-like _ (λ e. sym left ∙ agree.forth e ∙ right) (λ e. agree.back (left ∙ e ∙ sym right)) (Decides-eqb g 0)
