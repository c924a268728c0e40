-- A line that is cut off the rest of a script, with the newline that ends it: where it ends, and what is left.
use Rattle.std.proofs.Common.{◌≡◌, ℕ, ◌+◌, ◌-◌, ◌<◌, ◌≤◌, Bool, true, false, ◌&&◌, min, eqb, List, [], ◌∷◌, ◌++◌, length, get_or, take, drop, sym, ap, ◌∙◌, subst, inl, inr, arith, drop-cons, length-drop}
use denote.Param.Members.{Mut}
use denote.Ref.{Bor}
use Rattle.std.specs.Fn.{Called, ComputesKey, ReturnsEach}
use Rattle.std.specs.List.{IsFirstMatchOrLen}
use Rattle.std.specs.Str.{bytes_eq}
use Rattle.std.proofs.Math.Seq.{take-append_seam, drop-append_seam}
use Rattle.std.proofs.lemmas.List.{take_all, take-append-le, drop_all, drop-drop, drop-take, get_or-drop}
use Rattle.std.proofs.lemmas.Bool.{cases_lt, cond-true, cond-false, eqb-true, eqb-false, ne_eqb}
use Rattle.script.specs.Whole.{EndsLine, line_at, without_newline}

pub record Cut (s : List ℕ) (at : ℕ) (x after : List ℕ) : Type 0 where
  pub end : ℕ
  pub within : at < length s
  pub ends : EndsLine s at end
  pub line : without_newline x ≡ line_at s at end
  pub onward : after ≡ drop (end + 1) s

-- the first newline of what is left is i on, or there is none
module _ (s : List ℕ) (at : ℕ) (rest x after : List ℕ) (i : ℕ) (is : rest ≡ drop at s) (cut : rest ≡ x ++ after) (first : IsFirstMatchOrLen (λ b. eqb b 10) rest i) (some : 0 < length rest) where
  left : length rest ≡ length s - at
  left = ap length is ∙ length-drop at s

  here : (k : ℕ) → get_or rest k 0 ≡ get_or s (at + k) 0
  here k = ap (λ (l : List ℕ). get_or l k 0) is ∙ get_or-drop at s k 0

  front : (n : ℕ) → length x ≡ n → x ≡ take n rest
  front n e = sym (ap (λ (l : List ℕ). take n l) cut ∙ (ap (λ (m : ℕ). take m (x ++ after)) (sym e) ∙ take-append_seam x after))

  back : (n : ℕ) → length x ≡ n → after ≡ drop (at + n) s
  back n e =
      sym (drop-append_seam x after) ∙ (ap (λ (m : ℕ). drop m (x ++ after)) e ∙ (ap (λ (l : List ℕ). drop n l) (sym cut) ∙ (ap (λ (l : List ℕ). drop n l) is ∙ drop-drop n at s)))

  none-before : (j k : ℕ) → j ≤ i → at ≤ k → k < at + j → get_or s k 0 ≡ 10 → ⊥
  none-before j k le h l =
      let m : at + (k - at) ≡ k = omega arith in
      let e = here (k - at) ∙ ap (λ (n : ℕ). get_or s n 0) m in
      subst (λ (b : ℕ). b ≡ 10 → ⊥) e (eqb-false _ 10 (first.0 (k - at) 0 (omega arith) (omega arith)))

  whole : (j : ℕ) → j ≤ i → j ≤ length rest → (j < length rest → get_or rest j 0 ≡ 10) → EndsLine s at (at + j)
  whole j le h ended = record {
    from = omega arith;
    bound = omega (arith, left);
    whole = λ k a b. none-before j k le a b;
    ended = λ l. sym (here j) ∙ ended (omega (arith, left));
  }

  -- the bytes of the line, at its place in the script
  taken : (j : ℕ) → line_at s at (at + j) ≡ take j rest
  taken j = let e : at + j - at ≡ j = omega arith in ap (λ (n : ℕ). take n (drop at s)) e ∙ ap (λ (l : List ℕ). take j l) (sym is)

  last : (n : ℕ) → n < length rest → length x ≡ n + 1 → drop (length x - 1) x ≡ get_or rest n 0 ∷ []
  last n h e =
      let m : length x - 1 ≡ n = omega arith in
      ap (λ (k : ℕ). drop k x) m ∙ (ap (λ (l : List ℕ). drop n l) (front (n + 1) e) ∙ (drop-take n 1 rest ∙ ap (λ (l : List ℕ). take 1 l) (drop-cons rest n 0 h)))

  with-newline : i < length rest → length x ≡ i + 1 → Cut s at x after
  with-newline h e =
      let newline = eqb-true _ 10 (first.1 h 0) in
      let m : length x - 1 ≡ i = omega arith in
      let test : bytes_eq (drop (length x - 1) x) (10 ∷ []) ≡ true = ap (λ (l : List ℕ). bytes_eq l (10 ∷ [])) (last i h e ∙ ap (λ (b : ℕ). b ∷ []) newline) in
      let shorter : take (length x - 1) x ≡ take i rest = ap (λ (k : ℕ). take k x) m ∙ (sym (take-append-le i x after (omega arith)) ∙ ap (λ (l : List ℕ). take i l) (sym cut)) in
      record {
        end = at + i;
        within = omega (arith, left);
        ends = whole i (omega arith) (omega arith) (λ l. newline);
        line = cond-true _ (take (length x - 1) x) x test ∙ (shorter ∙ sym (taken i));
        onward = back (i + 1) e ∙ ap (λ (k : ℕ). drop k s) (omega arith);
      }

  without : length rest ≤ i → length x ≡ length rest → Cut s at x after
  without h e =
      let n = length rest in
      let m : n - 1 + 1 ≡ n = omega arith in
      let other = eqb-false _ 10 (first.0 (n - 1) 0 (omega arith) (omega arith)) in
      let all : x ≡ rest = front n e ∙ take_all n rest (omega arith) in
      let test : bytes_eq (drop (length x - 1) x) (10 ∷ []) ≡ false =
      ap (λ (l : List ℕ). bytes_eq l (10 ∷ [])) (last (n - 1) (omega arith) (e ∙ sym m)) ∙ ap (λ b. b && true) (ne_eqb _ 10 other) in
      record {
        end = at + n;
        within = omega (arith, left);
        ends = whole n h (omega arith) (λ l. absurd (omega arith));
        line = cond-false _ (take (length x - 1) x) x test ∙ (all ∙ (sym (take_all n rest (omega arith)) ∙ sym (taken n)));
        onward = back n e ∙ (drop_all (at + n) s (omega (arith, left)) ∙ sym (drop_all (at + n + 1) s (omega (arith, left))));
      }

  pub cut-line : length x ≡ min (i + 1) (length rest) → Cut s at x after
  cut-line len = elim (cases_lt i (length rest)) [
    | inl h ↦ with-newline h (omega (arith, len))
    | inr h ↦ without h (omega (arith, len))
  ]

-- a closure that answers by a test at each call computes that test
pub computes : {F X : Type 0} {g : Mut F (Bor X × Unit {0}) Bool} (p : X → Bool) →
    ((a : Bor X × Unit {0}) (r : Bool) (f f' : F) → Called g f a r f' → r ≡ p a.0.now) → (f : F) → ComputesKey g p f
computes {F = F} {X = X} {g = g} p h f = record { at = λ xs. each xs f }
  where
    each : (xs : List (Bor X × Unit {0})) (f : F) → ReturnsEach g (λ a r. r ≡ p a.0.now) f xs
    each [] f = tt
    each (a ∷ xs) f = λ r f' k. (h a r f f' k, each xs f')
