-- Texts and numbers as scripts write them: the steps of their loops.
use Rattle.std.proofs.Common.{◌≡◌, ℕ, ◌+◌, ◌<◌, ◌≤◌, false, eqb, List, [], ◌∷◌, ◌++◌, length, get_or, take, Some, None, fold, Option, sym, refl, ap, ◌∙◌}
use Rattle.std.specs.List.{flat_map}
use Rattle.std.proofs.lemmas.List.{take_more, take_all, flat_map_more}
use Rattle.std.proofs.lemmas.List.Sums.{fold_more}
use Rattle.std.proofs.lemmas.Bool.{true≢false}
use Rattle.notation.specs.Decimals.{digit_after, number_of}
use Rattle.notation.specs.declared.text.Escape.{Escape}
use Rattle.notation.specs.declared.text.Escape.TheVariants.{Plain, Slash, Hex, Digit, Bad}
use Rattle.notation.specs.Escapes.{escaped, escaped_byte, Scan, scan, scanned, after, emitted, ended, unescaped}

pub escaped-more : (bs xs : List ℕ) (i : ℕ) → i < length xs → bs ++ escaped (take i xs) ++ escaped_byte (get_or xs i 0) ≡ bs ++ escaped (take (i + 1) xs)
escaped-more bs xs i h =
    flat_map_more escaped_byte bs (take i xs) (get_or xs i 0) ∙ ap (λ (l : List ℕ). bs ++ flat_map escaped_byte l) (sym (take_more xs i 0 h))

-- a loop that folds, at its end
pub folded_all : {A B : Type 0} (f : B → A → B) (a : B) (xs : List A) (i : ℕ) → length xs ≤ i → fold f a (take i xs) ≡ fold f a xs
folded_all f a xs i h = ap (fold f a) (take_all i xs h)

pub number-some : (xs : List ℕ) → eqb (length xs) 0 ≡ false → number_of xs ≡ fold digit_after (Some 0) xs
number-some [] e = absurd (true≢false e)
number-some (x ∷ xs) e = refl

-- the reading of a text: one byte more, and the end
module _ (e : Escape) (t raw : List ℕ) (i : ℕ) (read : ◌≡◌ {A = Scan} (record { escape = e; text = t }) (scanned (take i raw))) where
  pub scan_more : (f : Escape) (u : List ℕ) → i < length raw → u ≡ t ++ emitted e (get_or raw i 0) → f ≡ after e (get_or raw i 0) →
      ◌≡◌ {A = Scan} (record { escape = f; text = u }) (scanned (take (i + 1) raw))
  scan_more f u h p q =
      let b = get_or raw i 0 in
      let here : ◌≡◌ {A = Scan} (record { escape = f; text = u }) (scan (record { escape = e; text = t }) b) = λ j. record { escape = q j; text = p j } in
      here ∙ (ap (λ (s : Scan). scan s b) read ∙ sym (fold_more scan (record { escape = Plain; text = [] }) raw i 0 h))

  scan_all : length raw ≤ i → ended e t ≡ unescaped raw
  scan_all h = ap (λ (s : Scan). ended s.escape s.text) (read ∙ folded_all scan (record { escape = Plain; text = [] }) raw i h)

  pub scan_ends : length raw ≤ i → e ≡ Plain → Some t ≡ unescaped raw
  scan_ends h is = ap (λ (x : Escape). ended x t) (sym is) ∙ scan_all h

  pub scan_fails : length raw ≤ i → (e ≡ Plain → ⊥) → ◌≡◌ {A = Option (List ℕ)} None (unescaped raw)
  scan_fails h not = sym (none e not) ∙ scan_all h
    where
      none : (x : Escape) → (x ≡ Plain → ⊥) → ◌≡◌ {A = Option (List ℕ)} (ended x t) None
      none Plain n = absurd (n refl)
      none Slash n = refl
      none Hex n = refl
      none (Digit h) n = refl
      none Bad n = refl
