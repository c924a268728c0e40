-- One thing taken out of some slots: what stands in them then, whatever they hold.
use Rattle.std.proofs.Common.{◌≡◌, ℕ, suc, ◌+◌, ◌-◌, ◌<◌, ◌≤◌, List, [], ◌∷◌, ◌++◌, length, get_or, take, drop, set, replicate, sym, refl, ap, ◌∙◌, arith, drop-cons}
use borrow.Rule.Slice.PartMut.{put_mid}
use Rattle.std.specs.List.{remove}
use Rattle.std.proofs.lemmas.List.Edits.{paste_all}
use Rattle.std.proofs.lemmas.Slice.{put_mid-paste}
use Rattle.std.proofs.lemmas.List.{append_assoc, append-nil, drop_all, take_rest, set_at, take_at, drop_at, length-append, length-drop, length-take-le}

-- one taken out of its place: those behind it move down, and the last is overwritten
module _ {A : Type 0} (xs : List A) (i : ℕ) (h : i < length xs) (b : A) where
  pub rotated : (ys : List A) → ys ≡ drop 1 (take (length xs - i) (drop i xs)) ++ take 1 (take (length xs - i) (drop i xs)) →
      set (put_mid i (length xs - i) xs ys) (length xs - 1) b ≡ remove xs i ++ b ∷ []
  rotated ys e =
      let x = get_or xs i b in
      let t = drop (suc i) xs in
      let part = take_rest xs i in
      let front : drop i xs ≡ x ∷ t = drop-cons xs i b h in
      let ys-is : ys ≡ t ++ x ∷ [] = e ∙ ap (λ (l : List A). drop 1 l ++ take 1 l) (part ∙ front) in
      let len_t : length t ≡ length xs - suc i = length-drop (suc i) xs in
      let len-ys : length ys ≡ length xs - i = ap length ys-is ∙ (length-append t (x ∷ []) ∙ omega arith) in
      let whole : put_mid i (length xs - i) xs ys ≡ take i xs ++ ys =
      put_mid-paste i (length xs - i) xs ys ys (length xs - i) refl refl (sym len-ys) ∙ (paste_all xs i ys (length xs - i) (sym len-ys)
      ∙ ap (λ (l : List A). take i xs ++ l) (ap (λ (l : List A). ys ++ l) (drop_all (i + (length xs - i)) xs (omega arith)) ∙ append-nil ys)) in
      let split : put_mid i (length xs - i) xs ys ≡ remove xs i ++ x ∷ [] =
      whole ∙ (ap (λ (l : List A). take i xs ++ l) ys-is ∙ sym (append_assoc (take i xs) t (x ∷ []))) in
      let len : length (remove xs i) ≡ length xs - 1 = length-append (take i xs) t ∙ omega (arith, length-take-le i xs (omega arith)) in
      ap (λ (l : List A). set l (length xs - 1) b) split ∙ set_at (remove xs i) x [] b (length xs - 1) len

pub length_removed : {A : Type 0} (xs : List A) (i : ℕ) → i < length xs → length (remove xs i) ≡ length xs - 1
length_removed xs i h = length-append (take i xs) (drop (suc i) xs) ∙ omega (arith, length-take-le i xs (omega arith), length-drop (suc i) xs)

-- one fewer in use, and one blank slot more
module _ {A : Type 0} (xs ys : List A) (n i : ℕ) (b : A) (h : i < n) (k : n ≤ length xs) (e : ys ≡ remove (take (n - 0) xs) i ++ b ∷ []) where
  shrunk : put_mid 0 (n - 0) xs ys ≡ remove (take n xs) i ++ (b ∷ drop n xs)
  shrunk =
      let z : n - 0 ≡ n = omega arith in
      let is : ys ≡ remove (take n xs) i ++ b ∷ [] = e ∙ ap (λ (j : ℕ). remove (take j xs) i ++ b ∷ []) z in
      ap (λ (j : ℕ). ys ++ drop j xs) z ∙ (ap (λ (l : List A). l ++ drop n xs) is ∙ append_assoc (remove (take n xs) i) (b ∷ []) (drop n xs))

  long : length (remove (take n xs) i) ≡ n - 1
  long = let l = length-take-le n xs k in length_removed (take n xs) i (omega arith) ∙ omega arith

  pub shrunk_front : take (n - 1) (put_mid 0 (n - 0) xs ys) ≡ remove (take n xs) i
  shrunk_front = ap (λ (l : List A). take (n - 1) l) shrunk ∙ take_at (remove (take n xs) i) (b ∷ drop n xs) (n - 1) long

  pub shrunk_rest : (size : ℕ) → n ≤ size → drop n xs ≡ replicate (size - n) b → drop (n - 1) (put_mid 0 (n - 0) xs ys) ≡ replicate (size - (n - 1)) b
  shrunk_rest size le r =
      let m : suc (size - n) ≡ size - (n - 1) = omega arith in
      ap (λ (l : List A). drop (n - 1) l) shrunk ∙ (drop_at (remove (take n xs) i) (b ∷ drop n xs) (n - 1) long
      ∙ (ap (λ (l : List A). b ∷ l) r ∙ ap (λ (j : ℕ). replicate j b) m))
