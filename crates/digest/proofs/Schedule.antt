-- The schedule of a block's words, and the rounds, a step at a time.
use Rattle.std.proofs.Common.{◌≡◌, ℕ, zero, suc, ◌+◌, ◌-◌, ◌<◌, ◌≤◌, List, [], ◌∷◌, ◌++◌, length, get_or, drop, sym, refl, ap, ◌∙◌, subst, add-zero, add-suc, add-one, arith, length-append}
use Rattle.std.proofs.lemmas.List.{drop-append-le, drop-drop, get_or_append_left, get_or-drop}
use Rattle.digest.specs.Sha256.{constants, next_word, round, rounds, schedule}
use Rattle.digest.proofs.Lists.{elements, drop-elements}
use Rattle.digest.specs.Work.{Stands}
use Rattle.digest.specs.declared.block.Work.{Work}

pub schedule-none : (m : List ℕ) → schedule m 0 ≡ m
unfolding schedule
schedule-none m = refl

pub schedule-more : (m : List ℕ) (i : ℕ) → schedule m (suc i) ≡ schedule m i ++ next_word (drop i (schedule m i)) ∷ []
unfolding schedule
schedule-more m i = refl

pub rounds-none : (s w : List ℕ) → rounds s w 0 ≡ s
unfolding rounds
rounds-none s w = refl

pub rounds-more : (s w : List ℕ) (t : ℕ) → rounds s w (suc t) ≡ round (rounds s w t) (get_or constants t 0) (get_or w t 0)
unfolding rounds
rounds-more s w t = refl

module _ (m : List ℕ) (len : length m ≡ 16) where
  pub length_schedule : (i : ℕ) → length (schedule m i) ≡ 16 + i
  length_schedule zero = rw schedule-none len
  length_schedule (suc i) = rw (schedule-more, length-append) (omega (arith, length_schedule i))

  -- the window moved on by one word
  pub window_more : (i : ℕ) → drop (suc i) (schedule m (suc i)) ≡ drop 1 (drop i (schedule m i)) ++ next_word (drop i (schedule m i)) ∷ []
  window_more i =
      let le : suc i ≤ length (schedule m i) = omega (arith, length_schedule i) in
      let front = drop-append-le (suc i) (schedule m i) (next_word (drop i (schedule m i)) ∷ []) le in
      let more = schedule-more m i in
      let twice = drop-drop 1 i (schedule m i) in
      let one = add-one i in
      cc

  -- later words leave the earlier ones
  schedule_keeps : (i n k : ℕ) → k < 16 + i → get_or (schedule m (i + n)) k 0 ≡ get_or (schedule m i) k 0
  schedule_keeps i zero k lt = rw add-zero
  schedule_keeps i (suc n) k lt =
      let below : k < length (schedule m (i + n)) = omega (arith, length_schedule (i + n)) in
      let here = get_or_append_left (schedule m (i + n)) (next_word (drop (i + n) (schedule m (i + n))) ∷ []) 0 k below in
      let more = schedule-more m (i + n) in
      let same = schedule_keeps i n k lt in
      let step = add-suc i n in
      cc

  -- a word of the window after t rounds is the word that round t + j takes
  pub window_word : (t j : ℕ) → t ≤ 48 → j < 16 → get_or (drop t (schedule m t)) j 0 ≡ get_or (schedule m 48) (t + j) 0
  window_word t j le lt =
      let at = get_or-drop t (schedule m t) j 0 in
      let same = schedule_keeps t (48 - t) (t + j) (omega arith) in
      let all : t + (48 - t) ≡ 48 = omega arith in
      cc

  pub stands_more : (h : List ℕ) (t : ℕ) (x y : Work) → t ≤ 48 → Stands h m t x
      → y.vars ≡ round x.vars (get_or constants t 0) (get_or x.window 0 0)
      → y.window ≡ drop 1 x.window ++ next_word x.window ∷ []
      → Stands h m (t + 1) y
  stands_more h t x y le st vs ws =
      let turned = rounds-more h (schedule m 48) t in
      let here = window_word t 0 le (omega arith) in
      let none = add-zero t in
      let one = add-one t in
      let slid = window_more t in
      let a = st.vars in
      let b = st.window in
      record { vars = cc; window = cc }

-- the window by its elements, less the first, and the next word
pub slid : (w : List ℕ) (x : ℕ) → length w ≡ 16 → x ≡ next_word w → elements w 1 15 ++ x ∷ [] ≡ drop 1 w ++ next_word w ∷ []
slid w x len next =
    let rest = drop-elements w 15 1 len in
    ap (λ (ys : List ℕ). ys ++ x ∷ []) (sym rest) ∙ ap (λ (y : ℕ). drop 1 w ++ y ∷ []) next

-- n rounds with their words, from t rounds on
abbrev pub Turns : ℕ → ℕ → Work → Work → Type 0
Turns t n x y = (h m : List ℕ) → length m ≡ 16 → Stands h m t x → Stands h m (t + n) y

pub turns_then : (t n : ℕ) {x y z : Work} → Turns t n x y → Turns (t + n) 1 y z → Turns t (suc n) x z
turns_then t n {z = z} first more h m len st =
    let e : t + n + 1 ≡ t + suc n = omega (arith, add-suc t n) in
    rw e at (more h m len (first h m len st))

-- one of the last sixteen rounds, on the words of the window
pub last_more : (h m : List ℕ) (x : Work) → length m ≡ 16 → Stands h m 48 x → (j : ℕ) → j < 16 → (s r : List ℕ) (k : ℕ)
    → s ≡ rounds h (schedule m 48) (48 + j) → k ≡ get_or constants (48 + j) 0 → r ≡ round s k (get_or x.window j 0)
    → r ≡ rounds h (schedule m 48) (48 + suc j)
last_more h m x len st j lt s r k was constant turned =
    let here = window_word m len 48 j (omega arith) lt in
    let more = rounds-more h (schedule m 48) (48 + j) in
    let step = add-suc 48 j in
    let w = st.window in
    cc

pub stands_none : (h m : List ℕ) (x : Work) → x.vars ≡ h → x.window ≡ m → Stands h m 0 x
stands_none h m x vs ws = record { vars = vs ∙ sym (rounds-none h (schedule m 48)); window = ws ∙ sym (schedule-none m) }

pub stands_at : {h m : List ℕ} {x : Work} (i j : ℕ) → i ≡ j → Stands h m i x → Stands h m j x
stands_at {h} {m} {x} i j e st = subst (λ (t : ℕ). Stands h m t x) e st
