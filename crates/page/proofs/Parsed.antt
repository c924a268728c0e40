-- The marks and keys in entries of 40 bytes, one more at a time.
use Rattle.std.proofs.Common.{◌≡◌, ℕ, zero, suc, ◌+◌, ◌-◌, ◌*◌, ◌<◌, List, [], ◌∷◌, ◌++◌, length, take, drop, set, replicate, refl, ap, ◌∙◌, add-one, arith}
use Rattle.std.proofs.lemmas.List.{append_assoc, drop-drop, set_at}
use Rattle.ratchet.specs.Blank.{blank as noMark}
use Rattle.ratchet.specs.declared.types.Mark.{Mark}
use Rattle.page.specs.Parts.{mark_at, marks_in, keys_in}
use Rattle.page.proofs.Numbers.{four-drop}

mark-drop : (b : List ℕ) (i : ℕ) → mark_at (drop 40 b) (40 * i) ≡ mark_at b (40 * suc i)
mark-drop b i =
    let p = four-drop 40 (40 * i) b in
    let q = four-drop 40 (40 * i + 4) b in
    let e : 40 + 40 * i ≡ 40 * suc i = omega arith in
    let f : 40 + (40 * i + 4) ≡ 40 * suc i + 4 = omega arith in
    cc

marks-suc : (i : ℕ) (b : List ℕ) → marks_in (suc i) b ≡ marks_in i b ++ mark_at b (40 * i) ∷ []
unfolding marks_in
marks-suc zero b = refl
marks-suc (suc i) b =
    ap (λ (l : List Mark). mark_at b 0 ∷ l) (marks-suc i (drop 40 b)) ∙ ap (λ (m : Mark). mark_at b 0 ∷ (marks_in i (drop 40 b) ++ m ∷ [])) (mark-drop b i)

pub marks-more : (i : ℕ) (b : List ℕ) → marks_in (i + 1) b ≡ marks_in i b ++ mark_at b (40 * i) ∷ []
marks-more i b = ap (λ n. marks_in n b) (add-one i) ∙ marks-suc i b

pub marks-none : (b : List ℕ) → marks_in 0 b ≡ []
unfolding marks_in
marks-none b = refl

keys-suc : (i : ℕ) (b : List ℕ) → keys_in (suc i) b ≡ keys_in i b ++ take 32 (drop (40 * i + 8) b) ∷ []
unfolding keys_in
keys-suc zero b = refl
keys-suc (suc i) b =
    let behind = drop-drop (40 * i + 8) 40 b in
    let e : 40 + (40 * i + 8) ≡ 40 * suc i + 8 = omega arith in
    ap (λ (l : List (List ℕ)). take 32 (drop 8 b) ∷ l) (keys-suc i (drop 40 b))
    ∙ ap (λ (k : List ℕ). take 32 (drop 8 b) ∷ (keys_in i (drop 40 b) ++ take 32 k ∷ [])) (behind ∙ ap (λ n. drop n b) e)

pub keys-more : (i : ℕ) (b : List ℕ) → keys_in (i + 1) b ≡ keys_in i b ++ take 32 (drop (40 * i + 8) b) ∷ []
keys-more i b = ap (λ n. keys_in n b) (add-one i) ∙ keys-suc i b

pub keys_none : (b : List ℕ) → keys_in 0 b ≡ []
unfolding keys_in
keys_none b = refl

pub length-marks : (n : ℕ) (b : List ℕ) → length (marks_in n b) ≡ n
unfolding marks_in
length-marks zero b = refl
length-marks (suc n) b = ap suc (length-marks n (drop 40 b))

pub length-keys : (n : ℕ) (b : List ℕ) → length (keys_in n b) ≡ n
unfolding keys_in
length-keys zero b = refl
length-keys (suc n) b = ap suc (length-keys n (drop 40 b))

-- one more mark, and blanks behind it
pub marks_set : (marks : List Mark) (b : List ℕ) (i : ℕ) (m : Mark) → i < 512 → m ≡ mark_at b (40 * i) → marks ≡ marks_in i b ++ replicate (512 - i) noMark → set marks i m ≡ marks_in (i + 1) b ++ replicate (512 - (i + 1)) noMark
marks_set marks b i m h is so_far =
    let less : 512 - i ≡ suc (512 - (i + 1)) = omega arith in
    let put = set_at (marks_in i b) noMark (replicate (512 - (i + 1)) noMark) m i (length-marks i b) in
    let more = marks-more i b in
    let tidy = append_assoc (marks_in i b) (m ∷ []) (replicate (512 - (i + 1)) noMark) in
    cc
