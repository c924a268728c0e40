-- Words as bytes and bytes as words, a step of a loop at a time.
use Rattle.std.proofs.Common.{◌≡◌, ℕ, zero, suc, ◌+◌, ◌*◌, ◌<◌, ◌≤◌, List, [], ◌∷◌, ◌++◌, length, map, get_or, take, drop, sym, refl, ap, ◌∙◌, add-one, arith, length-append}
use Rattle.std.specs.List.{range_with_len}
use Rattle.std.proofs.lemmas.List.FromFn.{map-range_with_len_more}
use Rattle.std.proofs.lemmas.List.{append_assoc, append-nil, length-take-le, take_all, take_at, take_more}
use Rattle.digest.specs.Sha256.{bytes, parsed, sums, word, word_bytes}
use Rattle.digest.proofs.Lists.{elements, by_elements}

pub parsed-none : (b : List ℕ) → parsed b 0 ≡ []
unfolding parsed
parsed-none b = refl

parsed-more : (b : List ℕ) (n : ℕ) → parsed b (suc n) ≡ parsed b n ++ word b n ∷ []
unfolding parsed
parsed-more b n = refl

pub length-parsed : (b : List ℕ) (n : ℕ) → length (parsed b n) ≡ n
length-parsed b zero = rw parsed-none
length-parsed b (suc n) = rw (parsed-more, length-append) (omega (arith, length-parsed b n))

pub parsed-by : (b : List ℕ) (n : ℕ) → parsed b n ≡ map (word b) (range_with_len 0 n)
parsed-by b zero = parsed-none b
parsed-by b (suc n) =
    let more = map-range_with_len_more (word b) 0 n n (omega arith) in
    let was = parsed-by b n in
    let here = parsed-more b n in
    let one = add-one n in
    cc

bytes-push : (ws : List ℕ) (w : ℕ) → bytes (ws ++ w ∷ []) ≡ bytes ws ++ word_bytes w
unfolding bytes
bytes-push [] w = append-nil (word_bytes w)
bytes-push (x ∷ xs) w = ap (λ (ys : List ℕ). word_bytes x ++ ys) (bytes-push xs w) ∙ sym (append_assoc (word_bytes x) (bytes xs) (word_bytes w))

pub length-bytes_of : (ws : List ℕ) → length (bytes ws) ≡ 4 * length ws
unfolding bytes word_bytes
length-bytes_of [] = refl
length-bytes_of (x ∷ xs) = omega (arith, length-bytes_of xs)

pub write-more : (ws out after r : List ℕ) (i : ℕ) → i < length ws → length out ≡ 4 * length ws → take (4 * i) out ≡ bytes (take i ws) → r ≡ word_bytes (get_or ws i 0)
    → after ≡ take (4 * i) out ++ (r ++ drop (4 * i + length r) out)
    → take (4 * (i + 1)) after ≡ bytes (take (i + 1) ws)
unfolding word_bytes
write-more ws out after r i lt len was here put =
    let front : List ℕ = take (4 * i) out ++ r in
    let rest : List ℕ = drop (4 * i + length r) out in
    let four : length r ≡ 4 = ap length here in
    let lead = length-take-le (4 * i) out (omega arith) in
    let long : length front ≡ 4 * (i + 1) = length-append (take (4 * i) out) r ∙ omega arith in
    let join = append_assoc (take (4 * i) out) r rest in
    let cut = take_at front rest (4 * (i + 1)) long in
    let more = take_more ws i 0 lt in
    let push = bytes-push (take i ws) (get_or ws i 0) in
    cc

pub add_elements : (x y : List ℕ) → length x ≡ 8 → length y ≡ 8 → sums (elements x 0 8) (elements y 0 8) ≡ sums x y
add_elements x y lx ly =
    let ex = by_elements x 8 lx in
    let ey = by_elements y 8 ly in
    cc

pub write-all : (ws out : List ℕ) (i : ℕ) → length ws ≤ i → length out ≡ 4 * length ws → take (4 * i) out ≡ bytes (take i ws) → out ≡ bytes ws
write-all ws out i past len was =
    let out-all = take_all (4 * i) out (omega arith) in
    let words-all = take_all i ws past in
    cc
