-- Bytes that pass all tests are the page of what they say.
use Rattle.std.proofs.Common.{◌≡◌, ℕ, zero, suc, ◌+◌, ◌*◌, ◌^◌, ◌<◌, ◌≤◌, List, [], ◌∷◌, length, take, drop, sym, refl, ap, ◌∙◌, arith, take-append-drop, take-add}
use Rattle.std.specs.List.{AllByRecursion as All}
use Rattle.std.proofs.ByRecursion.{All-drop}
use Rattle.std.proofs.lemmas.List.{drop_more, length-drop, length-take-le}
use Rattle.runs.specs.declared.types.Who.{Who}
use Rattle.exchange.specs.Wire.{two_at}
use Rattle.exchange.proofs.Wires.{two_back, four_back, four_below}
use Rattle.page.specs.Kept.{IsBytes}
use Rattle.page.specs.Layout.{count_bytes, front_bytes, entry_bytes, aside_bytes, body_bytes, page_bytes}
use Rattle.page.specs.Valid.{Sound, Valid}
use Rattle.page.specs.Parts.{mark_at, marks_in, keys_in, state_in, held_in, Whole}
use Rattle.page.proofs.Parsed.{length-marks, length-keys}

-- ### Entries

entry_back : (l : List ℕ) → IsBytes l → 40 ≤ length l → take 40 l ≡ entry_bytes (mark_at l 0) (take 32 (drop 8 l))
unfolding entry_bytes
entry_back l fit h =
    let a = take-add 4 4 l in
    let b = take-add 8 32 l in
    let link = four_back l fit 0 (omega arith) in
    let place = four_back l fit 4 (omega arith) in
    cc

entries_back : (n : ℕ) (l : List ℕ) → IsBytes l → 40 * n ≤ length l → take (40 * n) l ≡ aside_bytes (marks_in n l) (keys_in n l)
unfolding aside_bytes marks_in keys_in
entries_back zero l fit h = refl
entries_back (suc n) l fit h =
    let e : 40 * suc n ≡ 40 + 40 * n = omega arith in
    let split = take-add 40 (40 * n) l in
    let first = entry_back l fit (omega arith) in
    let others = entries_back n (drop 40 l) (All-drop (λ x. x < 256) 40 l fit) (omega (arith, length-drop 40 l)) in
    cc

places-below : (n : ℕ) (l : List ℕ) → IsBytes l → 40 * n ≤ length l → All (λ m. m.place < 2 ^ 32) (marks_in n l)
unfolding marks_in
places-below zero l fit h = tt
places-below (suc n) l fit h = (four_below l fit 4 (omega arith), places-below n (drop 40 l) (All-drop (λ x. x < 256) 40 l fit) (omega (arith, length-drop 40 l)))

keys-sized : (n : ℕ) (l : List ℕ) → 40 * n ≤ length l → All (λ k. length k ≡ 32) (keys_in n l)
unfolding keys_in
keys-sized zero l h = tt
keys-sized (suc n) l h =
    (length-take-le 32 (drop 8 l) (omega (arith, length-drop 8 l)), keys-sized n (drop 40 l) (omega (arith, length-drop 40 l)))

-- ### The page

module _ (b : List ℕ) (fit : IsBytes b) (w : Whole b) where
  abbrev count : ℕ
  count = two_at b 145

  counts_back : take 17 b ≡ count_bytes (state_in b)
  unfolding count_bytes
  counts_back =
      let first : take 1 b ≡ 1 ∷ [] = ap (take 1) (drop_more b 0 0 (omega (arith, w.long))) ∙ ap (λ x. x ∷ []) w.version in
      let t5 = take-add 1 4 b in
      let t9 = take-add 5 4 b in
      let t13 = take-add 9 4 b in
      let t17 = take-add 13 4 b in
      let drawn = four_back b fit 1 (omega (arith, w.long)) in
      let sent = four_back b fit 5 (omega (arith, w.long)) in
      let taken = four_back b fit 9 (omega (arith, w.long)) in
      let before = four_back b fit 13 (omega (arith, w.long)) in
      cc

  front_back : take 145 b ≡ front_bytes (held_in b)
  unfolding front_bytes
  front_back =
      let t17 = counts_back in
      let t49 = take-add 17 32 b in
      let t81 = take-add 49 32 b in
      let t113 = take-add 81 32 b in
      let t145 = take-add 113 32 b in
      cc

  body_back : take (147 + 40 * count) b ≡ body_bytes (held_in b)
  unfolding body_bytes
  body_back =
      let t145 = front_back in
      let t147 = take-add 145 2 b in
      let all = take-add 147 (40 * count) b in
      let two = two_back b fit 145 (omega (arith, w.long)) in
      let size = length-marks count (drop 147 b) in
      let aside = entries_back count (drop 147 b) (All-drop (λ x. x < 256) 147 b fit) (omega (arith, w.long, length-drop 147 b)) in
      cc

  pub page_back : b ≡ page_bytes (held_in b)
  unfolding page_bytes
  page_back =
      let halves = take-append-drop (147 + 40 * count) b in
      let body = body_back in
      let digest = w.digest in
      cc

  part_sized : (at : ℕ) → at ≤ 115 → length (take 32 (drop at b)) ≡ 32
  part_sized at h = length-take-le 32 (drop at b) (omega (arith, length-drop at b, w.long))

  pub valid_back : (who : Who) → Sound who (state_in b) (take 32 (drop 81 b)) (take 32 (drop 113 b)) → Valid who (held_in b)
  valid_back who sound = record {
    counted = record {
      drawn = four_below b fit 1 (omega (arith, w.long));
      sent = four_below b fit 5 (omega (arith, w.long));
      taken = four_below b fit 9 (omega (arith, w.long));
      before = four_below b fit 13 (omega (arith, w.long));
      places = places-below count (drop 147 b) (All-drop (λ x. x < 256) 147 b fit) (omega (arith, w.long, length-drop 147 b));
    };
    sized = record {
      root = part_sized 49 (omega arith);
      sending = part_sized 81 (omega arith);
      taking = part_sized 113 (omega arith);
      half = part_sized 17 (omega arith);
      keys = keys-sized count (drop 147 b) (omega (arith, w.long, length-drop 147 b));
    };
    in_step = length-keys count (drop 147 b) ∙ sym (length-marks count (drop 147 b));
    few = omega (arith, length-marks count (drop 147 b), w.few);
    sound = sound;
  }
