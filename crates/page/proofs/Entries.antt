-- The keys put aside, as bytes.
use Rattle.std.proofs.Common.{◌≡◌, ℕ, ◌+◌, ◌*◌, ◌<◌, List, [], ◌∷◌, ◌++◌, map, length, get_or, take, drop, sym, refl, ap, ◌∙◌, arith, length-append, length-drop}
use Rattle.std.proofs.lemmas.List.{append_assoc, append-nil, take_at, take_more, map_more, length-take-le, length-map}
use Rattle.ratchet.specs.declared.types.Mark.{Mark}
use Rattle.seal.specs.declared.keys.MessageKey.{MessageKey}
use Rattle.session.specs.Views.{key_in}
use Rattle.page.specs.Layout.{entry_bytes, aside_bytes}

pub aside_none : aside_bytes [] [] ≡ []
unfolding aside_bytes
aside_none = refl

-- one more
pub aside-push : (ms : List Mark) (ks : List (List ℕ)) (m : Mark) (k : List ℕ) → length ks ≡ length ms →
    aside_bytes (ms ++ m ∷ []) (ks ++ k ∷ []) ≡ aside_bytes ms ks ++ entry_bytes m k
unfolding aside_bytes
aside-push [] [] m k e = append-nil (entry_bytes m k)
aside-push [] (x ∷ ks) m k e = absurd (omega arith)
aside-push (x ∷ ms) [] m k e = absurd (omega arith)
aside-push (x ∷ ms) (y ∷ ks) m k e =
    ap (λ (l : List ℕ). entry_bytes x y ++ l) (aside-push ms ks m k (omega arith)) ∙ sym (append_assoc (entry_bytes x y) (aside_bytes ms ks) (entry_bytes m k))

-- one more in a loop that puts them
pub aside-more : (ms : List Mark) (ks : List MessageKey) (was now : List ℕ) (i at : ℕ) (m : Mark) (k : MessageKey) → i < length ms → length ks ≡ length ms → length was ≡ 40 * length ms →
    length now ≡ length was → at ≡ 40 * i → m ≡ get_or ms i m → k ≡ get_or ks i k → take at was ≡ aside_bytes (take i ms) (map key_in (take i ks)) →
    now ≡ take at was ++ (entry_bytes m k.0 ++ drop (at + 40) was) →
    take (at + 40) now ≡ aside_bytes (take (i + 1) ms) (map key_in (take (i + 1) ks))
aside-more ms ks was now i at m k h e size kept here im ik so_far put =
    let entry = entry_bytes m k.0 in
    let front : length (take at was) ≡ at = length-take-le at was (omega arith) in
    let whole = length-append (take at was) (entry ++ drop (at + 40) was) in
    let behind = length-append entry (drop (at + 40) was) in
    let left = length-drop (at + 40) was in
    let all = ap length put in
    let long : length (take at was ++ entry) ≡ at + 40 = length-append (take at was) entry ∙ omega arith in
    let group = append_assoc (take at was) entry (drop (at + 40) was) in
    let taken = take_at (take at was ++ entry) (drop (at + 40) was) (at + 40) long in
    let marks = take_more ms i m h in
    let keys = map_more key_in ks i k (omega arith) in
    let same : length (map key_in (take i ks)) ≡ length (take i ms) =
    length-map (take i ks) key_in ∙ (length-take-le i ks (omega arith) ∙ sym (length-take-le i ms (omega arith))) in
    let more = aside-push (take i ms) (map key_in (take i ks)) m k.0 same in
    cc
