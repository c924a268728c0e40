-- Words written as bytes, one after the other.
use Rattle.std.proofs.Common.{◌≡◌, ℕ, ◌+◌, ◌*◌, ◌<◌, ◌≤◌, List, [], ◌∷◌, ◌++◌, length, get_or, take, drop, refl, ap, ◌∙◌, arith}
use Rattle.std.specs.List.{flat_map}
use Rattle.std.proofs.lemmas.List.{append-nil, append_assoc, take_at, drop_at, drop-drop, drop_all, take_all, take_more, flat_map_more, length-take-le}
use Rattle.seal.specs.ChaCha20.{bytes_of, serialized}

pub length-joined : (ws : List ℕ) → length (flat_map bytes_of ws) ≡ 4 * length ws
length-joined [] = refl
length-joined (w ∷ ws) = let rest = length-joined ws in omega arith

-- one word more, written behind the i words that stand there already
pub serialize_more : (ws start bytes after four : List ℕ) (i : ℕ) → i < length ws → bytes ≡ flat_map bytes_of (take i ws) ++ drop (4 * i) start → four ≡ bytes_of (get_or ws i 0) → after ≡ take (4 * i) bytes ++ (four ++ drop (4 * i + length four) bytes) → after ≡ flat_map bytes_of (take (i + 1) ws) ++ drop (4 * (i + 1)) start
serialize_more ws start bytes after four i h is e put =
    let front = flat_map bytes_of (take i ws) in
    let rest = drop (4 * i) start in
    let short = length-take-le i ws (omega arith) in
    let long : length front ≡ 4 * i = length-joined (take i ws) ∙ ap (λ n. 4 * n) short in
    let before = take_at front rest (4 * i) long in
    let behind = drop_at front rest (4 * i) long in
    let width : length four ≡ 4 = ap length e in
    let left = drop-drop 4 (4 * i) bytes in
    let again = drop-drop 4 (4 * i) start in
    let next : 4 * i + 4 ≡ 4 * (i + 1) = omega arith in
    let more = take_more ws i 0 h in
    let join = flat_map_more bytes_of [] (take i ws) (get_or ws i 0) in
    let group = append_assoc front four (drop (4 * (i + 1)) start) in
    cc

pub serialize_all : (ws start bytes : List ℕ) (i : ℕ) → length ws ≤ i → length start ≤ 4 * length ws → bytes ≡ flat_map bytes_of (take i ws) ++ drop (4 * i) start → bytes ≡ serialized ws
unfolding serialized
serialize_all ws start bytes i h k is =
    let whole = take_all i ws h in
    let none = drop_all (4 * i) start (omega arith) in
    let tidy = append-nil (flat_map bytes_of ws) in
    cc
