-- A message in one buffer: its header, and what stands behind it.
use Rattle.std.proofs.Common.{◌≡◌, ℕ, ◌+◌, ◌-◌, ◌≤◌, List, ◌++◌, length, take, drop, ap, arith}
use borrow.Rule.Slice.PartMut.{put_mid, post_of}
use Rattle.std.proofs.lemmas.List.{append-nil, take_at, drop_at, drop-drop, drop_all, take_rest, take-append-drop, length-append, length-take-le}

-- a part that was lent and came back as it was
pub put_back : (m part : List ℕ) (a k : ℕ) → part ≡ take k (drop a m) → put_mid a k m part ≡ m
put_back m part a k e =
    let inner = take-append-drop k (drop a m) in
    let outer = take-append-drop a m in
    cc

-- a header of 47 bytes before a part that begins with xs
pub headed : (m part copy header xs : List ℕ) (size : ℕ) → 47 ≤ length m → copy ≡ header → part ≡ xs ++ drop size (take (length m - 47) (drop 47 m)) → copy ++ post_of 0 47 (put_mid 47 (length m - 47) m part) ≡ header ++ (xs ++ drop (47 + size) m)
headed m part copy header xs size long e f =
    let rest = take_rest m 47 in
    let sum : 47 + (length m - 47) ≡ length m = omega arith in
    let none = drop-drop (length m - 47) 47 m in
    let past = drop_all (length m) m (omega arith) in
    let tidy = append-nil part in
    let front = drop_at (take 47 m) (part ++ drop (length m - 47) (drop 47 m)) 47 (length-take-le 47 m long) in
    let left = drop-drop size 47 m in
    cc

module _ (m header xs : List ℕ) (long : length header ≡ 47) (is : m ≡ header ++ xs) where
  pub head_long : 47 ≤ length m
  head_long = let sum = length-append header xs in let all = ap length is in omega arith

  pub head_part : take 47 m ≡ header
  head_part = let at = take_at header xs 47 long in cc

  pub body_part : take (length m - 47) (drop 47 m) ≡ xs
  body_part =
      let at = drop_at header xs 47 long in
      let rest = take_rest m 47 in
      cc
