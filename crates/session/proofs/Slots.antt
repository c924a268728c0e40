-- Keys in the slots of a session, as lists.
use Rattle.std.proofs.Common.{◌≡◌, ℕ, ◌+◌, ◌-◌, ◌≤◌, List, ◌++◌, map, length, take, drop, replicate, sym, ap, ◌∙◌, arith}
use borrow.Rule.Slice.PartMut.{put_mid}
use Rattle.std.proofs.lemmas.List.{drop-drop, drop-replicate, length-append, length-drop, length-take-le, map-append}
use Rattle.std.proofs.lemmas.Slice.{take-put_mid}
use Rattle.seal.specs.declared.keys.MessageKey.{MessageKey}
use Rattle.chain.specs.Bytes as links
use Rattle.ratchet.specs.declared.types.Mark.{Mark}
use Rattle.keybox.specs.Box.{Scheme}
use Rattle.exchange.specs.Exchanges as exchange
use Rattle.session.specs.Ours.{ours}
use Rattle.session.specs.Views.{key_in}
use Rattle.session.proofs.Chains.{keys_same}

-- as many marks more, as many more in use
pub grown_count : (xs ys new : List Mark) (m n k : ℕ) → length xs ≡ 512 → length ys ≡ 512 → m ≤ 512 → n ≤ 512 → length new ≡ k → take n ys ≡ take m xs ++ new → n ≡ m + k
grown_count xs ys new m n k e f h i size is =
    omega (arith, length-take-le m xs (omega arith), length-take-le n ys (omega arith), ap length is, length-append (take m xs) new)

-- keys of a chain put behind those in use
module _ (slots part : List MessageKey) (chain : List ℕ) (at n : ℕ) (room : at + n ≤ length slots) (is : part ≡ links.keys_along (length (take (at + n - at) (drop at slots))) chain) where
  size : length (take (at + n - at) (drop at slots)) ≡ n
  size = length-take-le (at + n - at) (drop at slots) (omega (arith, length-drop at slots)) ∙ omega arith

  those : part ≡ links.keys_along n chain
  those = is ∙ ap (λ (k : ℕ). links.keys_along k chain) size

  pub keys_put : (scheme : Scheme) → length part ≡ n → map key_in (take (at + n) (put_mid at (at + n - at) slots part)) ≡ map key_in (take at slots) ++ exchange.keys_along (ours scheme) n chain
  keys_put scheme long =
      let front = take-put_mid at (at + n - at) slots part (at + n) (omega (arith, long)) (omega arith) in
      let keys = keys_same scheme n chain in
      let split = map-append key_in (take at slots) part in
      let e = those in
      cc

-- what lies past those in use is as blank as it was
pub still_wiped : {A : Type 0} (xs ys : List A) (at n z : ℕ) (b : A) (most : ℕ) → z ≡ at + n → drop (at + n) ys ≡ drop (at + n) xs → drop at xs ≡ replicate (most - at) b → drop z ys ≡ replicate (most - z) b
still_wiped {A} xs ys at n z b most all rest e =
    let m : most - at - n ≡ most - z = omega arith in
    ap (λ (i : ℕ). drop i ys) all ∙ (rest ∙ (sym (drop-drop n at xs) ∙ (ap (λ (l : List A). drop n l) e ∙ (drop-replicate n (most - at) b ∙ ap (λ (j : ℕ). replicate j b) m))))
