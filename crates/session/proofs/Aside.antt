-- A key among those put aside: found by its mark, and taken out of its slot.
use Rattle.std.proofs.Common.{◌≡◌, ℕ, zero, suc, ◌<◌, ◌≤◌, true, false, List, [], ◌∷◌, map, length, get_or, take, drop, Some, refl, ap, ◌∙◌, arith}
use Rattle.std.specs.List.{remove, position}
use Rattle.std.proofs.lemmas.List.{map-append, take-map, drop-map}
use Rattle.std.proofs.lemmas.Bool.{or_parts, cond-true, cond-false}
use Rattle.ratchet.specs.declared.types.Mark.{Mark}
use Rattle.ratchet.specs.Blank.{blank}
use Rattle.ratchet.specs.Same.{same_mark}
use Rattle.seal.specs.declared.keys.MessageKey.{MessageKey}
use Rattle.ratchet.specs.State.{has, without}
use Rattle.ratchet.proofs.Sought.{mark_at, mark_there, mark_out}
use Rattle.exchange.specs.Exchanges.{key_aside, keys_without}
use Rattle.session.specs.Views.{key_in}

-- the mark is at a place of its list, and so is its key among as many keys
pub record Found (mark : Mark) (list : List Mark) (i : ℕ) : Type 0 where
  pub within : i < length list
  pub there : has mark list ≡ true
  pub marks : without mark list ≡ remove list i
  pub key : (keys : List (List ℕ)) → length keys ≡ length list → key_aside mark list keys ≡ get_or keys i []
  pub keys : (keys : List (List ℕ)) → length keys ≡ length list → keys_without mark list keys ≡ remove keys i

key-at : (m d : Mark) (xs : List Mark) (ks : List (List ℕ)) (i : ℕ) → length ks ≡ length xs → i < length xs → has m (take i xs) ≡ false → same_mark (get_or xs i d) m ≡ true →
    key_aside m xs ks ≡ get_or ks i []
unfolding key_aside has
key-at m d [] ks i e h before here = absurd (omega arith)
key-at m d (x ∷ xs) [] i e h before here = absurd (omega arith)
key-at m d (x ∷ xs) (k ∷ ks) zero e h before here = cond-true (same_mark x m) k (key_aside m xs ks) here
key-at m d (x ∷ xs) (k ∷ ks) (suc i) e h before here =
    let p = or_parts (same_mark x m) (has m (take i xs)) before in
    cond-false (same_mark x m) k (key_aside m xs ks) p.0 ∙ key-at m d xs ks i (omega arith) (omega arith) p.1 here

keys-at : (m d : Mark) (xs : List Mark) (ks : List (List ℕ)) (i : ℕ) → length ks ≡ length xs → i < length xs → has m (take i xs) ≡ false → same_mark (get_or xs i d) m ≡ true →
    keys_without m xs ks ≡ remove ks i
unfolding keys_without has
keys-at m d [] ks i e h before here = absurd (omega arith)
keys-at m d (x ∷ xs) [] i e h before here = absurd (omega arith)
keys-at m d (x ∷ xs) (k ∷ ks) zero e h before here = cond-true (same_mark x m) ks (k ∷ keys_without m xs ks) here
keys-at m d (x ∷ xs) (k ∷ ks) (suc i) e h before here =
    let p = or_parts (same_mark x m) (has m (take i xs)) before in
    cond-false (same_mark x m) ks (k ∷ keys_without m xs ks) p.0 ∙ ap (λ (l : List (List ℕ)). k ∷ l) (keys-at m d xs ks i (omega arith) (omega arith) p.1 here)

pub found : (m : Mark) (xs : List Mark) (i : ℕ) → position (λ x. same_mark x m) xs ≡ Some i → Found m xs i
found m xs i e =
    let p = mark_at m xs i e in
    record {
      within = p.0;
      there = mark_there m xs i e;
      marks = mark_out m xs i e;
      key = λ ks l. key-at m blank xs ks i l p.0 p.1 p.2;
      keys = λ ks l. keys-at m blank xs ks i l p.0 p.1 p.2;
    }

pub map-removed : {A B : Type 0} (f : A → B) (xs : List A) (i : ℕ) → map f (remove xs i) ≡ remove (map f xs) i
map-removed f xs i =
    let t = take-map f i xs in
    let d = drop-map f (suc i) xs in
    let s = map-append f (take i xs) (drop (suc i) xs) in
    cc

-- a key in a slot that is in use
pub key-slot : (slots : List MessageKey) (n i : ℕ) (d : MessageKey) → i < n → n ≤ length slots → (get_or slots i d).0 ≡ get_or (map key_in (take n slots)) i []
key-slot [] n i d h k = absurd (omega arith)
key-slot (x ∷ xs) zero i d h k = absurd (omega arith)
key-slot (x ∷ xs) (suc n) zero d h k = refl
key-slot (x ∷ xs) (suc n) (suc i) d h k = key-slot xs n i d (omega arith) (omega arith)
