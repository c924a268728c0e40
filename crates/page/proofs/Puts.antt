-- Parts put one behind another at the front of some bytes.
use Rattle.std.proofs.Common.{◌≡◌, ℕ, ◌+◌, ◌-◌, ◌*◌, ◌≤◌, List, [], ◌∷◌, ◌++◌, length, take, drop, refl, ap, ◌∙◌, arith, length-append, length-drop}
use Rattle.std.proofs.lemmas.List.{append_assoc, take_at, drop_at}
use Rattle.std.proofs.lemmas.List.Edits.{paste_all}
use Rattle.std.proofs.lemmas.Slice.{drop-append-drop, put_mid-paste}
use Rattle.ratchet.specs.State.{State}
use Rattle.exchange.specs.Wire.{four_bytes, two_bytes}
use Rattle.exchange.specs.Held.{Held}
use borrow.Rule.Slice.PartMut.{put_mid}
use Rattle.digest.specs.Sha256.{sha_256}
use Rattle.page.specs.Layout.{count_bytes, front_bytes, aside_bytes, body_bytes}

-- a part put behind the front that stands so far; what is behind both is as it was
pub put_next : (was before after front got part : List ℕ) (at end : ℕ) → got ≡ part → length front ≡ at → at + length part ≡ end →
    before ≡ front ++ drop at was → after ≡ take at before ++ (got ++ drop (at + length got) before) → after ≡ (front ++ part) ++ drop end was
put_next was before after front got part at end same long all so_far put =
    let head : take at before ≡ front = ap (take at) so_far ∙ take_at front (drop at was) at long in
    let size : at + length got ≡ end = ap (λ (l : List ℕ). at + length l) same ∙ all in
    let rest : drop end before ≡ drop end was = ap (drop end) so_far ∙ drop-append-drop at was front end (omega arith) long in
    let group = append_assoc front part (drop end was) in
    cc

pub length-behind : (front part : List ℕ) (at n : ℕ) → length front ≡ at → length part ≡ n → length (front ++ part) ≡ at + n
length-behind front part at n e f = length-append front part ∙ omega arith

pub grouped : (front a b c rest : List ℕ) → (((front ++ a) ++ b) ++ c) ++ rest ≡ front ++ (((a ++ b) ++ c) ++ rest)
grouped front a b c rest = simp append_assoc

pub length-counts : (s : State) → length (count_bytes s) ≡ 17
unfolding count_bytes
length-counts s = refl

-- the version and the four counts, at the front
pub counts-put : (s : State) (was p q r t u a b c d : List ℕ) → a ≡ four_bytes s.drawn → b ≡ four_bytes s.sent → c ≡ four_bytes s.taken → d ≡ four_bytes s.before →
    p ≡ take 0 was ++ ((1 ∷ []) ++ drop 1 was) → q ≡ take 1 p ++ (a ++ drop (1 + length a) p) → r ≡ take 5 q ++ (b ++ drop (5 + length b) q) →
    t ≡ take 9 r ++ (c ++ drop (9 + length c) r) → u ≡ take 13 t ++ (d ++ drop (13 + length d) t) → u ≡ count_bytes s ++ drop 17 was
unfolding count_bytes
counts-put s was p q r t u a b c d ea eb ec ed ep eq er et eu =
    let x1 : List ℕ = (1 ∷ []) ++ four_bytes s.drawn in
    let x2 : List ℕ = x1 ++ four_bytes s.sent in
    let x3 : List ℕ = x2 ++ four_bytes s.taken in
    let q' = put_next was p q (1 ∷ []) a (four_bytes s.drawn) 1 5 ea refl refl ep eq in
    let r' = put_next was q r x1 b (four_bytes s.sent) 5 9 eb refl refl q' er in
    let t' = put_next was r t x2 c (four_bytes s.taken) 9 13 ec refl refl r' et in
    put_next was t u x3 d (four_bytes s.before) 13 17 ed refl refl t' eu

-- behind them the half, the root and the chains
pub front-put : (h : Held) (was v p q r t : List ℕ) → length h.half ≡ 32 → length h.root ≡ 32 → length h.sending ≡ 32 → length h.taking ≡ 32 →
    v ≡ count_bytes h.state ++ drop 17 was →
    p ≡ take 17 v ++ (h.half ++ drop (17 + length h.half) v) → q ≡ take 49 p ++ (h.root ++ drop (49 + length h.root) p) →
    r ≡ take 81 q ++ (h.sending ++ drop (81 + length h.sending) q) → t ≡ take 113 r ++ (h.taking ++ drop (113 + length h.taking) r) →
    t ≡ front_bytes h ++ drop 145 was
unfolding front_bytes
front-put h was v p q r t lh lr ls lt ev ep eq er et =
    let x1 : List ℕ = count_bytes h.state ++ h.half in
    let x2 : List ℕ = x1 ++ h.root in
    let x3 : List ℕ = x2 ++ h.sending in
    let l0 = length-counts h.state in
    let l1 = length-behind (count_bytes h.state) h.half 17 32 l0 lh in
    let l2 = length-behind x1 h.root 49 32 l1 lr in
    let l3 = length-behind x2 h.sending 81 32 l2 ls in
    let p' = put_next was v p (count_bytes h.state) h.half h.half 17 49 refl l0 (omega arith) ev ep in
    let q' = put_next was p q x1 h.root h.root 49 81 refl l1 (omega arith) p' eq in
    let r' = put_next was q r x2 h.sending h.sending 81 113 refl l2 (omega arith) q' er in
    put_next was r t x3 h.taking h.taking 113 145 refl l3 (omega arith) r' et

pub length_front : (h : Held) → length h.half ≡ 32 → length h.root ≡ 32 → length h.sending ≡ 32 → length h.taking ≡ 32 → length (front_bytes h) ≡ 145
unfolding front_bytes
length_front h lh lr ls lt =
    let l0 = length-counts h.state in
    let l1 = length-behind (count_bytes h.state) h.half 17 32 l0 lh in
    let l2 = length-behind (count_bytes h.state ++ h.half) h.root 49 32 l1 lr in
    let l3 = length-behind (count_bytes h.state ++ h.half ++ h.root) h.sending 81 32 l2 ls in
    length-behind (count_bytes h.state ++ h.half ++ h.root ++ h.sending) h.taking 113 32 l3 lt

-- behind the front the number of the keys put aside, and they themselves
pub body-put : (h : Held) (was p q part n : List ℕ) (count : ℕ) → length (front_bytes h) ≡ 145 → n ≡ two_bytes (length h.state.skipped) →
    p ≡ front_bytes h ++ drop 145 was → q ≡ take 145 p ++ (n ++ drop (145 + length n) p) →
    part ≡ aside_bytes h.state.skipped h.keys → length part ≡ 40 * count →
    put_mid 147 (147 + 40 * count - 147) q part ≡ body_bytes h ++ drop (147 + 40 * count) was
unfolding body_bytes
body-put h was p q part n count size en ep eq is long =
    let two : List ℕ = two_bytes (length h.state.skipped) in
    let q' = put_next was p q (front_bytes h) n two 145 147 en size refl ep eq in
    let l = length-behind (front_bytes h) two 145 2 size refl in
    put_next was q _ (front_bytes h ++ two) part (aside_bytes h.state.skipped h.keys) 147 (147 + 40 * count) is l (omega (arith, ap length is)) q'
    (put_mid-paste 147 _ q part part (length part) refl (omega arith) refl ∙ paste_all q 147 part (length part) refl)

-- a body and its digest, at the front of an output
module _ (was before after body digest : List ℕ) (end : ℕ) (size : length body ≡ end) (few : length digest ≡ 32) (so_far : before ≡ body ++ drop end was)
    (put : after ≡ take end before ++ (digest ++ drop (end + length digest) before)) where
  all_put : after ≡ (body ++ digest) ++ drop (end + 32) was
  all_put = put_next was before after body digest digest end (end + 32) refl size (omega arith) so_far put

  pub page_front : take (end + 32) after ≡ body ++ digest
  page_front = ap (take (end + 32)) all_put ∙ take_at (body ++ digest) (drop (end + 32) was) (end + 32) (length-behind body digest end 32 size few)

  pub page_rest : drop (end + 32) after ≡ drop (end + 32) was
  page_rest = ap (drop (end + 32)) all_put ∙ drop_at (body ++ digest) (drop (end + 32) was) (end + 32) (length-behind body digest end 32 size few)

-- a front that takes the place of as many bytes
pub front-size : (was now front : List ℕ) (n : ℕ) → now ≡ front ++ drop n was → length now ≡ length was → n ≤ length was → length front ≡ n
front-size was now front n e same h = omega (arith, length-append front (drop n was), length-drop n was, ap length e)

-- the digest of the bytes before a place, of which a front takes all
pub digest-of : (was before body : List ℕ) (end : ℕ) (digest : List ℕ) → length body ≡ end → before ≡ body ++ drop end was → digest ≡ sha_256 (take end before) → digest ≡ sha_256 body
digest-of was before body end digest size so_far is =
    let front : take end before ≡ body = ap (take end) so_far ∙ take_at body (drop end was) end size in
    cc
