-- The page of a valid side says that side, and passes all tests.
use Rattle.std.proofs.Common.{◌≡◌, ℕ, ◌+◌, ◌*◌, ◌^◌, ◌<◌, List, [], ◌∷◌, ◌++◌, length, get_or, take, drop, sym, refl, ap, ◌∙◌, arith, length-append}
use Rattle.std.specs.List.{AllByRecursion as All}
use Rattle.std.proofs.lemmas.List.{append_assoc, drop-drop, get_or-drop, take_at, drop_at}
use Rattle.digest.specs.Sha256.{sha_256}
use Rattle.digest.proofs.Lengths.{length-sha_256}
use Rattle.ratchet.specs.declared.types.Mark.{Mark}
use Rattle.ratchet.specs.State.{State}
use Rattle.runs.specs.declared.types.Who.{Who}
use Rattle.exchange.specs.Wire.{two_bytes, four_at, two_at}
use Rattle.exchange.specs.Held.{Held}
use Rattle.exchange.proofs.Wires.{four-read}
use Rattle.page.specs.Layout.{count_bytes, front_bytes, entry_bytes, aside_bytes, body_bytes, page_bytes}
use Rattle.page.specs.Valid.{Aside, Valid}
use Rattle.page.specs.Parts.{mark_at, marks_in, keys_in, state_in, held_in, Whole}
use Rattle.page.proofs.Numbers.{two-read}
use Rattle.page.proofs.Puts.{length-counts, length-behind, length_front}

-- ### Entries

-- link and place can be written
abbrev pub Writable : Mark → Type 0
Writable m = (m.link < 2 ^ 32) × (m.place < 2 ^ 32)

pub length-entry : (m : Mark) (k : List ℕ) → length k ≡ 32 → length (entry_bytes m k) ≡ 40
unfolding entry_bytes
length-entry m k e = omega arith

-- behind the first entry the others
entry_drop : (m : Mark) (k others rest : List ℕ) → length k ≡ 32 → drop 40 (entry_bytes m k ++ others ++ rest) ≡ others ++ rest
entry_drop m k others rest e = rw append_assoc (drop_at (entry_bytes m k) (others ++ rest) 40 (length-entry m k e))

entry_mark : (m : Mark) (k rest : List ℕ) → Writable m → mark_at (entry_bytes m k ++ rest) 0 ≡ m
unfolding entry_bytes
entry_mark m k rest w =
    let link : four_at (entry_bytes m k ++ rest) 0 ≡ m.link = four-read m.link w.0 in
    let place : four_at (entry_bytes m k ++ rest) 4 ≡ m.place = four-read m.place w.1 in
    λ i. record { link = link i; place = place i }

entry_key : (m : Mark) (k rest : List ℕ) → length k ≡ 32 → take 32 (drop 8 (entry_bytes m k ++ rest)) ≡ k
unfolding entry_bytes
entry_key m k rest e = take_at k rest 32 e

marks-back : (ms : List Mark) (ks : List (List ℕ)) (rest : List ℕ) → length ks ≡ length ms → All Writable ms → All (λ k. length k ≡ 32) ks →
    marks_in (length ms) (aside_bytes ms ks ++ rest) ≡ ms
unfolding marks_in aside_bytes
marks-back [] ks rest e w s = refl
marks-back (m ∷ ms) [] rest e w s = absurd (omega arith)
marks-back (m ∷ ms) (k ∷ ks) rest e w s =
    let behind = entry_drop m k (aside_bytes ms ks) rest s.0 in
    let mark = entry_mark m k (aside_bytes ms ks ++ rest) w.0 in
    let others = marks-back ms ks rest (omega arith) w.1 s.1 in
    let group = append_assoc (entry_bytes m k) (aside_bytes ms ks) rest in
    let here : mark_at (entry_bytes m k ++ aside_bytes ms ks ++ rest) 0 ≡ m = ap (λ (l : List ℕ). mark_at l 0) group ∙ mark in
    let there : marks_in (length ms) (drop 40 (entry_bytes m k ++ aside_bytes ms ks ++ rest)) ≡ ms = ap (marks_in (length ms)) behind ∙ others in
    λ i. here i ∷ there i

keys-back : (ms : List Mark) (ks : List (List ℕ)) (rest : List ℕ) → length ks ≡ length ms → All (λ k. length k ≡ 32) ks →
    keys_in (length ms) (aside_bytes ms ks ++ rest) ≡ ks
unfolding keys_in aside_bytes
keys-back [] [] rest e s = refl
keys-back [] (k ∷ ks) rest e s = absurd (omega arith)
keys-back (m ∷ ms) [] rest e s = absurd (omega arith)
keys-back (m ∷ ms) (k ∷ ks) rest e s =
    let behind = entry_drop m k (aside_bytes ms ks) rest s.0 in
    let others = keys-back ms ks rest (omega arith) s.1 in
    let group = append_assoc (entry_bytes m k) (aside_bytes ms ks) rest in
    let here : take 32 (drop 8 (entry_bytes m k ++ aside_bytes ms ks ++ rest)) ≡ k = ap (λ (l : List ℕ). take 32 (drop 8 l)) group ∙ entry_key m k (aside_bytes ms ks ++ rest) s.0 in
    let there : keys_in (length ms) (drop 40 (entry_bytes m k ++ aside_bytes ms ks ++ rest)) ≡ ks = ap (keys_in (length ms)) behind ∙ others in
    λ i. here i ∷ there i

length-aside : (ms : List Mark) (ks : List (List ℕ)) → length ks ≡ length ms → All (λ k. length k ≡ 32) ks → length (aside_bytes ms ks) ≡ 40 * length ms
unfolding aside_bytes
length-aside [] ks e s = refl
length-aside (m ∷ ms) [] e s = absurd (omega arith)
length-aside (m ∷ ms) (k ∷ ks) e s =
    length-append (entry_bytes m k) (aside_bytes ms ks) ∙ omega (arith, length-entry m k s.0, length-aside ms ks (omega arith) s.1)

marks-writable : (drawn taken : ℕ) (ms : List Mark) → drawn < 2 ^ 32 → All (Aside drawn taken) ms → All (λ m. m.place < 2 ^ 32) ms → All Writable ms
marks-writable drawn taken [] h a p = tt
marks-writable drawn taken (m ∷ ms) h a p = ((omega (arith, a.0.old), p.0), marks-writable drawn taken ms h a.1 p.1)

-- ### The page

-- what stands from a place on, behind a part of that length
part_at : (b p x rest : List ℕ) (n : ℕ) → b ≡ p ++ (x ++ rest) → length p ≡ n → length x ≡ 32 → take 32 (drop n b) ≡ x
part_at b p x rest n e f g = ap (λ (l : List ℕ). take 32 (drop n l)) e ∙ (ap (take 32) (drop_at p (x ++ rest) n f) ∙ take_at x rest 32 g)

module _ (who : Who) (h : Held) (v : Valid who h) where
  abbrev b : List ℕ
  b = page_bytes h

  abbrev ms : List Mark
  ms = h.state.skipped

  abbrev two : List ℕ
  two = two_bytes (length ms)

  abbrev aside : List ℕ
  aside = aside_bytes ms h.keys

  abbrev digest : List ℕ
  digest = sha_256 (body_bytes h)

  front_long : length (front_bytes h) ≡ 145
  front_long = length_front h v.sized.half v.sized.root v.sized.sending v.sized.taking

  aside_long : length aside ≡ 40 * length ms
  aside_long = length-aside ms h.keys v.in_step v.sized.keys

  body_long : length (body_bytes h) ≡ 147 + 40 * length ms
  unfolding body_bytes
  body_long = length-append (front_bytes h ++ two) aside ∙ omega (arith, length-append (front_bytes h) two, front_long, aside_long)

  pub page_long : length b ≡ 179 + 40 * length ms
  unfolding page_bytes
  page_long = length-append (body_bytes h) digest ∙ omega (arith, body_long, length-sha_256 (body_bytes h))

  -- the parts, each behind those before it
  behind_front : drop 145 b ≡ two ++ (aside ++ digest)
  unfolding page_bytes body_bytes
  behind_front =
      let group : b ≡ front_bytes h ++ (two ++ (aside ++ digest)) = simp append_assoc in
      ap (drop 145) group ∙ drop_at (front_bytes h) (two ++ (aside ++ digest)) 145 front_long

  behind_count : drop 147 b ≡ aside ++ digest
  behind_count = sym (drop-drop 2 145 b) ∙ ap (drop 2) behind_front

  count_read : two_at b 145 ≡ length ms
  count_read =
      let p = get_or-drop 145 b 0 0 in
      let q = get_or-drop 145 b 1 0 in
      let x = ap (λ (l : List ℕ). get_or l 0 0) behind_front in
      let y = ap (λ (l : List ℕ). get_or l 1 0) behind_front in
      omega (arith, two-read (length ms) v.few)

  marks_read : marks_in (two_at b 145) (drop 147 b) ≡ ms
  marks_read =
      let fit = marks-writable h.state.drawn h.state.taken ms v.counted.drawn v.sound.aside v.counted.places in
      let back = marks-back ms h.keys digest v.in_step fit v.sized.keys in
      let n = count_read in
      let l = behind_count in
      cc

  keys_read : keys_in (two_at b 145) (drop 147 b) ≡ h.keys
  keys_read =
      let back = keys-back ms h.keys digest v.in_step v.sized.keys in
      let n = count_read in
      let l = behind_count in
      cc

  state_read : state_in b ≡ h.state
  unfolding page_bytes body_bytes front_bytes count_bytes
  state_read =
      let s : State = h.state in
      let drawn : four_at b 1 ≡ s.drawn = four-read s.drawn v.counted.drawn in
      let sent : four_at b 5 ≡ s.sent = four-read s.sent v.counted.sent in
      let taken : four_at b 9 ≡ s.taken = four-read s.taken v.counted.taken in
      let before : four_at b 13 ≡ s.before = four-read s.before v.counted.before in
      λ i. record { drawn = drawn i; sent = sent i; taken = taken i; before = before i; skipped = marks_read i }

  half_read : take 32 (drop 17 b) ≡ h.half
  unfolding page_bytes body_bytes front_bytes
  half_read = part_at b (count_bytes h.state) h.half (h.root ++ (h.sending ++ (h.taking ++ (two ++ (aside ++ digest))))) 17 (simp append_assoc) (length-counts h.state) v.sized.half

  root_read : take 32 (drop 49 b) ≡ h.root
  unfolding page_bytes body_bytes front_bytes
  root_read =
      part_at b (count_bytes h.state ++ h.half) h.root (h.sending ++ (h.taking ++ (two ++ (aside ++ digest)))) 49 (simp append_assoc)
      (length-behind (count_bytes h.state) h.half 17 32 (length-counts h.state) v.sized.half) v.sized.root

  -- the chains stand at the end of the front
  sending_read : take 32 (drop 81 b) ≡ h.sending
  unfolding page_bytes body_bytes front_bytes
  sending_read =
      part_at b (count_bytes h.state ++ h.half ++ h.root) h.sending (h.taking ++ (two ++ (aside ++ digest))) 81 (simp append_assoc)
      (length-behind (count_bytes h.state ++ h.half) h.root 49 32 (length-behind (count_bytes h.state) h.half 17 32 (length-counts h.state) v.sized.half) v.sized.root)
      v.sized.sending

  taking_read : take 32 (drop 113 b) ≡ h.taking
  unfolding page_bytes body_bytes front_bytes
  taking_read =
      part_at b (count_bytes h.state ++ h.half ++ h.root ++ h.sending) h.taking (two ++ (aside ++ digest)) 113 (simp append_assoc)
      (length-behind (count_bytes h.state ++ h.half ++ h.root) h.sending 81 32
      (length-behind (count_bytes h.state ++ h.half) h.root 49 32 (length-behind (count_bytes h.state) h.half 17 32 (length-counts h.state) v.sized.half) v.sized.root)
      v.sized.sending) v.sized.taking

  -- all that it says
  pub held_read : held_in b ≡ h
  held_read = λ i. record { state = state_read i; root = root_read i; sending = sending_read i; taking = taking_read i; half = half_read i; keys = keys_read i }

  first_read : get_or b 0 0 ≡ 1
  unfolding page_bytes body_bytes front_bytes count_bytes
  first_read = refl

  digest_read : drop (147 + 40 * two_at b 145) b ≡ sha_256 (take (147 + 40 * two_at b 145) b)
  unfolding page_bytes
  digest_read =
      let e : 147 + 40 * two_at b 145 ≡ 147 + 40 * length ms = ap (λ n. 147 + 40 * n) count_read in
      let front = take_at (body_bytes h) digest (147 + 40 * length ms) body_long in
      let rest = drop_at (body_bytes h) digest (147 + 40 * length ms) body_long in
      cc

  pub whole_read : Whole b
  whole_read = record { version = first_read; few = omega (arith, count_read, v.few); long = omega (arith, count_read, page_long); digest = digest_read }
