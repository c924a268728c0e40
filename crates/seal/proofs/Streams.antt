-- The stream's definitions, a step at a time.
use Rattle.std.proofs.Common.{◌≡◌, ℕ, zero, suc, ◌+◌, ◌-◌, ◌*◌, ◌/◌, ◌%◌, ◌^◌, ◌<◌, ◌≤◌, min, List, ◌++◌, length, get_or, take, drop, sym, refl, ap, ◌∙◌, inl, inr, add-one, arith, take-add}
use native.Mathlib.Nat.{mod-add-mod}
use lib.Bits.{bit_xor}
use lib.Lanes.{zip2}
use borrow.Rule.Slice.PartMut.{put_mid}
use Rattle.std.proofs.lemmas.List.{append_assoc, take_at, drop_at, drop-drop, take_all, drop_all, length-take-le, get_or_append_left, get_or-append_right, nil_from_length}
use Rattle.std.proofs.lemmas.Bool.{cases_lt}
use Rattle.seal.specs.ChaCha20.{double_rounds, column_rounds, diagonal_rounds, initial, block_of, counted, block, key_stream, blocks, chacha20}
use Rattle.seal.specs.Streaming.{Counts, Streamed}
use Rattle.seal.proofs.Lengths.{length-stream, stream_covers}
use Rattle.seal.proofs.Zips.{zip_append, zip_all, get_d_zip, length_zip, zip_xor_twice}

pub double_rounds_none : (s : List ℕ) → s ≡ double_rounds 0 s
unfolding double_rounds
double_rounds_none s = refl

pub double_rounds_more : (n : ℕ) (s : List ℕ) → diagonal_rounds (column_rounds (double_rounds n s)) ≡ double_rounds (n + 1) s
unfolding double_rounds
double_rounds_more n s = rw (add-one n)

-- a bound past the end is the end
take-end : (xs : List ℕ) (n to : ℕ) → to ≡ min n (length xs) → take n xs ≡ take to xs
take-end xs n to e =
    elim (cases_lt n (length xs)) [
      | inl h ↦ (let same : n ≡ to = omega arith in ap (λ m. take m xs) same)
      | inr h ↦ take_all n xs h ∙ sym (take_all to xs (omega arith))
    ]

drop-end : (xs : List ℕ) (n to : ℕ) → to ≡ min n (length xs) → drop n xs ≡ drop to xs
drop-end xs n to e =
    elim (cases_lt n (length xs)) [
      | inl h ↦ (let same : n ≡ to = omega arith in ap (λ m. drop m xs) same)
      | inr h ↦ drop_all n xs h ∙ sym (drop_all to xs (omega arith))
    ]

key-stream_more : (key nonce : List ℕ) (counter i : ℕ) → key_stream key nonce counter (i + 1) ≡ key_stream key nonce counter i ++ block key nonce (counter + i)
unfolding key_stream
key-stream_more key nonce counter i = rw (add-one i)

count-more : (key nonce : List ℕ) (c : ℕ) → counted (initial key nonce c) ≡ initial key nonce ((c + 1) % 2 ^ 32)
count-more key nonce c = refl

-- the loop over a text after i blocks: the first 64 * i bytes are done, and the state counts on
pub record UnderWay (key nonce : List ℕ) (counter : ℕ) (before text state : List ℕ) (i : ℕ) : Type 0 where
  pub done : text ≡ zip2 bit_xor (take (64 * i) before) (key_stream key nonce counter i) ++ drop (64 * i) before
  pub counts : state ≡ initial key nonce ((counter + i) % 2 ^ 32)

pub under-way_none : (key nonce : List ℕ) (counter : ℕ) (before state : List ℕ) → counter < 2 ^ 32 → state ≡ initial key nonce counter → UnderWay key nonce counter before before state 0
under-way_none key nonce counter before state h e =
    let small : (counter + 0) % 2 ^ 32 ≡ counter = omega arith in
    record { done = refl; counts = (cc) }

module _ (key nonce : List ℕ) (counter : ℕ) (before text state part : List ℕ) (i to : ℕ) where
  done_more : 64 * i ≤ length before → to ≡ min (64 * i + 64) (length before) → counter + i < 2 ^ 32 → UnderWay key nonce counter before text state i → part ≡ zip2 bit_xor (take (to - 64 * i) (drop (64 * i) text)) (block_of state) → put_mid (64 * i) (to - 64 * i) text part ≡ zip2 bit_xor (take (64 * (i + 1)) before) (key_stream key nonce counter (i + 1)) ++ drop (64 * (i + 1)) before
  done_more h end low way is =
      let ks = key_stream key nonce counter i in
      let front = zip2 bit_xor (take (64 * i) before) ks in
      let rest = drop (64 * i) before in
      let chunk = take (to - 64 * i) rest in
      let short = length-take-le (64 * i) before h in
      let stream = length-stream key nonce counter i in
      let even : length (take (64 * i) before) ≡ length ks = omega arith in
      let long : length front ≡ 64 * i = length_zip bit_xor (take (64 * i) before) ks (omega arith) ∙ short in
      let at_front = take_at front rest (64 * i) long in
      let at_rest = drop_at front rest (64 * i) long in
      let small : (counter + i) % 2 ^ 32 ≡ counter + i = omega arith in
      let onto : 64 * i + (to - 64 * i) ≡ to = omega arith in
      let next : 64 * i + 64 ≡ 64 * (i + 1) = omega arith in
      let left = drop-drop (to - 64 * i) (64 * i) before in
      let more = take-add (64 * i) (to - 64 * i) before in
      let te = take-end before (64 * i + 64) to end in
      let de = drop-end before (64 * i + 64) to end in
      let joins = zip_append bit_xor (take (64 * i) before) chunk ks (block key nonce (counter + i)) even in
      let blocks_more = key-stream_more key nonce counter i in
      let group = append_assoc front (zip2 bit_xor chunk (block key nonce (counter + i))) (drop to before) in
      let f = way.done in
      let s = way.counts in
      cc

  pub under_way_more : (state' : List ℕ) → 64 * i ≤ length before → to ≡ min (64 * i + 64) (length before) → counter + i < 2 ^ 32 → UnderWay key nonce counter before text state i → part ≡ zip2 bit_xor (take (to - 64 * i) (drop (64 * i) text)) (block_of state) → state' ≡ counted state → UnderWay key nonce counter before (put_mid (64 * i) (to - 64 * i) text part) state' (i + 1)
  under_way_more state' h end low way is same =
      let count = count-more key nonce ((counter + i) % 2 ^ 32) in
      let wraps = mod-add-mod (counter + i) (2 ^ 32) 1 in
      let sum : counter + i + 1 ≡ counter + (i + 1) = omega arith in
      let s = way.counts in
      record { done = done_more h end low way is; counts = (cc) }

-- where every block is done, so is the text
pub under-way_all : (key nonce : List ℕ) (counter : ℕ) (before text state : List ℕ) (i : ℕ) → i ≡ blocks (length before) → UnderWay key nonce counter before text state i → text ≡ chacha20 key nonce counter before
unfolding chacha20
under-way_all key nonce counter before text state i e way =
    let all = zip_all bit_xor before (key_stream key nonce counter i) (64 * i) (omega arith) in
    let d = way.done in
    cc

-- the stream applied twice is the identity
pub stream_twice : (key nonce : List ℕ) (counter : ℕ) (text : List ℕ) → chacha20 key nonce counter (chacha20 key nonce counter text) ≡ text
unfolding chacha20
stream_twice key nonce counter text =
    let ks = key_stream key nonce counter (blocks (length text)) in
    let covers = stream_covers key nonce counter text in
    let same = length_zip bit_xor text ks covers in
    let undone = zip_xor_twice text ks covers in
    cc

-- the stream's byte at a place is its block's
stream_place : (key nonce : List ℕ) (counter n i : ℕ) → i < 64 * n → get_or (key_stream key nonce counter n) i 0 ≡ get_or (block key nonce (counter + i / 64)) (i % 64) 0
unfolding key_stream
stream_place key nonce counter zero i h = absurd (omega arith)
stream_place key nonce counter (suc n) i h =
    let before = key_stream key nonce counter n in
    let last = block key nonce (counter + n) in
    let long = length-stream key nonce counter n in
    elim (cases_lt i (64 * n)) [
      | inl low ↦ get_or_append_left before last 0 i (omega arith) ∙ stream_place key nonce counter n i low
      | inr high ↦ (
          let row : i / 64 ≡ n = omega arith in
          let column : i % 64 ≡ i - 64 * n = omega arith in
          let at = get_or-append_right before last (64 * n) i 0 long high in
          cc
          )
    ]

stream_places : (key nonce : List ℕ) (counter : ℕ) (text : List ℕ) (i : ℕ) → i < length text → get_or (chacha20 key nonce counter text) i 0 ≡ bit_xor (get_or text i 0) (get_or (block key nonce (counter + i / 64)) (i % 64) 0)
unfolding chacha20
stream_places key nonce counter text i h =
    let n = blocks (length text) in
    let ks = key_stream key nonce counter n in
    get_d_zip bit_xor text ks i h (omega (arith, stream_covers key nonce counter text)) ∙ ap (bit_xor (get_or text i 0)) (stream_place key nonce counter n i (omega arith))

pub streamed : (key nonce : List ℕ) (counter : ℕ) (before after : List ℕ) → Counts counter (length before) → after ≡ chacha20 key nonce counter before → Streamed key nonce counter before after
streamed key nonce counter before after counts e =
    record {
      counts = counts;
      text = e;
      twice = ap (chacha20 key nonce counter) e ∙ stream_twice key nonce counter before;
      places = λ i h. ap (λ xs. get_or xs i 0) e ∙ stream_places key nonce counter before i h;
    }

-- nothing is nothing under the stream
pub stream_nothing : (key nonce : List ℕ) (counter : ℕ) (text : List ℕ) → length text ≡ 0 → text ≡ chacha20 key nonce counter text
unfolding chacha20
stream_nothing key nonce counter text h = let none = nil_from_length text h in cc
