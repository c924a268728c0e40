-- A message at the front of an output: its header, and behind it the sealed text.
use Rattle.std.proofs.Common.{◌≡◌, ℕ, ◌+◌, ◌≤◌, List, [], ◌++◌, length, take, drop, replicate, Ok, Err, Result, ap, ◌∙◌, arith}
use borrow.Rule.Slice.PartMut.{put_mid}
use Rattle.std.proofs.lemmas.List.{append_assoc, append-nil, length-append, length-drop, length-take-le, take_at, drop_at, drop-drop, drop_all, take_all}
use Rattle.std.proofs.lemmas.Slice.{drop-append-drop}
use Rattle.digest.specs.Hmac.{hmac_sha_256}
use Rattle.digest.proofs.Lengths.{length-hmac}
use Rattle.seal.specs.Answers.{SealAnswer}
use Rattle.seal.specs.Sealing.{covered, tag_key, tag_of, sealed}
use Rattle.seal.specs.declared.sealing.SealError.{SealError}
use Rattle.seal.specs.declared.sealing.SealError.TheVariants.{TooLong, NoRoom}
use Rattle.seal.proofs.Lengths.{length-chacha20}

pub length-covered : (key text : List ℕ) → length (covered key text) ≡ length text
length-covered key text = length-chacha20 key (replicate 12 0) 1 text

pub length-tag : (key bytes : List ℕ) → length (take 16 (hmac_sha_256 (tag_key key) bytes)) ≡ 16
length-tag key bytes = length-take-le 16 (hmac_sha_256 (tag_key key) bytes) (omega (arith, length-hmac (tag_key key) bytes))

pub length-sealed : (key header text : List ℕ) → length (sealed key header text) ≡ length text + 16
unfolding sealed
length-sealed key header text =
    length-append (covered key text) (tag_of key header (covered key text))
    ∙ omega (arith, length-covered key text, length-tag key (header ++ covered key text))

-- a short text is sealed where there is room
sealed-there : (key header text part after : List ℕ) (r : Result ℕ SealError) → SealAnswer key header text part after r → length text ≤ 1000 →
    length text + 16 ≤ length part → after ≡ sealed key header text ++ drop (length text + 16) part
sealed-there key header text part after (Ok size) a short room =
    a.output ∙ ap (λ (n : ℕ). sealed key header text ++ drop n part) a.counted
sealed-there key header text part after (Err TooLong) a short room = absurd (a.reason (omega arith))
sealed-there key header text part after (Err NoRoom) a short room = absurd (omega (arith, a.reason.1))

pub text-put : (key header text out ys : List ℕ) (r : Result ℕ SealError) → length text ≤ 1000 → length out ≡ 1063 → SealAnswer key header text (take 1016 (drop 47 out)) ys r →
    put_mid 47 1016 out ys ≡ take 47 out ++ (sealed key header text ++ drop (63 + length text) out)
text-put key header text out ys r short size a =
    let behind : length (drop 47 out) ≡ 1016 = length-drop 47 out ∙ omega arith in
    let part : take 1016 (drop 47 out) ≡ drop 47 out = take_all 1016 (drop 47 out) (omega arith) in
    let made = sealed-there key header text (take 1016 (drop 47 out)) ys r a short (omega (arith, ap length part)) in
    let none : drop 1016 (drop 47 out) ≡ [] = drop_all 1016 (drop 47 out) (omega arith) in
    let rest = drop-drop (length text + 16) 47 out in
    let sum : 47 + (length text + 16) ≡ 63 + length text = omega arith in
    let nil = append-nil (sealed key header text ++ drop (63 + length text) out) in
    cc

-- the header put first, and then the text
module _ (key header text out put after : List ℕ) (e : put ≡ take 0 out ++ (header ++ drop (0 + length header) out)) (size : length header ≡ 47)
    (f : after ≡ take 47 put ++ (sealed key header text ++ drop (63 + length text) put)) where
  all_put : after ≡ (header ++ sealed key header text) ++ drop (63 + length text) out
  all_put =
      let z : 0 + length header ≡ 47 = omega arith in
      let is : put ≡ header ++ drop 47 out = e ∙ ap (λ (n : ℕ). header ++ drop n out) z in
      let front = take_at header (drop 47 out) 47 size in
      let rest = drop-append-drop 47 out header (63 + length text) (omega arith) size in
      let group = append_assoc header (sealed key header text) (drop (63 + length text) out) in
      cc

  long : length (header ++ sealed key header text) ≡ 63 + length text
  long = length-append header (sealed key header text) ∙ omega (arith, length-sealed key header text)

  pub message_front : take (63 + length text) after ≡ header ++ sealed key header text
  message_front = ap (take (63 + length text)) all_put ∙ take_at (header ++ sealed key header text) (drop (63 + length text) out) (63 + length text) long

  pub message_rest : drop (63 + length text) after ≡ drop (63 + length text) out
  message_rest = ap (drop (63 + length text)) all_put ∙ drop_at (header ++ sealed key header text) (drop (63 + length text) out) (63 + length text) long
