-- Sealed texts: their parts, and that opening undoes sealing.
use Rattle.std.proofs.Common.{◌≡◌, ℕ, ◌+◌, ◌-◌, ◌≤◌, List, ◌++◌, length, take, drop, replicate, Ok, Err, Result, sym, ap, ◌∙◌, arith}
use borrow.Rule.Slice.PartMut.{put_mid, post_of}
use Rattle.std.proofs.lemmas.List.{append_assoc, take_at, drop_at, drop-drop, take-append-drop, length-append, length-drop, length-take-le, take_all}
use Rattle.digest.specs.Hmac.{hmac_sha_256}
use Rattle.digest.proofs.Lengths.{length-hmac}
use Rattle.seal.specs.Answers.{OpenAnswer, Undone}
use Rattle.seal.specs.Sealing.{covered, tag_key, tag_of, sealed, body_text, body_tag, Genuine, WasSealed, ExactlySealed}
use Rattle.seal.specs.Streaming.{Counts}
use Rattle.seal.specs.declared.sealing.OpenError.{OpenError}
use Rattle.seal.specs.declared.sealing.OpenError.TheVariants.{TooLong, NoRoom, Forged}
use Rattle.seal.proofs.Lengths.{length-chacha20}
use Rattle.seal.proofs.Streams.{stream_twice}

length-covered : (key text : List ℕ) → length (covered key text) ≡ length text
length-covered key text = length-chacha20 key (replicate 12 0) 1 text

covered-twice : (key text : List ℕ) → covered key (covered key text) ≡ text
covered-twice key text = stream_twice key (replicate 12 0) 1 text

length-tag : (key header text : List ℕ) → length (tag_of key header text) ≡ 16
length-tag key header text =
    length-take-le 16 (hmac_sha_256 (tag_key key) (header ++ text)) (omega (arith, length-hmac (tag_key key) (header ++ text)))

-- the covered text at the front of an output, and then the tag behind it
pub seal-written : (key header text before cover tag : List ℕ) (size : ℕ) → size ≡ length text → size + 16 ≤ length before → cover ≡ covered key text → tag ≡ tag_of key header (take (size - 0) (cover ++ post_of 0 (size - 0) before)) → put_mid size (size + 16 - size) (cover ++ post_of 0 (size - 0) before) tag ≡ sealed key header text ++ drop (size + 16) before
unfolding sealed
seal-written key header text before cover tag size is room e f =
    let rest = drop size before in
    let long : length cover ≡ size = ap length e ∙ length-covered key text ∙ sym is in
    let whole : size - 0 ≡ size = omega arith in
    let width : size + 16 - size ≡ 16 = omega arith in
    let at_front = take_at cover rest size long in
    let at_rest = drop_at cover rest size long in
    let left = drop-drop 16 size before in
    let group = append_assoc cover tag (drop (size + 16) before) in
    cc

-- the tag that came, and what is opened under it
module _ (key header body : List ℕ) (size : ℕ) (is : size ≡ length body - 16) where
  came_part : (came : List ℕ) → came ≡ take 16 (drop size body) → came ≡ body_tag body
  came_part came e =
      let long = length-drop size body in
      let all = take_all 16 (drop size body) (omega arith) in
      cc

  pub genuine_came : (came : List ℕ) → 16 ≤ length body → came ≡ take 16 (drop size body) → came ≡ tag_of key header (take (size - 0) body) → Genuine key header body
  genuine_came came long e f =
      let whole : size - 0 ≡ length body - 16 = omega arith in
      let part = came_part came e in
      record { long = long; tag = (cc) }

  pub came_genuine : (came : List ℕ) → came ≡ take 16 (drop size body) → Genuine key header body → came ≡ tag_of key header (take (size - 0) body)
  came_genuine came e genuine =
      let whole : size - 0 ≡ length body - 16 = omega arith in
      let part = came_part came e in
      let tag = genuine.tag in
      cc

  pub open_written : (before cover : List ℕ) → cover ≡ covered key (take (size - 0) body) → cover ++ post_of 0 (size - 0) before ≡ covered key (body_text body) ++ drop size before
  open_written before cover e =
      let whole : size - 0 ≡ size = omega arith in
      cc

module _ (key header text body : List ℕ) (is : body ≡ sealed key header text) where
  sealed_long : length body ≡ length text + 16
  unfolding sealed
  sealed_long =
      let cover = covered key text in
      let sum = length-append cover (tag_of key header cover) in
      let front = length-covered key text in
      let behind = length-tag key header cover in
      ap length is ∙ omega arith

  sealed_text : body_text body ≡ covered key text
  unfolding sealed
  sealed_text =
      let size : length body - 16 ≡ length text = omega (arith, sealed_long) in
      let cover = covered key text in
      let at = take_at cover (tag_of key header cover) (length text) (length-covered key text) in
      cc

  sealed_tag : body_tag body ≡ tag_of key header (covered key text)
  unfolding sealed
  sealed_tag =
      let size : length body - 16 ≡ length text = omega (arith, sealed_long) in
      let cover = covered key text in
      let at = drop_at cover (tag_of key header cover) (length text) (length-covered key text) in
      cc

  sealed_genuine : Genuine key header body
  sealed_genuine =
      record { long = omega (arith, sealed_long); tag = sealed_tag ∙ ap (tag_of key header) (sym sealed_text) }

  -- opening undoes sealing
  pub undone : (before after : List ℕ) (r : Result ℕ OpenError) → OpenAnswer key header body before after r → Counts 1 (length text) → length text ≤ length before → Undone text before after r
  undone before after (Ok size) opened counts room =
      let same : size ≡ length text = omega (arith, sealed_long, opened.counted) in
      let again = covered-twice key text in
      let part = sealed_text in
      let output = opened.output in
      record { opened = ap Ok same; output = (cc) }
  undone before after (Err TooLong) refused counts room =
      let size : length body - 16 ≡ length text = omega (arith, sealed_long) in
      absurd (refused.reason (omega arith))
  undone before after (Err NoRoom) refused counts room = absurd (omega (arith, sealed_long, refused.reason.1))
  undone before after (Err Forged) refused counts room = absurd (refused.reason.2 sealed_genuine)

-- what is genuine was sealed
genuine-sealed : (key header body : List ℕ) → Genuine key header body → WasSealed key header body
unfolding sealed
genuine-sealed key header body genuine =
    let again = covered-twice key (body_text body) in
    let parts = take-append-drop (length body - 16) body in
    let tag = genuine.tag in
    (covered key (body_text body), (cc))

pub exactly-sealed : (key header body : List ℕ) → ExactlySealed key header body
exactly-sealed key header body =
    (genuine-sealed key header body, (λ was. sealed_genuine key header was.0 body was.1))
