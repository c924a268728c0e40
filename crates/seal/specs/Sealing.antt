-- Sealing: a text under the stream, and a tag over the header and the sealed text.
use Rattle.std.specs.Prelude.{◌≡◌, ℕ, ◌-◌, ◌≤◌, List, [], ◌∷◌, ◌++◌, length, take, drop, replicate}
use Rattle.digest.specs.Hmac.{hmac_sha_256}
use Rattle.seal.specs.ChaCha20.{chacha20}

-- the text under ChaCha20 (RFC 8439, section 2.4) with the message's key, a nonce of zeros and a counter that begins at 1
abbrev pub covered : List ℕ → List ℕ → List ℕ
covered key text = chacha20 key (replicate 12 0) 1 text

-- the tag has a key of its own: HMAC (RFC 2104) of the message's key with the byte 3
abbrev pub tag_key : List ℕ → List ℕ
tag_key key = hmac_sha_256 key (3 ∷ [])

-- the first 16 bytes of HMAC over the header and then the covered text
abbrev pub tag_of : List ℕ → List ℕ → List ℕ → List ℕ
tag_of key header text = take 16 (hmac_sha_256 (tag_key key) (header ++ text))

-- what stands behind the header: the covered text and its tag
unfoldable pub sealed : List ℕ → List ℕ → List ℕ → List ℕ
sealed key header text = covered key text ++ tag_of key header (covered key text)

-- the parts of what stands behind a header: all but the last 16 bytes, and those
abbrev pub body_text : List ℕ → List ℕ
body_text body = take (length body - 16) body

abbrev pub body_tag : List ℕ → List ℕ
body_tag body = drop (length body - 16) body

-- there is a tag, and it is the one of this header and this covered text
pub record Genuine (key header body : List ℕ) : Type 0 where
  pub long : 16 ≤ length body
  pub tag : body_tag body ≡ tag_of key header (body_text body)

-- some text was sealed to it
abbrev pub WasSealed : List ℕ → List ℕ → List ℕ → Type 0
WasSealed key header body = (text : List ℕ) × (body ≡ sealed key header text)

-- a body is genuine exactly if some text was sealed to it
abbrev pub ExactlySealed : List ℕ → List ℕ → List ℕ → Type 0
ExactlySealed key header body =
    (Genuine key header body → WasSealed key header body) × (WasSealed key header body → Genuine key header body)
