-- The functions of the outside: the digests, the stream, the tag and the two key boxes; and the laws that they are taken to keep.
-- Assumes nothing.
use Rattle.std.specs.Prelude.{◌≡◌, ℕ, ◌-◌, Bool, true, false, cond, ◌&&◌, List, [], ◌∷◌, ◌++◌, length, take, drop, Some, None, Option, ◌==◌}
use Rattle.runs.specs.declared.types.Who.{Who}
use Rattle.runs.specs.declared.types.Who.TheVariants.{First, Second}

-- A key by when it was drawn: by which side's box, and as its how-manieth. A draw that a stop undid is never given again.
pub record Draw : Type 0 where
  pub who : Who
  pub nth : ℕ

-- link_bytes: the 64 bytes of a link, from a root and a joint secret; the first 32 are the next root, the others the beginning of the link's chain.
-- key_bytes, next_bytes: from a chain's value, the key of the message at its place, and the value at the next place.
-- cover: a text under a message's key, and back. tag: the tag of some bytes under a message's key.
-- half: the public half of a draw. joint: what its secret half gives with a public half, where its box can answer for that half
pub record Outside : Type 0 where
  pub link_bytes : (root joint : List ℕ) → List ℕ
  pub key_bytes : (chain : List ℕ) → List ℕ
  pub next_bytes : (chain : List ℕ) → List ℕ
  pub cover : (key text : List ℕ) → List ℕ
  pub tag : (key bytes : List ℕ) → List ℕ
  pub half : Draw → List ℕ
  pub joint : Draw → (half : List ℕ) → Option (List ℕ)

-- ### Sealing and opening

-- what stands behind a header: the covered text, and the tag over the header and it
unfoldable pub seal : Outside → (key header text : List ℕ) → List ℕ
seal o key header text = o.cover key text ++ o.tag key (header ++ o.cover key text)

-- its parts: the last 16 bytes are the tag
abbrev pub text_part : (body : List ℕ) → List ℕ
text_part body = take (length body - 16) body

abbrev pub tag_part : (body : List ℕ) → List ℕ
tag_part body = drop (length body - 16) body

unfoldable pub same_bytes : List ℕ → List ℕ → Bool
same_bytes [] [] = true
same_bytes [] (y ∷ ys) = false
same_bytes (x ∷ xs) [] = false
same_bytes (x ∷ xs) (y ∷ ys) = x == y && same_bytes xs ys

-- the text, if the tag is the one of this header and this covered text
unfoldable pub unseal : Outside → (key header body : List ℕ) → Option (List ℕ)
unseal o key header body =
    cond (same_bytes (tag_part body) (o.tag key (header ++ text_part body))) (Some (o.cover key (text_part body))) None

-- ### The laws

-- a draw of the first side and one of the second make the same secret, each with the other's public half
pub record Meets (o : Outside) (a b : Draw) : Type 0 where
  pub secret : List ℕ
  pub ours : o.joint a (o.half b) ≡ Some secret
  pub theirs : o.joint b (o.half a) ≡ Some secret

pub record Lawful (o : Outside) : Type 0 where
  pub link_length : (root joint : List ℕ) → length (o.link_bytes root joint) ≡ 64
  pub key_length : (chain : List ℕ) → length (o.key_bytes chain) ≡ 32
  pub next_length : (chain : List ℕ) → length (o.next_bytes chain) ≡ 32
  pub cover_length : (key text : List ℕ) → length (o.cover key text) ≡ length text
  pub cover_twice : (key text : List ℕ) → o.cover key (o.cover key text) ≡ text
  pub tag_length : (key bytes : List ℕ) → length (o.tag key bytes) ≡ 16
  pub half_length : (d : Draw) → length (o.half d) ≡ 32
  pub meet : (m n : ℕ) → Meets o (record { who = First; nth = m }) (record { who = Second; nth = n })
