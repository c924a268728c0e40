-- Two laws that the theorem would not notice: the tag is over all that stands before it, and nothing is read from elsewhere.
-- Assumes nothing.
use Rattle.std.specs.Prelude.{◌≡◌, ℕ, ◌-◌, List, ◌++◌, length, take, Some}
use Rattle.exchange.specs.Outside.{Outside, text_part, tag_part}
use Rattle.exchange.specs.Wire.{Parts, read_message, two_at}
use Rattle.exchange.specs.Held.{Held}
use Rattle.exchange.specs.Exchanges.{next_header, message_bytes, text_under}

-- all of a message but its last 16 bytes
abbrev pub before_tag : (bytes : List ℕ) → List ℕ
before_tag bytes = take (length bytes - 16) bytes

-- of a message that is written, and of one that opens, under whatever key: the tag is over every byte before it
pub record TagLaws (o : Outside) : Type 0 where
  pub written : (h : Held) (text : List ℕ) →
      let key : List ℕ = o.key_bytes h.sending in
      let before : List ℕ = next_header h (length text) ++ o.cover key text in
      message_bytes o h text ≡ before ++ o.tag key before
  pub opened : (bytes key text : List ℕ) (p : Parts) → read_message bytes ≡ Some p → text_under o key p ≡ Some text → bytes ≡ before_tag bytes ++ o.tag key (before_tag bytes)

-- the bytes that are read are the header's 47, the covered text, of the length that the header says, and the tag's 16, and no other
pub record Inside (bytes : List ℕ) (p : Parts) : Type 0 where
  pub whole : bytes ≡ p.header ++ (text_part p.body ++ tag_part p.body)
  pub header_length : length p.header ≡ 47
  pub text_length : length (text_part p.body) ≡ two_at p.header 45
  pub tag_length : length (tag_part p.body) ≡ 16

pub record Tagged : Type 0 where
  pub tags : (o : Outside) → TagLaws o
  pub inside : (bytes : List ℕ) (p : Parts) → read_message bytes ≡ Some p → Inside bytes p
