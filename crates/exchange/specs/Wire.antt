-- A message as bytes: 82, its three numbers, the public half of its sender's last key, the length of its text, the covered text and the tag.
-- Assumes nothing.
use Rattle.std.specs.Prelude.{◌≡◌, ℕ, ◌+◌, ◌-◌, ◌*◌, ◌/◌, ◌%◌, ◌^◌, ◌<◌, ◌≤◌, Bool, cond, ◌&&◌, List, [], ◌∷◌, ◌++◌, length, take, drop, Some, None, Option, ◌==◌, nat_le, slice_index}
use Rattle.std.specs.List.{AllByRecursion}
use Rattle.ratchet.specs.declared.types.Message.{Message}

-- ### Writing

-- numbers of 4 and of 2 bytes, the high byte first
abbrev pub four_bytes : ℕ → List ℕ
four_bytes n = n / 16777216 % 256 ∷ n / 65536 % 256 ∷ n / 256 % 256 ∷ n % 256 ∷ []

abbrev pub two_bytes : ℕ → List ℕ
two_bytes n = n / 256 % 256 ∷ n % 256 ∷ []

-- the 47 bytes before the text: 82 (1), link (4), place (4), count before (4), public half (32), length of the text (2)
unfoldable pub header_bytes : Message → (half : List ℕ) → (text_length : ℕ) → List ℕ
header_bytes m half n = (82 ∷ []) ++ four_bytes m.mark.link ++ four_bytes m.mark.place ++ four_bytes m.before ++ half ++ two_bytes n

-- ### Reading

-- the number in the 4 or 2 bytes from a place on
abbrev pub four_at : List ℕ → ℕ → ℕ
four_at bs i = slice_index bs i * 16777216 + slice_index bs (i + 1) * 65536 + slice_index bs (i + 2) * 256 + slice_index bs (i + 3)

abbrev pub two_at : List ℕ → ℕ → ℕ
two_at bs i = slice_index bs i * 256 + slice_index bs (i + 1)

-- what is read: the header as it came, what it says, and what stands behind it, covered text and tag
pub record Parts : Type 0 where
  pub header : List ℕ
  pub message : Message
  pub half : List ℕ
  pub body : List ℕ

-- the first byte is 82, the length is that of the message, and the text is not above 1,000
abbrev pub well_formed : List ℕ → Bool
well_formed bs = slice_index bs 0 == 82 && (length bs == 63 + two_at bs 45 && nat_le (two_at bs 45) 1000)

abbrev pub parts_of : List ℕ → Parts
parts_of bs = record {
  header = take 47 bs;
  message = record { mark = record { link = four_at bs 1; place = four_at bs 5 }; before = four_at bs 9 };
  half = take 32 (drop 13 bs);
  body = drop 47 bs;
}

unfoldable pub read_message : List ℕ → Option Parts
read_message bs = cond (well_formed bs) (Some (parts_of bs)) None

-- ### The laws

-- a message that can be written: its numbers fit 4 bytes, the half has 32 bytes, and the body a text of at most 1,000 bytes and a tag
pub record Writable (m : Message) (half body : List ℕ) : Type 0 where
  pub link : m.mark.link < 2 ^ 32
  pub place : m.mark.place < 2 ^ 32
  pub before : m.before < 2 ^ 32
  pub half_length : length half ≡ 32
  pub tagged : 16 ≤ length body
  pub short : length body ≤ 1016

abbrev pub header_of : Message → (half body : List ℕ) → List ℕ
header_of m half body = header_bytes m half (length body - 16)

-- the header has 47 bytes, and reading what was written gives it back
pub record Round (m : Message) (half body : List ℕ) : Type 0 where
  pub header_length : length (header_of m half body) ≡ 47
  pub back : read_message (header_of m half body ++ body) ≡ Some (record { header = header_of m half body; message = m; half = half; body = body })

-- only bytes that writing could have made are read
pub record Made (bs : List ℕ) (p : Parts) : Type 0 where
  pub writable : Writable p.message p.half p.body
  pub header : p.header ≡ header_of p.message p.half p.body
  pub whole : bs ≡ p.header ++ p.body

pub record WireLaws : Type 0 where
  pub round : (m : Message) (half body : List ℕ) → Writable m half body → Round m half body
  pub made : (bs : List ℕ) (p : Parts) → AllByRecursion (λ b. b < 256) bs → read_message bs ≡ Some p → Made bs p
