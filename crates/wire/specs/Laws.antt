-- Reading gives back what was written, and nothing is read that could not have been written.
-- Assumes nothing.
use Rattle.std.specs.Prelude.{◌≡◌, ℕ, ◌+◌, ◌^◌, ◌<◌, ◌≤◌, List, ◌++◌, length, Ok, Err, Result}
use Rattle.ratchet.specs.declared.types.Refusal.{Refusal}
use Rattle.ratchet.specs.declared.types.Refusal.TheVariants.{Malformed}
use Rattle.wire.specs.declared.header.Header.{Header}
use Rattle.wire.specs.Layout.{header_bytes}

-- each number fits its bytes
pub record Writable (h : Header) : Type 0 where
  pub link : h.message.mark.link < 2 ^ 32
  pub place : h.message.mark.place < 2 ^ 32
  pub before : h.message.before < 2 ^ 32
  pub half : length h.half.0 ≡ 32
  pub text : h.length < 2 ^ 16

-- some bytes are a message with this header: behind it stand a sealed text of the length that it says and a tag, and nothing else
pub record Spells (bytes : List ℕ) (h : Header) : Type 0 where
  pub behind : List ℕ
  pub all : bytes ≡ header_bytes h ++ behind
  pub long : length behind ≡ h.length + 16
  pub short : h.length ≤ 1000

-- what reading some bytes comes to
pub record Reads (bytes : List ℕ) (answer : Result Header Refusal) : Type 0 where
  -- what is read could have been written
  pub written : (h : Header) → answer ≡ Ok h → Writable h × Spells bytes h
  -- what could have been written is read
  pub back : (h : Header) → Writable h → Spells bytes h → answer ≡ Ok h
  -- all else is refused
  pub refused : ((h : Header) → Writable h → Spells bytes h → ⊥) → answer ≡ Err Malformed
