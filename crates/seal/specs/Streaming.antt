-- What a call of the stream answers, and what it leaves of the text.
use Rattle.std.specs.Prelude.{◌≡◌, ℕ, ◌+◌, ◌/◌, ◌%◌, ◌^◌, ◌<◌, ◌≤◌, List, length, Ok, Err, Result, bit_xor, slice_index}
use Rattle.seal.specs.ChaCha20.{block, blocks, chacha20}
use Rattle.seal.specs.declared.cipher.TooLong.{TooLong}

-- the counter of each block of so many bytes fits its word
abbrev pub Counts : ℕ → ℕ → Type 0
Counts counter size = counter + blocks size ≤ 2 ^ 32

pub record Streamed (key nonce : List ℕ) (counter : ℕ) (before after : List ℕ) : Type 0 where
  pub counts : Counts counter (length before)
  pub text : after ≡ chacha20 key nonce counter before
  -- the stream applied twice is the identity
  pub twice : chacha20 key nonce counter after ≡ before
  -- each byte by itself: exclusive or the byte of its block that stands at its place there
  pub places : (i : ℕ) → i < length before → slice_index after i ≡ bit_xor (slice_index before i) (slice_index (block key nonce (counter + i / 64)) (i % 64))

-- refused: a counter would not fit, and the text is as it was
pub record Uncounted (counter : ℕ) (before after : List ℕ) : Type 0 where
  pub counts : Counts counter (length before) → ⊥
  pub text : after ≡ before

abbrev pub StreamAnswer : List ℕ → List ℕ → ℕ → List ℕ → List ℕ → Result Unit TooLong → Type 0
StreamAnswer key nonce counter before after (Ok _) = Streamed key nonce counter before after
StreamAnswer key nonce counter before after (Err _) = Uncounted counter before after
