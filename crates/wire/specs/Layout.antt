-- A message by its header, as the exchange has it: 47 bytes of header, the sealed text, and 16 of tag.
-- Assumes nothing.
use Rattle.std.specs.Prelude.{ℕ, cond, List, take, drop, Ok, Err, Result}
use Rattle.ratchet.specs.declared.types.Refusal.{Refusal}
use Rattle.ratchet.specs.declared.types.Refusal.TheVariants.{Malformed}
use Rattle.exchange.specs.Wire as exchange
use Rattle.wire.specs.declared.header.Header.{Header}

abbrev pub header_bytes : Header → List ℕ
header_bytes h = exchange.header_bytes h.message h.half.0 h.length

-- what stands in the first bytes
abbrev pub header_of : List ℕ → Header
header_of b = record { message = (exchange.parts_of b).message; half = record { 0 = (exchange.parts_of b).half }; length = exchange.two_at b 45 }

unfoldable pub reading : List ℕ → Result Header Refusal
reading b = cond (exchange.well_formed b) (Ok (header_of b)) (Err Malformed)

-- a message by its header and its bytes
abbrev pub parts_of : Header → (bytes : List ℕ) → exchange.Parts
parts_of h bytes = record { header = take 47 bytes; message = h.message; half = h.half.0; body = drop 47 bytes }
