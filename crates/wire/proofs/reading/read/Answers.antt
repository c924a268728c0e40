-- Read exactly if the bytes have the shape of a message; the laws follow from the answer.
use Rattle.std.proofs.Common.{◌≡◌, Ok, Err, sym, ap, ◌∙◌, arith}
use Rattle.std.proofs.lemmas.Bool.Decides.{not_from_Decides}
use Rattle.ratchet.specs.declared.types.Refusal.TheVariants.{Malformed}
use Rattle.exchange.specs.Wire.{two_at}
use Rattle.exchange.proofs.Wires.{Well}
use Rattle.wire.specs.declared.header.Header.{Header}
use Rattle.wire.specs.Layout.{reading}
use Rattle.wire.proofs.Lawful.{reads, reads_ok, reads_none}
use Rattle.wire.proofs.reading.read.Goals as goal
use Rattle.wire.proofs.reading.read.Goals.{then-message-via-then-message, then-message-via-else-message+then-message-ne-FIRST_BYTE}

pub returns-then-message : goal.returns-then-message
returns-then-message c =
    let none : Well c.args.message.now → ⊥ = λ s.
    elim c.then-message.branch [
      | then-message-via-then-message w ↦ omega (arith, s.size)
      | then-message-via-else-message+then-message-ne-FIRST_BYTE w ↦ w.if-message-ne-FIRST_BYTE.true s.first
    ] in
    let e = sym (reads_none c.args.message.now none) in
    record { answer = e; laws = reads c.args.message.now (λ i. (c.type_inv.message i).fits) (Err Malformed) e }

pub returns-then-not-is_whole : goal.returns-then-not-is_whole
returns-then-not-is_whole c =
    let size : c.header_of-header.result.length ≡ two_at c.args.message.now 45 = ap (λ (h : Header). h.length) c.header_of-header.ensures in
    let other = not_from_Decides c.is_whole.result c.is_whole.ensures c.if-not-is_whole.true in
    let none : Well c.args.message.now → ⊥ = λ s. other (omega (arith, s.short), omega (arith, s.size)) in
    let e = sym (reads_none c.args.message.now none) in
    record { answer = e; laws = reads c.args.message.now (λ i. (c.type_inv.message i).fits) (Err Malformed) e }

pub returns : goal.returns
returns c =
    let size : c.header_of-header.result.length ≡ two_at c.args.message.now 45 = ap (λ (h : Header). h.length) c.header_of-header.ensures in
    let whole = c.is_whole.ensures.0 c.if-not-is_whole.false in
    let s : Well c.args.message.now = record { first = c.if-message-ne-FIRST_BYTE.false; size = omega arith; short = omega arith } in
    let e : Ok c.header_of-header.result ≡ reading c.args.message.now = ap Ok c.header_of-header.ensures ∙ sym (reads_ok c.args.message.now s) in
    record { answer = e; laws = reads c.args.message.now (λ i. (c.type_inv.message i).fits) (Ok c.header_of-header.result) e }
