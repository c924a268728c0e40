-- The step of sending, on what a session holds.
use Rattle.std.proofs.Common.{◌≡◌, ℕ, ◌+◌, ◌≤◌, Bool, true, false, cond, eqb, ltb, List, ◌++◌, map, length, take, sym, ap, arith}
use Rattle.std.proofs.lemmas.List.{length-take-le}
use Rattle.seal.specs.declared.keys.MessageKey.{MessageKey}
use Rattle.seal.specs.Sealing.{sealed}
use Rattle.ratchet.specs.declared.types.Mark.{Mark}
use Rattle.ratchet.specs.State.{State, state_of}
use Rattle.ratchet.specs.Steps as book
use Rattle.wire.specs.declared.header.Header.{Header}
use Rattle.wire.specs.Layout as wire
use Rattle.keybox.specs.Box.{Scheme}
use Rattle.exchange.specs.Outside.{seal}
use Rattle.exchange.specs.Held.{Held}
use Rattle.exchange.specs.Exchanges.{send_text, send_as, sent_on, sent, message_bytes}
use Rattle.session.specs.declared.sessions.Session.{Session}
use Rattle.session.specs.Ours.{ours}
use Rattle.session.specs.Views.{held_of, key_in}

-- as many marks, as many in use
pub same_count : (xs ys : List Mark) (m n : ℕ) → length xs ≡ 512 → length ys ≡ 512 → m ≤ 512 → n ≤ 512 → take m xs ≡ take n ys → m ≡ n
same_count xs ys m n e f h k is =
    omega (arith, length-take-le m xs (omega arith), length-take-le n ys (omega arith), ap length is)

-- the side after it is the one that has sent one more
only_kept : (a b c : Bool) (t u : State) → book.kept t ≡ cond a (book.refused 1) (cond b (book.refused 2) (cond c (book.kept u) (book.refused 6))) → t ≡ u
only_kept true b c t u e = absurd (let z : ◌≡◌ {A = ℕ} 0 1 = cc in omega arith)
only_kept false true c t u e = absurd (let z : ◌≡◌ {A = ℕ} 0 1 = cc in omega arith)
only_kept false false true t u e = cc
only_kept false false false t u e = absurd (let z : ◌≡◌ {A = ℕ} 0 1 = cc in omega arith)

pub send-kept : (n : ℕ) (s t : State) → book.kept t ≡ book.send n s → t ≡ book.sends s
send-kept n s t e = only_kept (ltb 1000 n) (eqb s.drawn 0) (book.fits (s.sent + 1)) t (book.sends s) e

-- the bytes of a message, by either definition
pub message-bytes : (scheme : Scheme) (h : Held) (text : List ℕ) (header : Header) (key : List ℕ) →
    header.message ≡ book.message h.state → header.half.0 ≡ h.half → header.length ≡ length text → key ≡ (ours scheme).key_bytes h.sending →
    wire.header_bytes header ++ sealed key (wire.header_bytes header) text ≡ message_bytes (ours scheme) h text
unfolding message_bytes seal sealed
message-bytes scheme h text header key m half n k = cc

-- the answer, where the bookkeeping keeps it
module _ (scheme : Scheme) (slots : List MessageKey) (s t : Session) (text bytes : List ℕ) where
  pub send_step : book.kept (state_of t.side) ≡ book.send (length text) (state_of s.side) → t.side.count ≡ s.side.count →
      t.root.0 ≡ s.root.0 → t.sending.0 ≡ (ours scheme).next_bytes s.sending.0 → t.taking.0 ≡ s.taking.0 → t.half.0 ≡ s.half.0 →
      bytes ≡ message_bytes (ours scheme) (held_of s slots) text →
      send_text (ours scheme) (held_of s slots) text ≡ sent (held_of t slots) bytes
  send_step kept count root sending taking half is =
      let state = send-kept (length text) (state_of s.side) (state_of t.side) kept in
      let keys : map key_in (take t.side.count slots) ≡ map key_in (take s.side.count slots) = ap (λ (n : ℕ). map key_in (take n slots)) count in
      let held : sent_on (ours scheme) (held_of s slots) ≡ held_of t slots = cc in
      let answer : send_text (ours scheme) (held_of s slots) text ≡ send_as (book.kept (state_of t.side)) (sent_on (ours scheme) (held_of s slots)) (message_bytes (ours scheme) (held_of s slots) text) =
      ap (λ (a : book.Answer). send_as a (sent_on (ours scheme) (held_of s slots)) (message_bytes (ours scheme) (held_of s slots) text)) (sym kept) in
      cc
