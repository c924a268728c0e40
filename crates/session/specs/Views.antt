-- A session and its slots, seen as what a side holds.
-- Assumes nothing.
use Rattle.std.specs.Prelude.{◌≡◌, ℕ, ◌-◌, List, map, take, drop, replicate}
use Rattle.seal.specs.declared.keys.MessageKey.{MessageKey}
use Rattle.ratchet.specs.State.{state_of}
use Rattle.exchange.specs.Held.{Held, blank}
use Rattle.session.specs.declared.sessions.Session.{Session}

abbrev pub key_in : MessageKey → List ℕ
key_in k = k.0

-- the bookkeeping, the root, the chains and the half, and the keys in the slots that are in use
abbrev pub held_of : Session → (slots : List MessageKey) → Held
held_of s slots = record {
  state = state_of s.side;
  root = s.root.0;
  sending = s.sending.0;
  taking = s.taking.0;
  half = s.half.0;
  keys = map key_in (take s.side.count slots);
}

-- every slot that is not in use is zero
abbrev pub Wiped : Session → (slots : List MessageKey) → Type 0
Wiped s slots = drop s.side.count slots ≡ replicate (512 - s.side.count) (record { 0 = blank })
