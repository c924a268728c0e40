-- What stands where in the bytes of a page, and what is tested of the bytes alone.
-- Assumes nothing.
use Rattle.std.specs.Prelude.{◌≡◌, ℕ, zero, suc, ◌+◌, ◌*◌, ◌≤◌, List, [], ◌∷◌, length, take, drop, slice_index_or}
use Rattle.digest.specs.Sha256.{sha_256}
use Rattle.ratchet.specs.declared.types.Mark.{Mark}
use Rattle.ratchet.specs.State.{State, state_of}
use Rattle.exchange.specs.Wire.{four_at, two_at}
use Rattle.exchange.specs.Held.{Held}
use Rattle.session.specs.declared.sessions.Session.{Session}

-- the mark in the bytes from a place on
abbrev pub mark_at : List ℕ → ℕ → Mark
mark_at b at = record { link = four_at b at; place = four_at b (at + 4) }

-- the marks, and the keys, in so many entries of 40 bytes each
unfoldable pub marks_in : ℕ → List ℕ → List Mark
marks_in zero b = []
marks_in (suc n) b = mark_at b 0 ∷ marks_in n (drop 40 b)

unfoldable pub keys_in : ℕ → List ℕ → List (List ℕ)
keys_in zero b = []
keys_in (suc n) b = take 32 (drop 8 b) ∷ keys_in n (drop 40 b)

-- the counts, and the marks behind the first 147 bytes
abbrev pub state_in : List ℕ → State
state_in b = record { drawn = four_at b 1; sent = four_at b 5; taken = four_at b 9; before = four_at b 13; skipped = marks_in (two_at b 145) (drop 147 b) }

-- all that a page says
abbrev pub held_in : List ℕ → Held
held_in b = record {
  state = state_in b;
  root = take 32 (drop 49 b);
  sending = take 32 (drop 81 b);
  taking = take 32 (drop 113 b);
  half = take 32 (drop 17 b);
  keys = keys_in (two_at b 145) (drop 147 b);
}

-- the version, the number of keys put aside, the length that goes with it, and the digest are right
pub record Whole (b : List ℕ) : Type 0 where
  pub version : slice_index_or b 0 0 ≡ 1
  pub few : two_at b 145 ≤ 512
  pub long : length b ≡ 179 + 40 * two_at b 145
  pub digest : drop (147 + 40 * two_at b 145) b ≡ sha_256 (take (147 + 40 * two_at b 145) b)

-- a session that holds what a page says
pub record Says (b : List ℕ) (s : Session) : Type 0 where
  pub state : state_of s.side ≡ state_in b
  pub count : s.side.count ≡ two_at b 145
  pub root : s.root.0 ≡ take 32 (drop 49 b)
  pub sending : s.sending.0 ≡ take 32 (drop 81 b)
  pub taking : s.taking.0 ≡ take 32 (drop 113 b)
  pub half : s.half.0 ≡ take 32 (drop 17 b)
