-- What the theorem over every exchange takes for granted is so with our digests and any boxes that keep their law.
-- Assumes nothing.
use Rattle.std.specs.Prelude.{◌≡◌, ℕ, ◌+◌, ◌*◌, List, length, Some}
use Rattle.keybox.specs.Box.{Scheme, Agree}
use Rattle.exchange.specs.Outside.{Lawful}
use Rattle.exchange.specs.Network.{Event, start}
use Rattle.exchange.specs.Promise.{NoneForged, BytesKeep}
use Rattle.session.specs.Ours.{ours}

-- halves have 32 bytes; a key of the first side with a half of the second's makes some secret, and the second's with the first's the same
pub record Boxes (scheme : Scheme) : Type 0 where
  pub half : (key : ℕ) → length (scheme.half_of key) ≡ 32
  pub answers : (m n : ℕ) → (secret : List ℕ) × (scheme.joint_of (2 * m) (scheme.half_of (2 * n + 1)) ≡ Some secret)
  pub agree : Agree scheme

abbrev pub OursLawful : Type 0
OursLawful = (scheme : Scheme) → Boxes scheme → Lawful (ours scheme)

-- so every exchange of sessions is, byte for byte, what the model says, and keeps the laws of the runs, as long as whatever opens was sent by the other side
abbrev pub OurExchanges : Type 0
OurExchanges =
    (scheme : Scheme) → Boxes scheme → (secret : List ℕ) → length secret ≡ 32 → (es : List Event) →
    NoneForged (ours scheme) es (start (ours scheme) secret) → BytesKeep (ours scheme) secret es
