-- The page of a side as bytes: all that the side holds but for the secret halves. Numbers have their high byte first.
-- Assumes nothing.
use Rattle.std.specs.Prelude.{ℕ, List, [], ◌∷◌, ◌++◌, length}
use Rattle.digest.specs.Sha256.{sha_256}
use Rattle.ratchet.specs.declared.types.Mark.{Mark}
use Rattle.ratchet.specs.State.{State}
use Rattle.exchange.specs.Wire.{four_bytes, two_bytes}
use Rattle.exchange.specs.Held.{Held}

-- the first 17 bytes: 1, the version (1), and drawn, sent, taken and before (4 each)
unfoldable pub count_bytes : State → List ℕ
count_bytes s = (1 ∷ []) ++ four_bytes s.drawn ++ four_bytes s.sent ++ four_bytes s.taken ++ four_bytes s.before

-- the first 145: behind those the public half, the root, the sending chain and the taking chain (32 each)
unfoldable pub front_bytes : Held → List ℕ
front_bytes h = count_bytes h.state ++ h.half ++ h.root ++ h.sending ++ h.taking

-- a key put aside: its link (4), its place (4), and the key (32)
unfoldable pub entry_bytes : Mark → (key : List ℕ) → List ℕ
entry_bytes m key = four_bytes m.link ++ four_bytes m.place ++ key

-- all of them, in order
unfoldable pub aside_bytes : List Mark → (keys : List (List ℕ)) → List ℕ
aside_bytes [] ks = []
aside_bytes (m ∷ ms) [] = []
aside_bytes (m ∷ ms) (k ∷ ks) = entry_bytes m k ++ aside_bytes ms ks

-- all before the digest: behind the first 145 how many keys are put aside (2), and each of them (40)
unfoldable pub body_bytes : Held → List ℕ
body_bytes h = front_bytes h ++ two_bytes (length h.state.skipped) ++ aside_bytes h.state.skipped h.keys

-- and behind it SHA-256 of it (32)
unfoldable pub page_bytes : Held → List ℕ
page_bytes h = body_bytes h ++ sha_256 (body_bytes h)
