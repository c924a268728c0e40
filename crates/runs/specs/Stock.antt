-- What a side holds, as secrets.
-- Assumes nothing.
use Rattle.std.specs.Prelude.{ℕ, zero, suc, List, [], ◌∷◌, ◌++◌, map}
use Rattle.chain.specs.Secret.{Secret, own, root_of, chain_at, key_at}
use Rattle.ratchet.specs.declared.types.Mark.{Mark}
use Rattle.ratchet.specs.State.{State}

-- the key of a message
abbrev pub key_of : Mark → Secret
key_of m = key_at m.link m.place

-- the chain of the link that it sends on, and of the link that it takes on, each at the next place, where there are such
unfoldable pub sending : (drawn sent : ℕ) → List Secret
sending zero i = []
sending (suc n) i = chain_at n i ∷ []

unfoldable pub taking : (drawn taken : ℕ) → List Secret
taking zero i = []
taking (suc zero) i = []
taking (suc (suc n)) i = chain_at n i ∷ []

-- the secret half of its last key, its root, its two chains, and the keys put aside; nothing else
abbrev pub stock : State → List Secret
stock s =
    own s.drawn ∷ root_of s.drawn ∷ (sending s.drawn s.sent ++ taking s.drawn s.taken ++ map key_of s.skipped)

unfoldable pub stocks : List State → List Secret
stocks [] = []
stocks (s ∷ ss) = stock s ++ stocks ss
