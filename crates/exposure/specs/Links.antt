-- The clauses of the rule, and which links lie open by them.
-- Assumes nothing.
use Rattle.std.specs.Prelude.{ℕ, zero, suc, Bool, ◌&&◌, ◌||◌, List, [], ◌∷◌, ◌++◌}
use Rattle.ratchet.specs.State.{State}
use Rattle.runs.specs.Rule.{link_open}

-- a root: a side was read that had drawn its key, or the link below lies open
abbrev pub root_by : (drawn below : Bool) → Bool
root_by drawn below = drawn || below

-- a link: its root lies open, and a side was read that had drawn the key of its number or the next
abbrev pub link_by : (root drawn next : Bool) → Bool
link_by root drawn next = root && (drawn || next)

-- a key whose link is shut: a side was read that can go on to it in its link's chain, or one that had it put aside
abbrev pub key_by : (chain aside : Bool) → Bool
key_by chain aside = chain || aside

-- the first so many links
unfoldable pub links_to : List State → ℕ → List Bool
links_to rs zero = []
links_to rs (suc n) = links_to rs n ++ link_open rs n ∷ []
