-- What the answers of a key box mean, and the law that two boxes keep.
-- Assumes nothing.
use Rattle.std.specs.Prelude.{◌≡◌, ℕ, ◌<◌, ◌≤◌, List, Some, None, Option}
use Rattle.std.specs.Option.{option_map, option_or}
use Rattle.chain.specs.declared.keys.JointSecret.{JointSecret}

-- the keys of a box: the one in force, and the one just drawn, if there are such; and a number below that of every key still to be drawn, or its own
pub record Keys : Type 0 where
  pub last : Option ℕ
  pub fresh : Option ℕ
  pub next : ℕ

-- the public half of a key, and what a key gives with a public half, if it is one that the box takes
pub record Scheme : Type 0 where
  pub half_of : ℕ → List ℕ
  pub joint_of : ℕ → List ℕ → Option (List ℕ)

-- a draw: the key is none that was drawn before, it is not yet in force, and its public half is given
pub record Drawn (scheme : Scheme) (before after : Keys) (half : List ℕ) : Type 0 where
  pub key : ℕ
  pub fresh : after.fresh ≡ Some key
  pub kept : after.last ≡ before.last
  pub new : before.next ≤ key
  pub past : key < after.next
  pub half_is : half ≡ scheme.half_of key

-- the key just drawn is in force, if there is one
abbrev pub settled : Keys → Keys
settled k = record { last = option_or k.fresh k.last; fresh = None; next = k.next }

-- the key just drawn is there no more
abbrev pub undrawn : Keys → Keys
undrawn k = record { last = k.last; fresh = None; next = k.next }

-- what a key that may be there gives with a public half
abbrev pub given : Scheme → Option ℕ → List ℕ → Option (List ℕ)
given scheme None half = None
given scheme (Some key) half = scheme.joint_of key half

-- the bytes of an answer
abbrev pub bytes_in : Option JointSecret → Option (List ℕ)
bytes_in r = option_map (λ (s : JointSecret). s.0) r

-- the law: a key with the other's public half gives what the other gives with its
abbrev pub Agree : Scheme → Type 0
Agree scheme = (a b : ℕ) → scheme.joint_of a (scheme.half_of b) ≡ scheme.joint_of b (scheme.half_of a)
