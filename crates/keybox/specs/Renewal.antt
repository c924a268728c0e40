-- What drawing the next key for a public half comes to, and what it leaves of the box.
-- Assumes nothing.
use Rattle.std.specs.Prelude.{◌≡◌, ℕ, ◌≤◌, List, Some, None, Ok, Err, Result}
use Rattle.chain.specs.declared.keys.JointSecret.{JointSecret}
use Rattle.chain.specs.declared.keys.PublicHalf.{PublicHalf}
use Rattle.keybox.specs.Box.{Keys, Scheme, Drawn}
use Rattle.keybox.specs.declared.errors.KeyError.{KeyError}
use Rattle.keybox.specs.declared.errors.KeyError.TheVariants.{NoKey, NotTaken}

-- a key was drawn, and forgotten
pub record Forgotten (before after : Keys) : Type 0 where
  pub last : after.last ≡ before.last
  pub fresh : after.fresh ≡ None
  pub next : before.next ≤ after.next

-- a key was drawn, and what it gives with a half
pub record Makes (scheme : Scheme) (before after : Keys) (theirs half joint : List ℕ) : Type 0 where
  pub drawn : Drawn scheme before after half
  pub gives : scheme.joint_of drawn.key theirs ≡ Some joint

module _ {B : Type 0} (keys : B → Keys) where
  -- without a key the box is as it was; with one that doesn't go with the half that came, that key was forgotten
  abbrev pub Unmade : (before after : B) → KeyError → Type 0
  Unmade before after NoKey = after ≡ before
  Unmade before after NotTaken = Forgotten (keys before) (keys after)

  abbrev pub Renewal : (scheme : Scheme) (before after : B) (theirs : List ℕ) → Result (PublicHalf × JointSecret) KeyError → Type 0
  Renewal scheme before after theirs (Ok made) = Makes scheme (keys before) (keys after) theirs made.0.0 made.1.0
  Renewal scheme before after theirs (Err why) = Unmade before after why
