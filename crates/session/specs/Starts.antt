-- What beginning a session comes to.
-- Assumes nothing.
use Rattle.std.specs.Prelude.{◌≡◌, ℕ, List, Some, Ok, Err, Option, Result}
use Rattle.seal.specs.declared.keys.MessageKey.{MessageKey}
use Rattle.keybox.specs.Box.{Keys}
use Rattle.keybox.specs.Renewal.{Unmade}
use Rattle.keybox.specs.declared.errors.KeyError.{KeyError}
use Rattle.exchange.specs.Outside.{Draw}
use Rattle.exchange.specs.Held.{Held}
use Rattle.session.specs.declared.sessions.Session.{Session}
use Rattle.session.specs.Ours.{draw_of}
use Rattle.session.specs.Views.{held_of}
use Rattle.session.specs.Renews.{Draws}

module _ {B : Type 0} (keys : B → Keys) where
  -- a key was drawn, and the session is the one that begins with it; no key is put aside
  pub record Starts (begin : Draw → Option Held) (s : Session) (box box' : B) : Type 0 where
    pub key : ℕ
    pub draws : Draws (keys box) (keys box') key
    pub held : (slots : List MessageKey) → begin (draw_of key) ≡ Some (held_of s slots)
    pub empty : s.side.count ≡ 0

  abbrev pub Starting : (begin : Draw → Option Held) (box box' : B) → Result Session KeyError → Type 0
  Starting begin box box' (Ok s) = Starts begin s box box'
  Starting begin box box' (Err why) = Unmade keys box box' why
