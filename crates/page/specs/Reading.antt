-- What reading a page comes to, and the laws of writing and reading.
-- Assumes nothing.
use Rattle.std.specs.Prelude.{◌≡◌, ℕ, ◌+◌, ◌*◌, List, length, Some, None, Ok, Err, Option, Result, ◌≢◌}
use Rattle.seal.specs.declared.keys.MessageKey.{MessageKey}
use Rattle.runs.specs.declared.types.Who.{Who}
use Rattle.exchange.specs.Held.{Held}
use Rattle.session.specs.declared.sessions.Session.{Session}
use Rattle.session.specs.Views.{held_of, Wiped}
use Rattle.page.specs.declared.refusal.BadPage.{BadPage}
use Rattle.page.specs.Layout.{page_bytes}
use Rattle.page.specs.Valid.{Valid}

-- some bytes are read as the side whose page they are; as none if they are the page of no valid side
abbrev pub Reads : Who → (bytes : List ℕ) → Option Held → Type 0
Reads who bytes (Some h) = Valid who h × (bytes ≡ page_bytes h)
Reads who bytes None = (h : Held) → Valid who h → bytes ≢ page_bytes h

-- a session and its slots; those that are not in use are zero
pub record Restored (who : Who) (bytes : List ℕ) (s : Session) (slots : List MessageKey) : Type 0 where
  pub page : Reads who bytes (Some (held_of s slots))
  pub wiped : Wiped s slots

-- refused: the slots are as they were
pub record Unread (who : Who) (bytes : List ℕ) (before after : List MessageKey) : Type 0 where
  pub page : Reads who bytes None
  pub slots : after ≡ before

-- what reading a page into a session and its slots comes to
abbrev pub Restoring : Who → (bytes : List ℕ) → (before after : List MessageKey) → Result Session BadPage → Type 0
Restoring who bytes before after (Ok s) = Restored who bytes s after
Restoring who bytes before after (Err why) = Unread who bytes before after

-- what holds of every page
pub record PageLaws : Type 0 where
  pub size : (who : Who) (h : Held) → Valid who h → length (page_bytes h) ≡ 179 + 40 * length h.state.skipped
  -- reading what a valid side writes gives that side back
  pub back : (who : Who) (h : Held) (answer : Option Held) → Valid who h → Reads who (page_bytes h) answer → answer ≡ Some h
  -- and bytes are read in one way only
  pub one : (who : Who) (bytes : List ℕ) (a b : Option Held) → Reads who bytes a → Reads who bytes b → a ≡ b
