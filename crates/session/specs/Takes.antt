-- What taking a message comes to.
-- Assumes nothing.
use Rattle.std.specs.Prelude.{◌≡◌, ℕ, ◌≤◌, Bool, List, Option, Some, None, MatchOption, take}
use Rattle.seal.specs.declared.keys.MessageKey.{MessageKey}
use Rattle.ratchet.specs.Numbers.{number}
use Rattle.wire.specs.Layout as wire
use Rattle.exchange.specs.Wire.{Parts}
use Rattle.exchange.specs.Exchanges as exchange
use Rattle.session.specs.declared.sessions.Session.{Session}
use Rattle.session.specs.declared.answers.Taken.{Taken}
use Rattle.session.specs.declared.incoming.Incoming.{Incoming}
use Rattle.session.specs.declared.answers.Taken.TheVariants.{Opened, Refused, NoKey}
use Rattle.session.specs.Ours.{AnyBox}
use Rattle.session.specs.Views.{held_of, Wiped}

abbrev pub parts_of : Incoming → Parts
parts_of m = wire.parts_of m.header m.bytes.now

-- what a message opens to under a key: nothing, or the text that stands at the front of some bytes
abbrev pub OpensWith : (key : List ℕ) → Incoming → (text : List ℕ) → Option ℕ → Type 0
OpensWith key m text result = MatchOption result (AnyBox (λ o. exchange.text_under o key (parts_of m) ≡ None)) (λ n. (n ≤ 1000) × AnyBox (λ o. exchange.text_under o key (parts_of m) ≡ Some (take n text)))

-- opened to the text that stands at the front of some bytes; slots that are not in use are zero again, if they were
pub record Opens (answer : exchange.Taken) (drew : Bool) (s t : Session) (before after : List MessageKey) (text : List ℕ) (size : ℕ) : Type 0 where
  pub step : answer ≡ exchange.opened (held_of t after) (take size text) drew
  pub short : size ≤ 1000
  pub wiped : Wiped s before → Wiped t after

-- another answer: the session and its slots are as they were
pub record Stays (answer is : exchange.Taken) (s t : Session) (before after : List MessageKey) : Type 0 where
  pub step : answer ≡ is
  pub session : t ≡ s
  pub slots : after ≡ before

abbrev pub Stepped : exchange.Taken → (drew : Bool) → Session → (before after : List MessageKey) → (text : List ℕ) → Taken → Type 0
Stepped answer drew s before after text (Opened t size) = Opens answer drew s t before after text size
Stepped answer drew s before after text (Refused t why) = Stays answer (exchange.kept_out (number why)) s t before after
Stepped answer drew s before after text (NoKey t) = Stays answer exchange.no_key s t before after
