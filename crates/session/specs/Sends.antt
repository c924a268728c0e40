-- What sending comes to.
-- Assumes nothing.
use Rattle.std.specs.Prelude.{◌≡◌, ℕ, ◌+◌, List, length, take, drop, Ok, Err, Result}
use Rattle.seal.specs.declared.keys.MessageKey.{MessageKey}
use Rattle.ratchet.specs.Numbers.{number}
use Rattle.ratchet.specs.declared.types.Refused.{Refused}
use Rattle.exchange.specs.Exchanges.{send_text, sent, refused}
use Rattle.session.specs.declared.sessions.Session.{Session}
use Rattle.session.specs.Ours.{AnyBox}
use Rattle.session.specs.Views.{held_of}

-- the message's bytes stand at the front of the output, which otherwise is as it was; keys that are put aside stay where they are
pub record Leaves (s t : Session) (text before after : List ℕ) (size : ℕ) : Type 0 where
  pub step : (slots : List MessageKey) → AnyBox (λ o. send_text o (held_of s slots) text ≡ sent (held_of t slots) (take size after))
  pub counted : size ≡ 63 + length text
  pub rest : drop size after ≡ drop size before

-- the session and the output are as they were
pub record Stays (s t : Session) (text before after : List ℕ) (why : ℕ) : Type 0 where
  pub step : (slots : List MessageKey) → AnyBox (λ o. send_text o (held_of s slots) text ≡ refused why)
  pub session : t ≡ s
  pub output : after ≡ before

abbrev pub Sending : Session → (text before after : List ℕ) → Result (Session × ℕ) (Refused Session) → Type 0
Sending s text before after (Ok done) = Leaves s done.0 text before after done.1
Sending s text before after (Err e) = Stays s e.side text before after (number e.why)
