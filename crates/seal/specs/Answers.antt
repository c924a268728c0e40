-- What sealing and opening answer, and what they leave of the output.
use Rattle.std.specs.Prelude.{◌≡◌, ℕ, ◌+◌, ◌-◌, ◌<◌, ◌≤◌, List, ◌++◌, length, drop, Ok, Err, Result}
use Rattle.seal.specs.Sealing.{covered, sealed, body_text, Genuine}
use Rattle.seal.specs.Streaming.{Counts}
use Rattle.seal.specs.declared.sealing.SealError.{SealError}
use Rattle.seal.specs.declared.sealing.SealError.TheVariants as seal-error
use Rattle.seal.specs.declared.sealing.OpenError.{OpenError}
use Rattle.seal.specs.declared.sealing.OpenError.TheVariants as open-error

-- sealed: what stands at the front of the output, which otherwise is as it was
pub record Sealed (key header text before after : List ℕ) (size : ℕ) : Type 0 where
  pub counts : Counts 1 (length text)
  pub counted : size ≡ length text + 16
  pub room : size ≤ length before
  pub output : after ≡ sealed key header text ++ drop size before

-- why a text of this size was not sealed into this room; the reasons are tried in this order
abbrev pub SealRefusal : ℕ → ℕ → SealError → Type 0
SealRefusal size room seal-error.TooLong = Counts 1 size → ⊥
SealRefusal size room seal-error.NoRoom = Counts 1 size × (room < size + 16)

-- refused: the output is as it was
pub record Unsealed (text before after : List ℕ) (why : SealError) : Type 0 where
  pub reason : SealRefusal (length text) (length before) why
  pub output : after ≡ before

abbrev pub SealAnswer : List ℕ → List ℕ → List ℕ → List ℕ → List ℕ → Result ℕ SealError → Type 0
SealAnswer key header text before after (Ok size) = Sealed key header text before after size
SealAnswer key header text before after (Err why) = Unsealed text before after why

-- opened: the text stands at the front of the output, which otherwise is as it was
pub record Opened (key header body before after : List ℕ) (size : ℕ) : Type 0 where
  pub counts : Counts 1 size
  pub counted : size + 16 ≡ length body
  pub room : size ≤ length before
  pub genuine : Genuine key header body
  pub output : after ≡ covered key (body_text body) ++ drop size before

-- why a body was not opened into this room; the reasons are tried in this order
abbrev pub OpenRefusal : List ℕ → List ℕ → List ℕ → ℕ → OpenError → Type 0
OpenRefusal key header body room open-error.TooLong = Counts 1 (length body - 16) → ⊥
OpenRefusal key header body room open-error.NoRoom = Counts 1 (length body - 16) × (room < length body - 16)
OpenRefusal key header body room open-error.Forged = Counts 1 (length body - 16) × (length body - 16 ≤ room) × (Genuine key header body → ⊥)

-- refused: the output is as it was
pub record Unopened (key header body before after : List ℕ) (why : OpenError) : Type 0 where
  pub reason : OpenRefusal key header body (length before) why
  pub output : after ≡ before

abbrev pub OpenAnswer : List ℕ → List ℕ → List ℕ → List ℕ → List ℕ → Result ℕ OpenError → Type 0
OpenAnswer key header body before after (Ok size) = Opened key header body before after size
OpenAnswer key header body before after (Err why) = Unopened key header body before after why

-- the answer is the text's length, and the text stands at the front of the output
pub record Undone (text before after : List ℕ) (answer : Result ℕ OpenError) : Type 0 where
  pub opened : answer ≡ Ok (length text)
  pub output : after ≡ text ++ drop (length text) before

-- opening undoes sealing: of every text that this body was sealed from
abbrev pub UndoesSealing : List ℕ → List ℕ → List ℕ → List ℕ → List ℕ → Result ℕ OpenError → Type 0
UndoesSealing key header body before after answer =
    (text : List ℕ) → body ≡ sealed key header text → Counts 1 (length text) → length text ≤ length before → Undone text before after answer
