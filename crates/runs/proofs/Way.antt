-- What holds of the messages from one side to the other after every run.
use Rattle.std.proofs.Common.{◌≡◌, ℕ, ◌+◌, ◌%◌, ◌^◌, ◌<◌, ◌≤◌, true, false, ◌⊎◌, List}
use Rattle.ratchet.specs.declared.types.Mark.{Mark}
use Rattle.ratchet.specs.declared.types.Message.{Message}
use Rattle.ratchet.specs.State.{has}
use Rattle.runs.specs.World.{Party, among}
use Rattle.runs.specs.Laws.{keys_of, NoneTwice}
use Rattle.runs.proofs.Marks.{Apart}

-- ### A side as a sender, and as a taker

pub record Sender : Type 0 where
  pub drawn : ℕ
  pub sent : ℕ
  pub before : ℕ
  pub sealed : List Message
  pub left : List Message

pub record Taker : Type 0 where
  pub drawn : ℕ
  pub taken : ℕ
  pub skipped : List Mark
  pub opened : List Message
  pub handed : List Message

abbrev pub sender : Party → Sender
sender p = record { drawn = p.side.drawn; sent = p.side.sent; before = p.side.before; sealed = p.sealed; left = p.left }

abbrev pub taker : Party → Taker
taker p = record { drawn = p.side.drawn; taken = p.side.taken; skipped = p.side.skipped; opened = p.opened; handed = p.handed }

-- ### The sender's part; r is the parity of its links

pub record Sealed (r : ℕ) (o : Sender) (x : Message) : Type 0 where
  pub parity : x.mark.link % 2 ≡ r
  pub low : x.mark.link + 1 ≤ o.drawn
  -- on the link that it sends on now, and on the one before
  pub newest : x.mark.link + 1 ≡ o.drawn → (x.mark.place < o.sent) × (x.before ≡ o.before)
  pub older : x.mark.link + 3 ≡ o.drawn → x.mark.place < o.before
  pub counted : x.mark.place + 1 < 2 ^ 32

pub record Sealing (r : ℕ) (o : Sender) : Type 0 where
  pub parity : o.drawn % 2 + r ≡ 1
  pub each : (x : Message) → among x o.sealed ≡ true → Sealed r o x
  pub unique : (x y : Message) → among x o.sealed ≡ true → among y o.sealed ≡ true → x.mark ≡ y.mark → x ≡ y
  pub once : NoneTwice (keys_of o.sealed)
  pub left : (x : Message) → among x o.left ≡ true → among x o.sealed ≡ true

-- ### The taker's part

pub record Aside (r : ℕ) (i : Taker) (a : Mark) : Type 0 where
  pub parity : a.link % 2 ≡ r
  pub low : a.link + 2 ≤ i.drawn
  pub below : a.link + 2 ≡ i.drawn → a.place < i.taken

pub record Opened (i : Taker) (x : Message) : Type 0 where
  pub low : x.mark.link + 2 ≤ i.drawn
  pub below : x.mark.link + 2 ≡ i.drawn → x.mark.place < i.taken
  pub gone : has x.mark i.skipped ≡ false

pub record Opening (r : ℕ) (i : Taker) : Type 0 where
  pub parity : i.drawn % 2 ≡ r
  pub aside : (a : Mark) → has a i.skipped ≡ true → Aside r i a
  pub apart : Apart i.skipped
  pub each : (x : Message) → among x i.opened ≡ true → Opened i x
  pub once : NoneTwice (keys_of i.opened)
  pub handed : (x : Message) → among x i.handed ≡ true → among x i.opened ≡ true
  pub handed_once : NoneTwice (keys_of i.handed)

-- ### Both

-- on a link below the one taken on, or on it below the next place
abbrev pub Behind : Taker → Message → Type 0
Behind i x = (x.mark.link + 2 < i.drawn) ⊎ ((x.mark.link + 2 ≡ i.drawn) × (x.mark.place < i.taken))

pub record Way (r : ℕ) (o : Sender) (i : Taker) : Type 0 where
  pub sealing : Sealing r o
  pub opening : Opening r i
  pub near : (i.drawn ≡ o.drawn + 1) ⊎ (o.drawn ≡ i.drawn + 1)
  pub caught : i.drawn ≡ o.drawn + 1 → i.taken ≤ o.sent
  pub genuine : (x : Message) → among x i.opened ≡ true → among x o.left ≡ true
  -- nothing that left is lost on the way
  pub settled : (x : Message) → among x o.left ≡ true → Behind i x → (among x i.opened ≡ true) ⊎ (has x.mark i.skipped ≡ true)
