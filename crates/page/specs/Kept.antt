-- Every step leads from a valid side to a valid side, so every page that is written is read again.
-- Assumes the laws of the outside, and that what comes is bytes: both are conditions below.
use Rattle.std.specs.Prelude.{◌≡◌, ℕ, ◌<◌, Bool, List, length, Some, Option}
use Rattle.std.specs.List.{AllByRecursion}
use Rattle.runs.specs.declared.types.Who.{Who}
use Rattle.runs.specs.declared.types.Who.TheVariants.{First, Second}
use Rattle.exchange.specs.Outside.{Draw, Outside, Lawful}
use Rattle.exchange.specs.Held.{Held}
use Rattle.exchange.specs.Exchanges.{begin_first, begin_second, sent, send_text, opened, take_bytes}
use Rattle.exchange.specs.Network.{Event, sends, comes, reads, party, start, run}
use Rattle.page.specs.Layout.{page_bytes}
use Rattle.page.specs.Valid.{Valid}
use Rattle.page.specs.Reading.{Reads}

-- each fits a byte
abbrev pub IsBytes : List ℕ → Type 0
IsBytes bs = AllByRecursion (λ b. b < 256) bs

-- what comes to a side is bytes
abbrev pub ComesAsBytes : Event → Type 0
ComesAsBytes (sends who text n) = Unit {0}
ComesAsBytes (comes who bytes ready n) = IsBytes bytes
ComesAsBytes (reads who) = Unit {0}

module _ (o : Outside) where
  -- what a side holds after some events, from the first secret on
  abbrev pub held_after : (secret : List ℕ) → List Event → Who → Held
  held_after secret es who = (party who (run o es (start o secret))).held

  -- what the steps keep
  pub record Keeps : Type 0 where
    -- each side as it begins
    pub first : (own : Draw) (half secret : List ℕ) (h : Held) → begin_first o own half secret ≡ Some h → Valid First h
    pub second : (own : Draw) (secret : List ℕ) → length secret ≡ 32 → Valid Second (begin_second o own secret)
    -- after a text was sent, and after bytes were taken, whoever sent them
    pub sending : (who : Who) (h after : Held) (text bytes : List ℕ) → Valid who h → send_text o h text ≡ sent after bytes → Valid who after
    pub taking : (who : Who) (own : Draw) (fresh : Option Draw) (h after : Held) (bytes text : List ℕ) (drew : Bool) → IsBytes bytes → Valid who h →
        take_bytes o own fresh h bytes ≡ opened after text drew → Valid who after
    -- after every list of sends, of any bytes that come, of readings and stops
    pub always : (secret : List ℕ) → length secret ≡ 32 → (es : List Event) → AllByRecursion ComesAsBytes es → (who : Who) → Valid who (held_after secret es who)
    -- so the page of either side is read as that very side
    pub comes_up : (secret : List ℕ) → length secret ≡ 32 → (es : List Event) → AllByRecursion ComesAsBytes es → (who : Who) (answer : Option Held) →
        Reads who (page_bytes (held_after secret es who)) answer → answer ≡ Some (held_after secret es who)

-- with any functions of the outside that keep their laws
abbrev pub StepsKeepValid : Type 0
StepsKeepValid = (o : Outside) → Lawful o → Keeps o
