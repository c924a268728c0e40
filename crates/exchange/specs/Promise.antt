-- What is promised of every exchange, byte for byte.
-- Assumes that whatever opens was sent by the other side, and the laws of the outside: both are conditions below.
use Rattle.std.specs.Prelude.{◌≡◌, ℕ, suc, ◌<◌, Bool, true, false, List, [], ◌∷◌, ◌++◌, map, length, Some, None, Option, slice_index}
use Rattle.std.specs.List.{ContainsAt as Has, AllByRecursion}
use Rattle.ratchet.specs.declared.types.Message.{Message}
use Rattle.ratchet.specs.State.{State}
use Rattle.ratchet.specs.Steps.{Answer, kept, refused, take}
use Rattle.runs.specs.declared.types.Who.{Who}
use Rattle.runs.specs.World as model
use Rattle.runs.specs.Laws as laws
use Rattle.exchange.specs.Outside.{Outside, Lawful, seal}
use Rattle.exchange.specs.Wire.{Parts, header_bytes, read_message}
use Rattle.exchange.specs.Held.{Held, Ground, draw_of, key_bytes_of, hold}
use Rattle.exchange.specs.Exchanges.{Taken, opened, kept_out, no_key, text_of}
use Rattle.exchange.specs.Network.{Letter, Party, Reading, World, Event, sends, comes, reads, party, own_of, take_answer, start, step, run}
use Rattle.exchange.specs.Model.{model_world, model_events, on_net, draws_of, ground_of}

-- ### The condition on a run

-- bytes that come as far as their opening (if they didn't open they would be refused by 5), and open, were sent by the other side
abbrev pub OpensIfSent : Outside → World → Who → (bytes : List ℕ) → Type 0
OpensIfSent o w who bytes = (p : Parts) (text : List ℕ) → read_message bytes ≡ Some p →
    take false (party who w).held.state p.message ≡ refused 5 → text_of o (own_of who w) (party who w).held p ≡ Some text →
    on_net bytes (party (model.other who) w).left ≡ true

abbrev pub Unforged : Outside → World → Event → Type 0
Unforged o w (sends who text n) = Unit {0}
Unforged o w (comes who bytes ready n) = OpensIfSent o w who bytes
Unforged o w (reads who) = Unit {0}

unfoldable pub NoneForged : Outside → List Event → World → Type 0
NoneForged o [] w = Unit {0}
NoneForged o (e ∷ es) w = Unforged o w e × NoneForged o es (step o e w)

-- ### The words of the promise

module _ (o : Outside) (secret : List ℕ) where
  -- the world after some events, the model's events that belong to them, and the bytes that all recipes are made of
  abbrev pub after : List Event → World
  after es = run o es (start o secret)

  abbrev pub events_of : List Event → List model.Event
  events_of es = model_events o es (start o secret)

  abbrev pub ground : List Event → Ground
  ground es = ground_of secret (after es)

-- each of what a side holds has 32 bytes
pub record Sized (h : Held) : Type 0 where
  pub root : length h.root ≡ 32
  pub sending : length h.sending ≡ 32
  pub taking : length h.taking ≡ 32
  pub half : length h.half ≡ 32
  pub keys : AllByRecursion (λ k. length k ≡ 32) h.keys

-- a side read out, as the model says that it was
abbrev pub read_as : Outside → Ground → State → Reading
read_as o g s = record { held = hold o g s; own = draw_of g s.drawn }

-- what is answered to a message that the other side sent, beside the model's answer: opened to the text that was sealed, kept out by the model's number,
-- or, where the model keeps it and the box has no further key, that it has none
pub data Arrives (l : Letter) (ready : Bool) : Taken → Answer → Type 0 where
  opens : {h : Held} {drew : Bool} → Arrives l ready (opened h l.text drew) (kept h.state)
  stays_out : {n : ℕ} → Arrives l ready (kept_out n) (refused n)
  box_empty : {s : State} → ready ≡ false → Arrives l ready no_key (kept s)

-- what becomes of a message that the other side sent, where the box has a key to give: it was opened, or opens now to its text,
-- or is kept out by a limit that it breaks, or a count that is used up
pub data Through (l : Letter) (was : List Letter) (s : State) : Taken → Type 0 where
  was_opened : {a : Taken} → Has was l → Through l was s a
  opens_now : {h : Held} {drew : Bool} → Through l was s (opened h l.text drew)
  limited : {n : ℕ} → laws.KeptOut s l.message n → Through l was s (kept_out n)

-- what is answered to bytes that the other side never sent: 1, or the model's number for a message that doesn't open
pub data Stranger (w : model.World) (who : Who) : Option Parts → Taken → Type 0 where
  no_message : Stranger w who None (kept_out 1)
  stays_out : {p : Parts} {n : ℕ} → model.take_answer w who p.message false ≡ refused n → Stranger w who (Some p) (kept_out n)

-- the bytes of a message: its header with the half of the key above its link, and its text sealed under the model's key
abbrev pub letter_bytes : Outside → Ground → Message → (text : List ℕ) → List ℕ
letter_bytes o g m text =
    let header : List ℕ = header_bytes m (o.half (draw_of g (suc m.mark.link))) (length text) in
    header ++ seal o (key_bytes_of o g m.mark) header text

-- ### The promise

module _ (o : Outside) (secret : List ℕ) (es : List Event) where
  -- the world now, and the model's; a side, and the other's
  abbrev now : World
  now = after o secret es

  abbrev modelled : model.World
  modelled = laws.after (events_of o secret es)

  abbrev at : Who → Party
  at who = party who now

  abbrev opposite : Who → Party
  opposite who = party (model.other who) now

  -- the table of draws as it is after some further events
  abbrev table : List Event → Ground
  table fs = ground o secret (es ++ fs)

  -- THE THEOREM, of one list of events
  pub record BytesKeep : Type 0 where
    -- without its bytes, the world is the model's after the model's events
    pub agrees : model_world now ≡ modelled
    -- what each side holds, its key in force and what was read are, byte for byte, what the model says; one table serves the whole run, whatever comes later
    pub holds : (fs : List Event) (who : Who) → (at who).held ≡ hold o (table fs) (model.party who modelled).side
    pub owns : (fs : List Event) (who : Who) → own_of who now ≡ draw_of (table fs) (model.party who modelled).side.drawn
    pub was_read : (fs : List Event) → now.readings ≡ map (read_as o (table fs)) modelled.readings
    pub sized : (who : Who) → Sized (at who).held
    -- so are the bytes of all that was sealed; no two messages are sealed as one
    pub sealed_as : (fs : List Event) (who : Who) (l : Letter) → Has (at who).sealed l → l.bytes ≡ letter_bytes o (table fs) l.message l.text
    pub sealed_apart : (who : Who) (l l' : Letter) → Has (at who).sealed l → Has (at who).sealed l' → l.message ≡ l'.message → l ≡ l'
    -- no draw is ever in force twice
    pub drawn_once : (who : Who) (i j : ℕ) → i < j → j < length (draws_of (at who).box) → slice_index (draws_of (at who).box) i < slice_index (draws_of (at who).box) j
    -- a message that left, whenever and however often it comes to the other side
    pub arrives : (who : Who) (l : Letter) (ready : Bool) → Has (opposite who).left l →
        Arrives l ready (take_answer o now who l.bytes ready) (model.take_answer modelled who l.message true)
    pub comes_through : (who : Who) (l : Letter) → Has (opposite who).left l → Through l (at who).opened (at who).held.state (take_answer o now who l.bytes true)
    -- and given back to its own sender
    pub returned : (who : Who) (l : Letter) (ready : Bool) → Has (at who).left l → take_answer o now who l.bytes ready ≡ kept_out 3
    -- any other bytes
    pub strange : (who : Who) (bytes : List ℕ) (ready : Bool) → OpensIfSent o now who bytes → on_net bytes (opposite who).left ≡ false →
        Stranger modelled who (read_message bytes) (take_answer o now who bytes ready)
    -- every text handed out was opened from bytes that the other side sent, and is the one that was sealed in those very bytes
    pub handed_opened : (who : Who) (l : Letter) → Has (at who).handed l → Has (at who).opened l
    pub opened_left : (who : Who) (l : Letter) → Has (at who).opened l → Has (opposite who).left l
    pub left_sealed : (who : Who) (l : Letter) → Has (at who).left l → Has (at who).sealed l
    -- so all laws of the runs hold of it
    pub keeps : laws.Laws (events_of o secret es)

-- every exchange, with any functions of the outside that keep their laws, from any first secret, as long as whatever opens was sent by the other side
abbrev pub EveryExchange : Type 0
EveryExchange = (o : Outside) → Lawful o → (secret : List ℕ) → length secret ≡ 32 → (es : List Event) → NoneForged o es (start o secret) → BytesKeep o secret es
