-- What is promised of every run of the two sides.
-- Assumes nothing.
use Rattle.std.specs.Prelude.{◌≡◌, ℕ, suc, ◌+◌, ◌^◌, ◌<◌, ◌≤◌, Bool, true, false, List, [], ◌++◌, map, length, Decides, ◌≢◌, slice_index_or}
use Rattle.ratchet.specs.declared.types.Message.{Message}
use Rattle.ratchet.specs.State.{State}
use Rattle.ratchet.specs.Steps.{kept, refused, in_turn, is_new, passed, left}
use Rattle.runs.specs.declared.types.Who.{Who}
use Rattle.chain.specs.Secret.{Secret, shared, Knows, key_at}
use Rattle.runs.specs.Stock.{key_of, stock, stocks}
use Rattle.runs.specs.Rule.{exposed}
use Rattle.runs.specs.World.{World, Event, run, start, party, other, among, take_answer}

-- the world after some events, from the first secret on
abbrev pub after : List Event → World
after es = run es start

-- what was read in all
abbrev pub readings : List Event → List State
readings es = (after es).readings

-- does the key of a message lie open
abbrev pub open? : List Event → Message → Bool
open? es m = exposed (readings es) m.mark.link m.mark.place

abbrev pub drawn_by : Who → List Event → ℕ
drawn_by who es = (party who (after es)).side.drawn

-- can a side work out the key of a message from what it holds
abbrev pub Can : Who → List Event → Message → Type 0
Can who es m = Knows (stock (party who (after es)).side) (key_of m.mark)

abbrev pub keys_of : List Message → List Secret
keys_of ms = map (λ (m : Message). key_of m.mark) ms

abbrev pub NoneTwice : List Secret → Type 0
NoneTwice xs = (i j : ℕ) → i < j → j < length xs → slice_index_or xs i shared ≢ slice_index_or xs j shared

-- between two moments nothing is read, and each side draws a key
pub record Healed (es fs : List Event) : Type 0 where
  pub unread : readings (es ++ fs) ≡ readings es
  pub drew : (who : Who) → drawn_by who es < drawn_by who (es ++ fs)

-- why a message that left is not opened now: the limit that it breaks, or the count that is used up
pub data KeptOut (s : State) (m : Message) : ℕ → Type 0 where
  passes_too_many : in_turn s m ≡ true → 256 < passed s m → KeptOut s m 4
  no_room : in_turn s m ≡ true → 512 < length s.skipped + passed s m → KeptOut s m 4
  old_link_too_many : is_new s m ≡ true → 256 < left s m → KeptOut s m 4
  new_link_too_many : is_new s m ≡ true → 256 < m.mark.place → KeptOut s m 4
  no_room_for_both : is_new s m ≡ true → 512 < length s.skipped + left s m + m.mark.place → KeptOut s m 4
  no_further_key : is_new s m ≡ true → 2 ^ 32 ≤ s.drawn + 2 → KeptOut s m 6

-- a message that left: it was opened, or it opens now, or it is kept out by a number and for a reason
pub data Comes (es : List Event) (who : Who) (m : Message) : Type 0 where
  opened : among m (party who (after es)).opened ≡ true → Comes es who m
  opens : (s : State) → take_answer (after es) who m true ≡ kept s → Comes es who m
  kept_out : (n : ℕ) → take_answer (after es) who m true ≡ refused n → KeptOut (party who (after es)).side m n → Comes es who m

-- THE THEOREM: these laws hold of every list of events.
pub record Laws (es : List Event) : Type 0 where
  -- from all that was ever read, the key of a message can be worked out exactly if the rule says that it lies open
  pub exactly : (n i : ℕ) → Decides (exposed (readings es) n i) (Knows (stocks (readings es)) (key_at n i))
  -- a message opened before the first reading is shut, whatever is read later
  pub past : (fs : List Event) (who : Who) (m : Message) → readings es ≡ [] → among m (party who (after es)).opened ≡ true → open? (es ++ fs) m ≡ false
  -- once each side has drawn a key after the last reading, the link that the last of these keys begins, and every later one, is shut
  pub heals : (fs : List Event) (n i : ℕ) → Healed es fs → ((who : Who) → drawn_by who (es ++ fs) ≤ suc n) → exposed (readings (es ++ fs)) n i ≡ false
  -- and a message of a link begun after that, opened before the next reading, stays shut for good
  pub stays : (fs gs hs : List Event) (who : Who) (m : Message) → Healed es fs → readings (es ++ fs ++ gs) ≡ readings es →
      ((p : Who) → drawn_by p (es ++ fs) ≤ m.mark.link) → among m (party who (after (es ++ fs ++ gs))).opened ≡ true →
      open? (es ++ fs ++ gs ++ hs) m ≡ false
  -- no two messages are ever sealed with one key, those counted that never left
  pub sealed_once : NoneTwice (keys_of ((after es).first.sealed ++ (after es).second.sealed))
  -- from its sealing on the sender can't work a message's key out from what it holds; from its opening on neither side can
  pub sender_forgets : (fs : List Event) (who : Who) (m : Message) → among m (party who (after es)).sealed ≡ true → Can who (es ++ fs) m → ⊥
  pub both_forget : (fs : List Event) (who p : Who) (m : Message) → among m (party who (after es)).opened ≡ true → Can p (es ++ fs) m → ⊥
  -- every message that left was opened, or opens now, or is kept out by a limit that it breaks
  pub comes : (who : Who) (m : Message) → among m (party (other who) (after es)).left ≡ true → Comes es who m
  -- no message is opened twice, and no text is handed out twice; what is handed out was opened, what is opened was sent by the other, and what left was sealed
  pub opened_once : (who : Who) → NoneTwice (keys_of (party who (after es)).opened)
  pub handed_once : (who : Who) → NoneTwice (keys_of (party who (after es)).handed)
  pub handed_opened : (who : Who) (m : Message) → among m (party who (after es)).handed ≡ true → among m (party who (after es)).opened ≡ true
  pub opened_left : (who : Who) (m : Message) → among m (party who (after es)).opened ≡ true → among m (party (other who) (after es)).left ≡ true
  pub left_sealed : (who : Who) (m : Message) → among m (party who (after es)).left ≡ true → among m (party who (after es)).sealed ≡ true

-- every run
abbrev pub EveryRun : Type 0
EveryRun = (es : List Event) → Laws es
