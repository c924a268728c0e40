-- A worked exchange, with functions of the outside that only add bytes up: nothing about them is secret, but they keep the laws, and every step computes.
-- Assumes nothing.
use Rattle.std.specs.Prelude.{◌≡◌, ℕ, ◌+◌, ◌*◌, ◌%◌, true, false, List, [], ◌∷◌, ◌++◌, map, length, take, replicate, Some, slice_index, slice_set}
use Rattle.runs.specs.declared.types.Who.{Who}
use Rattle.runs.specs.declared.types.Who.TheVariants.{First, Second}
use Rattle.exchange.specs.Outside.{Outside, Lawful}
use Rattle.exchange.specs.Exchanges.{kept_out, no_key, message_bytes}
use Rattle.exchange.specs.Network.{Letter, World, Event, sends, comes, party, take_answer, start, run}

-- ### Functions of the outside

abbrev total : List ℕ → ℕ
total [] = 0
total (x ∷ xs) = (x + total xs) % 256

-- a draw by a number of its own
abbrev number : Who → ℕ → ℕ
number First n = 2 * n
number Second n = 2 * n + 1

abbrev pub sums : Outside
sums = record {
  link_bytes = λ r j. replicate 32 (total (r ++ j)) ++ replicate 32 (total (1 ∷ (r ++ j)));
  key_bytes = λ c. replicate 32 (total (1 ∷ c));
  next_bytes = λ c. replicate 32 (total (2 ∷ c));
  cover = λ k t. t;
  tag = λ k b. replicate 16 (total (k ++ b));
  half = λ d. replicate 32 (number d.who d.nth);
  joint = λ d h. Some (replicate 32 (number d.who d.nth + slice_index h 0));
}

-- ### What happens

abbrev hello : List ℕ
hello = 104 ∷ 105 ∷ []

abbrev answer : List ℕ
answer = 111 ∷ 107 ∷ []

abbrev begun : World
begun = start sums (replicate 32 7)

-- the world after some events
abbrev after : List Event → World
after es = run sums es begun

-- the bytes that a side sends next
abbrev next : Who → List Event → List ℕ → List ℕ
next who es text = message_bytes sums (party who (after es)).held text

abbrev texts : List Letter → List (List ℕ)
texts ls = map (λ (l : Letter). l.text) ls

-- the first sends, and its bytes
abbrev said : List Event
said = sends First hello 3 ∷ []

abbrev first_bytes : List ℕ
first_bytes = next First [] hello

-- the second takes it
abbrev heard : List Event
heard = said ++ comes Second first_bytes true 2 ∷ []

-- it stopped before its page was written, and takes it again
abbrev stopped : List Event
stopped = said ++ comes Second first_bytes true 0 ∷ []

abbrev heard_again : List Event
heard_again = stopped ++ comes Second first_bytes true 2 ∷ []

-- and answers, and the first takes that
abbrev answered : List Event
answered = heard_again ++ sends Second answer 3 ∷ comes First (next Second heard_again answer) true 2 ∷ []

-- ### What must hold

pub record Worked : Type 0 where
  pub lawful : Lawful sums
  pub left : texts (after said).first.left ≡ hello ∷ []
  pub size : length first_bytes ≡ 65
  -- the text is handed out; the same bytes are then kept out by 3
  pub handed : texts (after heard).second.handed ≡ hello ∷ []
  pub twice : take_answer sums (after heard) Second first_bytes true ≡ kept_out 3
  -- given back, damaged in its text or its header, cut short; and a box that has no key to give
  pub back : take_answer sums (after said) First first_bytes true ≡ kept_out 3
  pub damaged : take_answer sums (after said) Second (slice_set first_bytes 47 0) true ≡ kept_out 5
  pub mended : take_answer sums (after said) Second (slice_set first_bytes 12 1) true ≡ kept_out 5
  pub cut : take_answer sums (after said) Second (take 64 first_bytes) true ≡ kept_out 1
  pub box_empty : take_answer sums (after said) Second first_bytes false ≡ no_key
  -- a stop undoes the draw and hands nothing out; the next draw is another
  pub undone : (after stopped).second.handed ≡ []
  pub another : (after heard_again).second.box.own ≡ 2
  pub again : texts (after heard_again).second.handed ≡ hello ∷ []
  -- the answer comes through, and both have drawn again
  pub replied : texts (after answered).first.handed ≡ answer ∷ []
  pub drew : (after answered).first.held.state.drawn ≡ 3
