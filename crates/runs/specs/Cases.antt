-- Worked cases: what happens, and what must then hold.
-- Assumes nothing.
use Rattle.std.specs.Prelude.{◌≡◌, ℕ, true, false, List, [], ◌∷◌}
use Rattle.ratchet.specs.declared.types.Mark.{Mark}
use Rattle.ratchet.specs.declared.types.Message.{Message}
use Rattle.runs.specs.declared.types.Who.TheVariants.{First, Second}
use Rattle.ratchet.specs.State.{State}
use Rattle.ratchet.specs.Steps.{refused, message}
use Rattle.runs.specs.World.{World, Event, sends, takes, reads, run, start, take_answer}
use Rattle.runs.specs.Rule.{exposed, link_open}

pub record Case : Type 1 where
  pub events : List Event
  pub then : World → Type 0

abbrev mark : ℕ → ℕ → Mark
mark l p = record { link = l; place = p }

abbrev msg : ℕ → ℕ → ℕ → Message
msg l p before = record { mark = mark l p; before = before }

-- an event whose side doesn't stop; one that stops after its page was written and before the message left
abbrev says : Event
says = sends First 5 3

abbrev answers : Event
answers = sends Second 5 3

abbrev lost : Event
lost = sends First 5 2

abbrev hears : Message → Event
hears m = takes Second m true 2

abbrev back : Message → Event
back m = takes First m true 2

abbrev holds : State → (drawn sent taken before : ℕ) → List Mark → Type 0
holds s d n t b aside = s ≡ record { drawn = d; sent = n; taken = t; before = b; skipped = aside }

abbrev pub cases : List Case
cases =
    -- A. The first sends two; the second takes the second of them: 0/0 is put aside, and key 2 is drawn.
    record { events = says ∷ says ∷ hears (msg 0 1 0) ∷ []; then = λ w. holds w.second.side 2 0 2 0 (mark 0 0 ∷ []) }
    -- Then it takes the first: nothing is put aside any more.
    ∷ record { events = says ∷ says ∷ hears (msg 0 1 0) ∷ hears (msg 0 0 0) ∷ []; then = λ w. holds w.second.side 2 0 2 0 [] }
    -- B. The second sends on link 1, and the first takes it: it draws key 3, sends on link 2, and its count before is 2.
    ∷ record {
      events = says ∷ says ∷ hears (msg 0 1 0) ∷ hears (msg 0 0 0) ∷ answers ∷ back (msg 1 0 0) ∷ [];
      then = λ w. holds w.first.side 3 0 1 2 [] × (message w.first.side ≡ msg 2 0 2);
    }
    -- C. The first is read before it sent anything: all keys of link 0 lie open, and link 1 does.
    ∷ record { events = reads First ∷ []; then = λ w. ((i : ℕ) → exposed w.readings 0 i ≡ true) × (link_open w.readings 1 ≡ true) }
    -- D. After that the second answers, and the first sends on link 2: it is shut.
    ∷ record {
      events = reads First ∷ says ∷ hears (msg 0 0 0) ∷ answers ∷ back (msg 1 0 0) ∷ says ∷ [];
      then = λ w. (w.first.left ≡ msg 0 0 0 ∷ msg 2 0 1 ∷ []) × ((i : ℕ) → exposed w.readings 2 i ≡ false);
    }
    -- E. The second is read in A between the two takes: 0/0 lies open, and 0/1 doesn't.
    ∷ record {
      events = says ∷ says ∷ hears (msg 0 1 0) ∷ reads Second ∷ hears (msg 0 0 0) ∷ [];
      then = λ w. (exposed w.readings 0 0 ≡ true) × (exposed w.readings 0 1 ≡ false);
    }
    -- F. A message comes damaged: it is refused with 5, and nothing is put aside.
    ∷ record {
      events = says ∷ says ∷ takes Second (msg 0 1 0) false 2 ∷ [];
      then = λ w. (take_answer w Second (msg 0 1 0) false ≡ refused 5) × holds w.second.side 0 0 0 0 [] × (w.second.opened ≡ []);
    }
    -- G. The first stops after its page was written and before the message left: it comes up having sent it, and that place is passed over by the other.
    ∷ record {
      events = lost ∷ says ∷ hears (msg 0 1 0) ∷ [];
      then = λ w. (w.first.side.sent ≡ 2) × (w.first.left ≡ msg 0 1 0 ∷ []) × holds w.second.side 2 0 2 0 (mark 0 0 ∷ []);
    }
    ∷ []

-- what must hold in each case does
abbrev pub AllHold : List Case → Type 0
AllHold [] = Unit {0}
AllHold (c ∷ cs) = (c.then (run c.events start)) × AllHold cs

abbrev pub CasesHold : Type 0
CasesHold = AllHold cases
