-- What a rehearsal prints, line by line; 10 ends a line.
-- Assumes nothing.
use Rattle.std.specs.Prelude.{ℕ, ◌-◌, cond, List, [], ◌∷◌, ◌++◌, length, codes, decimal, ◌==◌, nat_lt}
use Rattle.std.specs.List.{flat_map}
use Rattle.ratchet.specs.declared.types.Mark.{Mark}
use Rattle.ratchet.specs.Numbers.{number}
use Rattle.ratchet.specs.State.{State}
use Rattle.runs.specs.declared.types.Who.{Who}
use Rattle.runs.specs.declared.types.Who.TheVariants.{First, Second}
use Rattle.runs.specs.Names.{name_of}
use Rattle.runs.specs.World.{World}
use Rattle.stage.specs.declared.types.Sending.{Sending}
use Rattle.stage.specs.declared.types.Sending.TheVariants as sending
use Rattle.stage.specs.declared.types.Taking.{Taking}
use Rattle.stage.specs.declared.types.Taking.TheVariants as taking
use Rattle.notation.specs.Escapes.{escaped}

-- `L/P`, and what follows it
abbrev pub mark_text : Mark → List ℕ → List ℕ
mark_text m rest = decimal m.link ++ (codes "/" ++ (decimal m.place ++ rest))

-- `M L/P WORD`
abbrev pub marked_line : ℕ → Mark → List ℕ → List ℕ
marked_line n m word = decimal n ++ (codes " " ++ mark_text m (codes " " ++ (word ++ (10 ∷ []))))

-- `M WORD`
abbrev pub numbered_line : ℕ → List ℕ → List ℕ
numbered_line n word = decimal n ++ (codes " " ++ (word ++ (10 ∷ [])))

abbrev pub stopped_line : List ℕ
stopped_line = codes "stopped" ++ (10 ∷ [])

-- what a send came to, the message being the n-th
abbrev pub sending_line : ℕ → Sending → List ℕ
sending_line n (sending.Sent m) = marked_line n m.mark (codes "sent")
sending_line n (sending.Lost m) = marked_line n m.mark (codes "lost")
sending_line n sending.Stopped = stopped_line
sending_line n (sending.Refused why) = codes "refused " ++ (decimal (number why) ++ (10 ∷ []))

abbrev pub text_part : List ℕ → List ℕ
text_part text = cond (length text == 0) [] (codes " " ++ escaped text)

abbrev pub opened_line : ℕ → List ℕ → List ℕ
opened_line n text = decimal n ++ (codes " opened" ++ (text_part text ++ (10 ∷ [])))

-- what taking the n-th message, with this text, came to
abbrev pub taking_line : ℕ → List ℕ → Taking → List ℕ
taking_line n text taking.Opened = opened_line n text
taking_line n text taking.Lost = numbered_line n (codes "lost")
taking_line n text taking.Stopped = stopped_line
taking_line n text (taking.Refused why) = decimal n ++ (codes " refused " ++ (decimal (number why) ++ (10 ∷ [])))

abbrev pub read_line : Who → List ℕ
read_line who = name_of who ++ (codes " read" ++ (10 ∷ []))

-- ### What a side holds

-- a link so many below the last key drawn, and a place; `-` where there is no such link
abbrev pub link_text : (drawn least place : ℕ) → List ℕ
link_text d least p = cond (nat_lt d least) (codes "-") (decimal (d - least) ++ (codes "/" ++ decimal p))

abbrev pub spaced_mark : Mark → List ℕ
spaced_mark m = codes " " ++ (decimal m.link ++ (codes "/" ++ decimal m.place))

abbrev pub marks_text : List Mark → List ℕ
marks_text ms = cond (length ms == 0) (codes " -") (flat_map spaced_mark ms)

abbrev pub labelled : List ℕ → ℕ → List ℕ
labelled label n = label ++ decimal n

abbrev pub keys_text : Who → ℕ → List ℕ
keys_text who d = name_of who ++ (labelled (codes ": drawn ") d ++ labelled (codes "; root ") d)

abbrev pub links_text : State → List ℕ
links_text s = codes "; sends " ++ (link_text s.drawn 1 s.sent ++ (codes "; takes " ++ link_text s.drawn 2 s.taken))

-- `first: drawn 3; root 3; sends 2/0; takes 1/3; before 2; aside 1/0 1/2`
abbrev pub side_line : Who → State → List ℕ
side_line who s =
    keys_text who s.drawn ++ (links_text s ++ (labelled (codes "; before ") s.before ++ (codes "; aside" ++ (marks_text s.skipped ++ (10 ∷ [])))))

-- what both hold
abbrev pub shown : World → List ℕ
shown w = side_line First w.first.side ++ side_line Second w.second.side
