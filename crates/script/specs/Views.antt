-- What is shown of a rehearsal: what each side holds, or who can open what.
-- Assumes nothing.
use Rattle.std.specs.Prelude.{◌≡◌, ℕ, List, [], ◌∷◌, ◌++◌, map, Ok, Err, vec_items, codes}
use Rattle.ratchet.specs.declared.types.Mark.{Mark}
use Rattle.exposure.specs.Rows.{rows_of}
use Rattle.stage.specs.declared.player.Letter.{Letter}
use Rattle.stage.specs.declared.player.Player.{Player}
use Rattle.stage.specs.Players.{world_of}
use Rattle.script.specs.declared.view.View.{View}
use Rattle.script.specs.declared.view.View.TheVariants.{Sides, Openness}
use Rattle.script.specs.declared.play.Played.TheVariants as played
use Rattle.script.specs.Commands.{parsed}
use Rattle.script.specs.Output.{shown, labelled}
use Rattle.script.specs.Played.{Told, LinePlayed}

abbrev pub mark_of : Letter → Mark
mark_of l = l.message.mark

-- a row for each message sealed so far
abbrev pub openness_of : Player → List ℕ
openness_of p = rows_of (world_of p).readings (map mark_of (vec_items p.letters))

-- behind `line K`
abbrev pub show_of : View → ℕ → Player → List ℕ
show_of Sides n p = shown (world_of p)
show_of Openness n p = (labelled (codes "line ") n ++ (10 ∷ [])) ++ openness_of p

abbrev pub end_of : View → Player → List ℕ
end_of Sides p = []
end_of Openness p = (codes "end" ++ (10 ∷ [])) ++ openness_of p

-- a line that is played; for who can open what, nothing that it prints is kept
abbrev pub Viewed : View → List ℕ → Player → Player → List ℕ → List ℕ → Told → Type 0
Viewed Sides line p q o u b = LinePlayed (parsed line) line p q o u b
Viewed Openness line p q o u b = (u ≡ o) × ((y : List ℕ) × LinePlayed (parsed line) line p q [] y b)

abbrev pub show_part : View → ℕ → Player → Told → List ℕ
show_part v k q (Ok played.Done) = []
show_part v k q (Ok played.Show) = show_of v k q
show_part v k q (Err why) = []

-- line k: it is played, and where it is `show`, what is to be shown stands behind
abbrev pub Turned : View → ℕ → List ℕ → Player → Player → List ℕ → List ℕ → Told → Type 0
Turned v k line p q o u b = (w : List ℕ) × Viewed v line p q o w b × (u ≡ w ++ show_part v k q b)
