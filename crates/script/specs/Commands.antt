-- The lines of a script, word by word.
-- Assumes nothing.
use Rattle.std.specs.Prelude.{ℕ, ◌+◌, cond, not, ◌||◌, List, length, take, drop, Some, None, codes, Option, ◌==◌, slice_index}
use Rattle.std.specs.Option.{option_map, option_or}
use Rattle.runs.specs.declared.types.Who.{Who}
use Rattle.runs.specs.declared.types.Who.TheVariants.{First, Second}
use Rattle.script.specs.declared.commands.Command.{Command}
use Rattle.script.specs.declared.commands.Command.TheVariants.{Nothing, Send, Deliver, Plan, Read, Show}
use Rattle.stage.specs.declared.types.When.{When}
use Rattle.stage.specs.declared.types.When.TheVariants.{Before, After}
use Rattle.notation.specs.Decimals.{number_of}
use Rattle.notation.specs.Words.{same, starts, space_at, solid}

-- where several kinds of line are tried, the first that fits is it (`orOther`)

abbrev pub quiet_of : List ℕ → Option Command
quiet_of line = cond (not (solid line) || starts line (codes "#")) (Some Nothing) (cond (same line (codes "show")) (Some Show) None)

abbrev pub read_of : List ℕ → Option Command
read_of line = cond (same line (codes "read first")) (Some (Read First)) (cond (same line (codes "read second")) (Some (Read Second)) None)

-- the text begins behind the space that follows the words; where nothing follows it is empty
abbrev pub send_with : List ℕ → List ℕ → Who → Option Command
send_with line words who =
    cond (starts line words)
    (cond (length line == length words) (Some (Send who (length words)))
    (cond (slice_index line (length words) == 32) (Some (Send who (length words + 1))) None)) None

abbrev pub send_of : List ℕ → Option Command
send_of line = option_or (send_with line (codes "send first") First) (send_with line (codes "send second") Second)

abbrev pub stop_with : List ℕ → List ℕ → Who → When → Option Command
stop_with line words who when =
    cond (starts line words) (option_map (λ n. Plan who (record { write = n; when = when })) (number_of (drop (length words) line))) None

abbrev pub stop_either : List ℕ → List ℕ → List ℕ → Who → Option Command
stop_either line before after who = option_or (stop_with line before who Before) (stop_with line after who After)

abbrev pub stop_of : List ℕ → Option Command
stop_of line =
    option_or (stop_either line (codes "stop first before ") (codes "stop first after ") First)
    (stop_either line (codes "stop second before ") (codes "stop second after ") Second)

abbrev pub flip_of : ℕ → List ℕ → Option Command
flip_of m rest =
    cond (length rest == 0) (Some (Deliver m None)) (cond (starts rest (codes " flip ")) (option_map (λ b. Deliver m (Some b)) (number_of (drop 6 rest))) None)

abbrev pub deliver_number : Option ℕ → List ℕ → Option Command
deliver_number None rest = None
deliver_number (Some m) rest = flip_of m rest

-- the number goes up to the first space
abbrev pub deliver_rest : List ℕ → Option Command
deliver_rest rest = deliver_number (number_of (take (space_at rest) rest)) (drop (space_at rest) rest)

abbrev pub deliver_of : List ℕ → Option Command
deliver_of line = cond (starts line (codes "deliver ")) (deliver_rest (drop 8 line)) None

abbrev pub parsed : List ℕ → Option Command
parsed line = option_or (quiet_of line) (option_or (read_of line) (option_or (send_of line) (option_or (stop_of line) (deliver_of line))))
