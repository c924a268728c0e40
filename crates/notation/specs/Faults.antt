-- Why a rehearsal can't go on, in words.
-- Assumes nothing.
use Rattle.std.specs.Prelude.{ℕ, List, codes}
use Rattle.notation.specs.declared.faults.Fault.{Fault}
use Rattle.notation.specs.declared.faults.Fault.TheVariants.{Memory, TooLong}

abbrev pub fault_text : Fault → List ℕ
fault_text Memory = codes "there is no memory left"
fault_text TooLong = codes "the script is too long"
