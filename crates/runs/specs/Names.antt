-- What the two sides are called.
-- Assumes nothing.
use Rattle.std.specs.Prelude.{ℕ, List, codes}
use Rattle.runs.specs.declared.types.Who.{Who}
use Rattle.runs.specs.declared.types.Who.TheVariants.{First, Second}

abbrev pub name_of : Who → List ℕ
name_of First = codes "first"
name_of Second = codes "second"
