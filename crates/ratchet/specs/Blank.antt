-- A slot of a side that holds no mark.
-- Assumes nothing.
use Rattle.ratchet.specs.declared.types.Mark.{Mark}

abbrev pub blank : Mark
blank = record { link = 0; place = 0 }
