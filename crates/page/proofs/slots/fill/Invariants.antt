use Rattle.std.proofs.Common.{◌≡◌, map, take}
use Rattle.session.specs.Views.{key_in}
use Rattle.page.specs.Parts.{keys_in}
use Rattle.page.proofs.slots.fill.Given as goal

abbrev pub invariant-loop-i : goal.invariant-loop-i
invariant-loop-i l = map key_in (take l.i l.slots) ≡ keys_in l.i l.entries
