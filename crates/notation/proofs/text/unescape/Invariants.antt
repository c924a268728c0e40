use Rattle.std.proofs.Common.{◌≡◌, take, vec_items}
use Rattle.notation.specs.Escapes.{Scan, scanned}
use Rattle.notation.proofs.text.unescape.Given as goal

abbrev pub invariant-loop-b : goal.invariant-loop-b
invariant-loop-b l = ◌≡◌ {A = Scan} (record { escape = l.escape; text = vec_items l.text }) (scanned (take l.b-index l.raw))
