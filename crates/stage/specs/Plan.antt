-- Planned stops: which of them is due at a write, and after how many effects a step then stops.
-- Assumes nothing.
use Rattle.std.specs.Prelude.{◌≡◌, ◌≢◌, ℕ, ◌+◌, ◌-◌, ◌<◌, ◌≤◌, List, length, Some, None, Option, Ok, Err, Result}
use Rattle.std.specs.Ordering.{nat_cmp}
use Rattle.std.specs.Map.{lookup, remove_entry}
use Rattle.std.specs.BTreeMap.{insert_entry, is_at}
use Rattle.runs.specs.World.{Effect, Party, performed}
use Rattle.stage.specs.declared.types.Stop.{Stop}
use Rattle.stage.specs.declared.types.When.{When}
use Rattle.stage.specs.declared.types.When.TheVariants.{Before, After}
use Rattle.stage.specs.declared.types.BadStop.{BadStop}
use Rattle.stage.specs.declared.types.BadStop.TheVariants.{NoSuchWrite, Past, SetAlready}

-- what a plan says of a write, if anything
abbrev pub due : ℕ → List (ℕ × When) → Option When
due n stops = lookup (is_at (nat_cmp n)) stops

-- the plan without what it says of that write
abbrev pub kept : ℕ → List (ℕ × When) → List (ℕ × When)
kept n stops = remove_entry (is_at (nat_cmp n)) stops

-- how many pages a side has written, and the stops that are planned, by the numbers of their writes
pub record Plan : Type 0 where
  pub writes : ℕ
  pub stops : List (ℕ × When)

-- what the plan says of the next write
abbrev pub due_next : Plan → Option When
due_next p = due (p.writes + 1) p.stops

-- a write that did not happen is still to come
abbrev pub plan_after : Option When → Plan → Plan
plan_after None p = record { writes = p.writes + 1; stops = kept (p.writes + 1) p.stops }
plan_after (Some Before) p = record { writes = p.writes; stops = kept (p.writes + 1) p.stops }
plan_after (Some After) p = record { writes = p.writes + 1; stops = kept (p.writes + 1) p.stops }

-- stopped before the write a step has no effect; stopped after it, all but the last: the message does not leave, the text is not handed out
abbrev pub up_to : Option When → ℕ → ℕ
up_to None all = all
up_to (Some Before) all = 0
up_to (Some After) all = all - 1

abbrev pub carried_out : Option When → List Effect → Party → Party
carried_out d es p = performed (up_to d (length es)) es p

-- what setting a stop came to, and the plan then: a stop is for a write that is to come, and that has none yet
abbrev pub Planned : Stop → Plan → Plan → Result (Unit {0}) BadStop → Type 0
Planned s p q (Ok t) = (p.writes < s.write) × (due s.write p.stops ≡ None) × (q ≡ record { writes = p.writes; stops = insert_entry nat_cmp p.stops s.write s.when })
Planned s p q (Err NoSuchWrite) = (s.write ≡ 0) × (q ≡ p)
Planned s p q (Err Past) = (0 < s.write) × (s.write ≤ p.writes) × (q ≡ p)
Planned s p q (Err SetAlready) = (p.writes < s.write) × (due s.write p.stops ≢ None) × (q ≡ p)
