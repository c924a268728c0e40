-- A whole script: it is played line by line, and is a run of which the laws of every run hold.
-- Assumes nothing.
use Rattle.std.specs.Str.{bytes_eq}
use Rattle.std.specs.Prelude.{◌≡◌, ℕ, ◌+◌, ◌-◌, ◌<◌, ◌≤◌, cond, [], ◌∷◌, take, drop, min, ◌⊎◌, Ok, Err, Result, List, length, ◌≢◌, slice_index, slice_range}
use Rattle.stage.specs.declared.player.Player.{Player}
use Rattle.script.specs.declared.play.BadLine.{BadLine}
use Rattle.script.specs.declared.play.Played.{Played}
use Rattle.script.specs.declared.rehearsal.BadScript.{BadScript}
use Rattle.script.specs.declared.view.View.{View}
use Rattle.script.specs.Views.{Turned}
use Rattle.runs.specs.World.{World, Event, step, run, start}
use Rattle.runs.specs.Laws.{Laws}

-- at most one event
abbrev pub Moved : World → World → Type 0
Moved w v = (v ≡ w) ⊎ ((e : Event) × (v ≡ step e w))

-- from one world to another by a list of events; and if the first is that in which the two begin, all laws hold of these
pub record Lawful (w v : World) : Type 0 where
  pub events : List Event
  pub ran : v ≡ run events w
  pub laws : w ≡ start → Laws events

-- the line that begins at one place ends at another: at the next newline (10), or with the script
pub record EndsLine (s : List ℕ) (at end : ℕ) : Type 0 where
  pub from : at ≤ end
  pub bound : end ≤ length s
  pub whole : (k : ℕ) → at ≤ k → k < end → slice_index s k ≢ 10
  pub ended : end < length s → slice_index s end ≡ 10

abbrev pub line_at : List ℕ → (at end : ℕ) → List ℕ
line_at s at end = slice_range s at end

-- a line without the newline that ends it, if one does
abbrev pub without_newline : List ℕ → List ℕ
without_newline l = cond (bytes_eq (drop (length l - 1) l) (10 ∷ [])) (take (length l - 1) l) l

abbrev pub next_number : ℕ → ℕ
next_number k = min (k + 1) 18446744073709551615

-- the lines up to one that begins at a place, the k-th, played one after another, none of them bad
pub data Through (v : View) (s : List ℕ) (p₀ : Player) (o₀ : List ℕ) : (at k : ℕ) → Player → List ℕ → Type 0 where
  begun : Through v s p₀ o₀ 0 1 p₀ o₀
  onward : {at k : ℕ} {p q : Player} {o u : List ℕ} → Through v s p₀ o₀ at k p o → at < length s → (end : ℕ) → EndsLine s at end →
      (b : Played) → Turned v k (line_at s at end) p q o u (Ok b) → Through v s p₀ o₀ (end + 1) (next_number k) q u

-- how a script ended: all lines were played, or the k-th, behind the others, was bad
pub data Ended (v : View) (s : List ℕ) (p₀ : Player) (o₀ : List ℕ) (q : Player) (u : List ℕ) : Result (Unit {0}) BadScript → Type 0 where
  all_played : {at k : ℕ} → Through v s p₀ o₀ at k q u → length s ≤ at → Ended v s p₀ o₀ q u (Ok tt)
  bad_line : {at k : ℕ} {p : Player} {o : List ℕ} → Through v s p₀ o₀ at k p o → at < length s → (end : ℕ) → EndsLine s at end → (why : BadLine) →
      Turned v k (line_at s at end) p q o u (Err why) → Ended v s p₀ o₀ q u (Err (record { line = k; why = why }))
