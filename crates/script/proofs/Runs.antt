-- A line that is played is a step of the world or none, and so a script is a run.
use Rattle.std.proofs.Common.{◌≡◌, ℕ, List, [], ◌∷◌, ◌++◌, length, drop, Some, None, Ok, Err, Option, Result, sym, refl, ap, ◌∙◌, inl, inr}
use Rattle.runs.specs.declared.types.Who.{Who}
use Rattle.runs.specs.World.{World, Event, step, run, reads, sends, takes, other}
use Rattle.runs.proofs.Sides.{run-append}
use Rattle.runs.proofs.Promises.{every-run}
use Rattle.script.specs.declared.commands.Command.{Command}
use Rattle.script.specs.declared.commands.Command.TheVariants.{Nothing, Send, Deliver, Plan, Read, Show}
use Rattle.stage.specs.declared.player.Player.{Player}
use Rattle.stage.specs.declared.types.Taking.{Taking}
use Rattle.stage.specs.declared.types.NoDelivery.{NoDelivery}
use Rattle.stage.specs.declared.types.NoDelivery.TheVariants.{NoSuchMessage, NoSuchBit, NeverLeft}
use Rattle.notation.specs.Escapes.{unescaped}
use Rattle.stage.specs.Players.{world_of, numbered, whole, due_for, DeliveryIs}
use Rattle.stage.specs.Plan.{up_to}
use Rattle.script.specs.Played.{Told, SendText, LinePlayed}
use Rattle.script.specs.declared.rehearsal.BadScript.{BadScript}
use Rattle.script.specs.declared.view.View.{View}
use Rattle.script.specs.declared.view.View.TheVariants.{Sides, Openness}
use Rattle.script.specs.Commands.{parsed}
use Rattle.script.specs.Views.{Viewed}
use Rattle.script.specs.Whole.{Moved, Lawful, Through, begun, onward, Ended, all_played, bad_line, line_at}

delivery_moved : (n : ℕ) (flip : Option ℕ) (p q : Player) (d : Result Taking NoDelivery) → DeliveryIs n flip p q d → Moved (world_of p) (world_of q)
delivery_moved n flip p q (Err NoSuchMessage) h = inl (ap world_of h.1)
delivery_moved n flip p q (Err NoSuchBit) h = inl (ap world_of h.2)
delivery_moved n flip p q (Err NeverLeft) h = inl (ap world_of h.3)
delivery_moved n flip p q (Ok r) h =
    let to = other (numbered n p).from in
    inr (takes to (numbered n p).message (whole flip) (up_to (due_for to p) 2), h.3.world)

send-moved : (t : Option (List ℕ)) (who : Who) (p q : Player) (o u : List ℕ) (b : Told) → SendText t who p q o u b → Moved (world_of p) (world_of q)
send-moved None who p q o u b h = inl (ap world_of h.1.player)
send-moved (Some t) who p q o u b h = inr (sends who (length t) (up_to (due_for who p) 3), h.1.1.sent.world)

pub line-moved : (c : Option Command) (line : List ℕ) (p q : Player) (o u : List ℕ) (b : Told) → LinePlayed c line p q o u b → Moved (world_of p) (world_of q)
line-moved None line p q o u b h = inl (ap world_of h.1.player)
line-moved (Some Nothing) line p q o u b h = inl (ap world_of h.1.player)
line-moved (Some Show) line p q o u b h = inl (ap world_of h.1.player)
line-moved (Some (Read who)) line p q o u b h = inr (reads who, h.world)
line-moved (Some (Plan who s)) line p q o u b h = inl h.0.world
line-moved (Some (Deliver n flip)) line p q o u b h = delivery_moved n flip p q h.came h.delivered
line-moved (Some (Send who at)) line p q o u b h = send-moved (unescaped (drop at line)) who p q o u b h

abbrev pub Ran : World → World → Type 0
Ran w v = (es : List Event) × (v ≡ run es w)

pub ran-none : (w : World) → Ran w w
unfolding run
ran-none w = ([], refl)

run_more : (es : List Event) (e : Event) (w : World) → run (es ++ e ∷ []) w ≡ step e (run es w)
unfolding run
run_more es e w = run-append es (e ∷ []) w

pub ran-more : (w v u : World) → Ran w v → Moved v u → Ran w u
ran-more w v u (es, h) (inl e) = (es, e ∙ h)
ran-more w v u (es, h) (inr (e, k)) = (es ++ e ∷ [], k ∙ (ap (step e) h ∙ sym (run_more es e w)))

pub lawful : (w v : World) → Ran w v → Lawful w v
lawful w v r = record { events = r.0; ran = r.1; laws = λ _. every-run r.0 }

viewed_moved : (v : View) (line : List ℕ) (p q : Player) (o u : List ℕ) (b : Told) → Viewed v line p q o u b → Moved (world_of p) (world_of q)
viewed_moved Sides line p q o u b h = line-moved (parsed line) line p q o u b h
viewed_moved Openness line p q o u b h = line-moved (parsed line) line p q [] h.1.0 b h.1.1

through_ran : {v : View} {s : List ℕ} {p₀ : Player} {o₀ : List ℕ} {at k : ℕ} {p : Player} {o : List ℕ} → Through v s p₀ o₀ at k p o → Ran (world_of p₀) (world_of p)
through_ran {p₀ = p₀} begun = ran-none (world_of p₀)
through_ran {v = v} {s = s} {p₀ = p₀} (onward {at = at} {p = p} {q = q} {o = o} t h end e b d) =
    ran-more (world_of p₀) (world_of p) (world_of q) (through_ran t) (viewed_moved v (line_at s at end) p q o d.0 (Ok b) d.1)

-- however a script ended, what was played is a run
pub ended-lawful : {v : View} {s : List ℕ} {p₀ : Player} {o₀ : List ℕ} {q : Player} {u : List ℕ} {e : Result (Unit {0}) BadScript} → Ended v s p₀ o₀ q u e → Lawful (world_of p₀) (world_of q)
ended-lawful {p₀ = p₀} {q = q} (all_played t h) = lawful (world_of p₀) (world_of q) (through_ran t)
ended-lawful {v = v} {s = s} {p₀ = p₀} {q = q} (bad_line {at = at} {p = p} {o = o} t h end e why d) =
    lawful (world_of p₀) (world_of q) (ran-more (world_of p₀) (world_of p) (world_of q) (through_ran t) (viewed_moved v (line_at s at end) p q o d.0 _ d.1))
