-- The two sides with their key boxes and all that happened to them, byte for byte: what was sealed, what left, what was opened and handed out, what was read.
-- Assumes nothing.
use Rattle.std.specs.Prelude.{ℕ, zero, suc, ◌+◌, Bool, cond, List, [], ◌∷◌, ◌++◌, Some, None, Option}
use Rattle.ratchet.specs.declared.types.Message.{Message}
use Rattle.ratchet.specs.State.{begun}
use Rattle.ratchet.specs.Steps.{message}
use Rattle.runs.specs.declared.types.Who.{Who}
use Rattle.runs.specs.declared.types.Who.TheVariants.{First, Second}
use Rattle.exchange.specs.Outside.{Draw, Outside}
use Rattle.exchange.specs.Wire.{parts_of}
use Rattle.exchange.specs.Held.{Held, blank}
use Rattle.exchange.specs.Exchanges.{begin_first, begin_second, Sent, sent, refused, send_text, Taken, opened, kept_out, no_key, take_bytes}

-- a message that was sealed or opened: what its header says, its text, and its bytes as they go over the net
pub record Letter : Type 0 where
  pub message : Message
  pub text : List ℕ
  pub bytes : List ℕ

-- a key box, by its draws: those that were in force before, oldest first, the one that is, and how many it has made
pub record Box : Type 0 where
  pub past : List ℕ
  pub own : ℕ
  pub made : ℕ

-- One side and its history, each list oldest first. `held` is what its file says: between steps it is what the side holds.
pub record Party : Type 0 where
  pub held : Held
  pub box : Box
  pub sealed : List Letter
  pub left : List Letter
  pub opened : List Letter
  pub handed : List Letter

-- a side as it was read out, with the key in force in its box
pub record Reading : Type 0 where
  pub held : Held
  pub own : Draw

pub record World : Type 0 where
  pub first : Party
  pub second : Party
  pub readings : List Reading

abbrev pub draw_by : Who → ℕ → Draw
draw_by who n = record { who = who; nth = n }

abbrev pub party : Who → World → Party
party First w = w.first
party Second w = w.second

abbrev pub with_party : Who → Party → World → World
with_party First p w = record { first = p; second = w.second; readings = w.readings }
with_party Second p w = record { first = w.first; second = p; readings = w.readings }

-- ### The start

abbrev pub new_party : Held → Party
new_party h = record { held = h; box = record { past = []; own = 0; made = 1 }; sealed = []; left = []; opened = []; handed = [] }

-- boxes that keep their law always answer here
abbrev pub first_held : Option Held → Held
first_held None = record { state = begun 1; root = blank; sending = blank; taking = blank; half = blank; keys = [] }
first_held (Some h) = h

-- each box has made one draw, and the first side has the public half of the second's
abbrev pub start : Outside → (secret : List ℕ) → World
start o secret = record {
  first = new_party (first_held (begin_first o (draw_by First 0) (o.half (draw_by Second 0)) secret));
  second = new_party (begin_second o (draw_by Second 0) secret);
  readings = [];
}

-- ### What a step does outside the side's memory, one effect after another

-- write: the page after a send; keep: the page after a message was taken, with the box as it is from then on;
-- seal, leave: a message is sealed with its key, and leaves; hand: an opened text is handed out
pub data Effect : Type 0 where
  write : Held → Effect
  keep : Held → Box → Letter → Effect
  seal : Letter → Effect
  leave : Letter → Effect
  hand : Letter → Effect

abbrev pub perform : Effect → Party → Party
perform (write h) p = record { held = h; box = p.box; sealed = p.sealed; left = p.left; opened = p.opened; handed = p.handed }
perform (keep h b l) p = record { held = h; box = b; sealed = p.sealed; left = p.left; opened = p.opened ++ l ∷ []; handed = p.handed }
perform (seal l) p = record { held = p.held; box = p.box; sealed = p.sealed ++ l ∷ []; left = p.left; opened = p.opened; handed = p.handed }
perform (leave l) p = record { held = p.held; box = p.box; sealed = p.sealed; left = p.left ++ l ∷ []; opened = p.opened; handed = p.handed }
perform (hand l) p = record { held = p.held; box = p.box; sealed = p.sealed; left = p.left; opened = p.opened; handed = p.handed ++ l ∷ [] }

-- the first so many effects: after them the side stops, if any are left, and comes up as its file says
abbrev pub performed : ℕ → List Effect → Party → Party
performed n [] p = p
performed zero (e ∷ es) p = p
performed (suc n) (e ∷ es) p = performed n es (perform e p)

-- the page is written first, and only then is the text sealed, or handed out
abbrev pub send_effects : Sent → Message → (text : List ℕ) → List Effect
send_effects (sent h bytes) m text =
    let l : Letter = record { message = m; text = text; bytes = bytes } in write h ∷ seal l ∷ leave l ∷ []
send_effects (refused n) m text = []

-- a draw is made before the page that names its key is written; a stop in between undoes it, and the next draw is another
abbrev pub drawing : (drew : Bool) → Box → Box
drawing drew b = cond drew (record { past = b.past; own = b.own; made = b.made + 1 }) b

-- with that page it comes into force
abbrev pub in_force : (drew : Bool) → Box → Box
in_force drew b = cond drew (record { past = b.past ++ b.own ∷ []; own = b.made; made = b.made + 1 }) b

abbrev pub take_effects : Taken → Box → Message → (bytes : List ℕ) → List Effect
take_effects (opened h text drew) b m bytes =
    let l : Letter = record { message = m; text = text; bytes = bytes } in keep h (in_force drew b) l ∷ hand l ∷ []
take_effects (kept_out n) b m bytes = []
take_effects no_key b m bytes = []

abbrev pub with_box : Box → Party → Party
with_box b p = record { held = p.held; box = b; sealed = p.sealed; left = p.left; opened = p.opened; handed = p.handed }

abbrev pub asked : Taken → Party → Party
asked (opened h text drew) p = with_box (drawing drew p.box) p
asked (kept_out n) p = p
asked no_key p = p

-- ### Events

-- sends: one sends a text; comes: some bytes come to one, whose box has a further key to give, or hasn't; reads: one is read out.
-- Sends and takes say after how many effects the side stops (or later: then it does not)
pub data Event : Type 0 where
  sends : Who → (text : List ℕ) → (effects : ℕ) → Event
  comes : Who → (bytes : List ℕ) → (ready : Bool) → (effects : ℕ) → Event
  reads : Who → Event

abbrev pub after_send : Outside → (text : List ℕ) → (effects : ℕ) → Party → Party
after_send o text n p = performed n (send_effects (send_text o p.held text) (message p.held.state) text) p

abbrev pub own_of : Who → World → Draw
own_of who w = draw_by who (party who w).box.own

abbrev pub fresh_of : Who → Bool → World → Option Draw
fresh_of who ready w = cond ready (Some (draw_by who (party who w).box.made)) None

abbrev pub take_answer : Outside → World → Who → (bytes : List ℕ) → (ready : Bool) → Taken
take_answer o w who bytes ready = take_bytes o (own_of who w) (fresh_of who ready w) (party who w).held bytes

abbrev pub after_take : Taken → (bytes : List ℕ) → (effects : ℕ) → Party → Party
after_take a bytes n p = performed n (take_effects a p.box (parts_of bytes).message bytes) (asked a p)

abbrev pub step : Outside → Event → World → World
step o (sends who text n) w = with_party who (after_send o text n (party who w)) w
step o (comes who bytes ready n) w = with_party who (after_take (take_answer o w who bytes ready) bytes n (party who w)) w
step o (reads who) w = record {
  first = w.first;
  second = w.second;
  readings = w.readings ++ record { held = (party who w).held; own = own_of who w } ∷ [];
}

-- events oldest first
unfoldable pub run : Outside → List Event → World → World
run o [] w = w
run o (e ∷ es) w = run o es (step o e w)
