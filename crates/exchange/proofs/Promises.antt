-- The theorem over every exchange, from the invariant.
use Rattle.std.proofs.Common.{◌≡◌, ℕ, ◌+◌, Bool, true, false, cond, eqb, List, [], ◌∷◌, ◌++◌, map, length, Some, None, Option, sym, refl, ap, ◌∙◌, subst, append_assoc, append-nil, arith}
use Rattle.std.specs.List.{ContainsAt as Has, AllByRecursion as All}
use Rattle.std.proofs.lemmas.Bool.{true≢false, and_left, ne_eqb}
use Rattle.ratchet.specs.declared.types.Message.{Message}
use Rattle.ratchet.specs.State.{State, has}
use Rattle.ratchet.specs.Steps.{Answer, kept, refused, in_turn, is_new}
use Rattle.runs.specs.declared.types.Who.{Who}
use Rattle.runs.specs.declared.types.Who.TheVariants.{First, Second}
use Rattle.runs.specs.World as model
use Rattle.runs.specs.Laws as laws
use Rattle.runs.proofs.Marks.{has-not}
use Rattle.runs.proofs.Sides.{run-append}
use Rattle.runs.proofs.Way.{sender, taker, Sealing, Opening}
use Rattle.runs.proofs.Good.{Good, good}
use Rattle.runs.proofs.Promises.{every-run}
use Rattle.exchange.specs.Outside.{Draw, Outside, Lawful}
use Rattle.exchange.specs.Wire.{Parts, read_message}
use Rattle.exchange.specs.Held.{Held, Ground, draw_of, hold}
use Rattle.exchange.specs.Exchanges.{Taken, kept_out, take_in_turn, take_recalled, take_new, take_message, take_read}
use Rattle.exchange.specs.Network.{Letter, Reading, World, Event, party, own_of, fresh_of, take_answer, start, step, run}
use Rattle.exchange.specs.Model.{model_world, model_event, model_events, on_net, ground_of}
use Rattle.exchange.specs.Promise.{OpensIfSent, NoneForged, after, events_of, ground, Sized, read_as, Arrives, opens, stays_out, box_empty, Through, was_opened, opens_now, limited, Stranger, BytesKeep, EveryExchange}
use Rattle.exchange.proofs.Sizes.{sized}
use Rattle.exchange.proofs.Opening as opening
use Rattle.exchange.proofs.Opening.{Opens, parts_for}
use Rattle.exchange.proofs.Letters.{has-among, among-has, told-apart, proper_read}
use Rattle.exchange.proofs.Modelled.{party-of, run_none}
use Rattle.exchange.proofs.Invariant.{Agrees, Inv, own_known}
use Rattle.exchange.proofs.Exchanged.{agrees-self, arrived, model_answer, stranger, stepped}
use Rattle.exchange.proofs.Beginning.{start_model, start_inv}
use Rattle.exchange.proofs.Boxes.{agrees-run}

-- ### Runs

pub run_more : (o : Outside) (es fs : List Event) (w : World) → run o (es ++ fs) w ≡ run o fs (run o es w)
unfolding run
run_more o [] fs w = refl
run_more o (e ∷ es) fs w = run_more o es fs (step o e w)

-- the world after a run, beside the model's
record Traced (o : Outside) (secret : List ℕ) (w : World) (ms : List model.Event) : Type 0 where
  agrees : model_world w ≡ model.run ms model.start
  inv : Inv o secret w

traced : (o : Outside) → Lawful o → (secret : List ℕ) (es : List Event) (w : World) (ms : List model.Event) → Traced o secret w ms → NoneForged o es w →
    Traced o secret (run o es w) (ms ++ model_events o es w)
unfolding run model_events NoneForged
traced o k secret [] w ms t u = rw (append-nil ms) t
traced o k secret (e ∷ es) w ms t u =
    let s = stepped o k secret w t.inv e u.0 in
    let next = traced o k secret es (step o e w) (ms ++ model_event o w e)
    (record { agrees = s.agrees ∙ (ap (model.run (model_event o w e)) t.agrees ∙ sym (run-append ms (model_event o w e) model.start)); inv = s.inv }) u.1 in
    rw (append_assoc ms (model_event o w e) (model_events o es (step o e w))) at next

-- ### A message given back to its sender has no place

module _ (r t : ℕ) (p : model.Party) (a : Sealing r (sender p)) (b : Opening t (taker p)) (m : Message) (h : model.among m p.sealed ≡ true) where
  not_in_turn : in_turn p.side m ≡ false
  not_in_turn = and_left (eqb (m.mark.link + 2) p.side.drawn) _ (ne_eqb (m.mark.link + 2) p.side.drawn (λ e. omega (arith, a.parity, (a.each m h).parity)))

  not_aside : has m.mark p.side.skipped ≡ false
  not_aside = has-not m.mark _ (λ k. omega (arith, a.parity, b.parity, (a.each m h).parity, (b.aside m.mark k).parity))

  not_new : is_new p.side m ≡ false
  not_new = ne_eqb m.mark.link p.side.drawn (λ e. omega (arith, a.parity, (a.each m h).parity))

  placeless : (in_turn p.side m ≡ false) × (has m.mark p.side.skipped ≡ false) × (is_new p.side m ≡ false)
  placeless = (not_in_turn, not_aside, not_new)

own-placeless : (who : Who) (w : model.World) → Good w → (m : Message) → model.among m (model.party who w).sealed ≡ true →
    (in_turn (model.party who w).side m ≡ false) × (has m.mark (model.party who w).side.skipped ≡ false) × (is_new (model.party who w).side m ≡ false)
own-placeless First w g = placeless 0 1 w.first g.there.sealing g.back.opening
own-placeless Second w g = placeless 1 0 w.second g.back.sealing g.there.opening

once-sealed : (who : Who) (w : model.World) → Good w → laws.NoneTwice (laws.keys_of (model.party who w).sealed)
once-sealed First w g = g.there.sealing.once
once-sealed Second w g = g.back.sealing.once

no_place : (o : Outside) (own : Draw) (fresh : Option Draw) (h : Held) (p : Parts) →
    (in_turn h.state p.message ≡ false) × (has p.message.mark h.state.skipped ≡ false) × (is_new h.state p.message ≡ false) → take_message o own fresh h p ≡ kept_out 3
no_place o own fresh h p n = λ i. cond (n.0 i) (take_in_turn o h p) (cond (n.1 i) (take_recalled o h p) (cond (n.2 i) (take_new o own fresh h p) (kept_out 3)))

-- ### What is answered

never-ready : (ready : Bool) (d : Draw) → cond ready (Some d) None ≡ None → ready ≡ false
never-ready true d e = let z : ◌≡◌ {A = ℕ} 0 1 = cc in absurd (omega arith)
never-ready false d e = refl

opens-arrives : (o : Outside) (g : Ground) (s : State) (l : Letter) (ready : Bool) (d : Draw) (a : Taken) (b : Answer) → Opens o g s (cond ready (Some d) None) l.text a b → Arrives l ready a b
opens-arrives o g s l ready d _ _ opening.Opens.stays = stays_out
opens-arrives o g s l ready d _ _ (opening.Opens.lacks e) = box_empty (never-ready ready d e)
opens-arrives o g s l ready d _ _ (opening.Opens.takes r c) = opens
opens-arrives o g s l ready d _ _ (opening.Opens.turns x e c r) = opens

-- with a key to give, the answer to a message that the bookkeeping keeps is its text, and to another its number
now-opens : (l : Letter) (was : List Letter) (s t : State) (a : Taken) (b : Answer) → Arrives l true a b → b ≡ kept t → Through l was s a
now-opens l was s t _ _ opens e = opens_now
now-opens l was s t _ _ stays_out e = let z : ◌≡◌ {A = ℕ} 0 1 = cc in absurd (omega arith)
now-opens l was s t _ _ (box_empty f) e = absurd (true≢false f)

now-limited : (l : Letter) (was : List Letter) (s : State) (n : ℕ) (a : Taken) (b : Answer) → Arrives l true a b → b ≡ refused n → laws.KeptOut s l.message n → Through l was s a
now-limited l was s n _ _ opens e h = let z : ◌≡◌ {A = ℕ} 0 1 = cc in absurd (omega arith)
now-limited l was s n _ _ (stays_out {n = i}) e h = let z : n ≡ i = cc in limited (subst (laws.KeptOut s l.message) z h)
now-limited l was s n _ _ (box_empty f) e h = absurd (true≢false f)

all_read : (f : State → Reading) (rs : List Reading) → All (λ (r : Reading). r ≡ f r.held.state) rs → rs ≡ map f (map (λ (r : Reading). r.held.state) rs)
all_read f [] h = refl
all_read f (r ∷ rs) h = let t = all_read f rs h.1 in λ i. h.0 i ∷ t i

-- ### All of it

module _ (o : Outside) (k : Lawful o) (secret : List ℕ) (long : length secret ≡ 32) (es : List Event) (u : NoneForged o es (start o secret)) where
  abbrev w : World
  w = after o secret es

  abbrev ms : List model.Event
  ms = events_of o secret es

  trace : Traced o secret w ms
  trace = traced o k secret es (start o secret) [] (record { agrees = start_model o secret ∙ sym run_start; inv = start_inv o secret k }) u
    where
      run_start : model.run [] model.start ≡ model.start
      run_start = run_none model.start

  -- the sides of the two are the same
  same_side : (who : Who) → (party who w).held.state ≡ (model.party who (laws.after ms)).side
  same_side who = ap (λ (x : model.Party). x.side) (sym (party-of who w)) ∙ ap (λ (x : model.World). (model.party who x).side) trace.agrees

  -- a table of any later world
  later : (fs : List Event) → Agrees secret (ground o secret (es ++ fs)) w
  later fs = agrees-run o secret (ground o secret (es ++ fs)) fs w (rw (sym (run_more o es fs (start o secret))) (agrees-self secret (after o secret (es ++ fs))))

  holds : (fs : List Event) (who : Who) → (party who w).held ≡ hold o (ground o secret (es ++ fs)) (model.party who (laws.after ms)).side
  holds fs who = (trace.inv.bytes (ground o secret (es ++ fs)) (later fs) who).held ∙ ap (hold o (ground o secret (es ++ fs))) (same_side who)

  arrives : (who : Who) (l : Letter) (ready : Bool) → Has (party (model.other who) w).left l → Arrives l ready (take_answer o w who l.bytes ready) (model.take_answer (laws.after ms) who l.message true)
  arrives who l ready came =
      let P : Answer → Type 0 = λ x. Arrives l ready (take_answer o w who l.bytes ready) x in
      subst P (sym (model_answer o k secret w trace.inv who l came ready) ∙ ap (λ (x : model.World). model.take_answer x who l.message true) trace.agrees)
      (opens-arrives o (ground_of secret w) _ l ready _ _ _ (arrived o k secret w trace.inv who l came ready (ground_of secret w) (agrees-self secret w)))

  good_now : Good (model_world w)
  good_now = let P : model.World → Type 0 = Good in subst P (sym trace.agrees) (good ms)

  sealed_apart_lem : (who : Who) (l l' : Letter) → Has (party who w).sealed l → Has (party who w).sealed l' → l.message ≡ l'.message → l ≡ l'
  sealed_apart_lem who =
      let P : model.Party → Type 0 = λ x. laws.NoneTwice (laws.keys_of x.sealed) in
      told-apart (party who w).sealed (subst P (party-of who w) (once-sealed who (model_world w) good_now))

  comes_through_lem : (who : Who) (l : Letter) → Has (party (model.other who) w).left l → Through l (party who w).opened (party who w).held.state (take_answer o w who l.bytes true)
  comes_through_lem who l came = go ((every-run ms).comes who l.message left)
    where
      left : model.among l.message (model.party (model.other who) (laws.after ms)).left ≡ true
      left =
          ap (λ (x : model.World). model.among l.message (model.party (model.other who) x).left) (sym trace.agrees)
          ∙ (ap (λ (x : model.Party). model.among l.message x.left) (party-of (model.other who) w) ∙ has-among (party (model.other who) w).left l came)

      before : model.among l.message (model.party who (laws.after ms)).opened ≡ true → Has (party who w).opened l
      before h =
          let r = among-has l.message (party who w).opened
          (ap (λ (x : model.Party). model.among l.message x.opened) (sym (party-of who w)) ∙ (ap (λ (x : model.World). model.among l.message (model.party who x).opened) trace.agrees ∙ h)) in
          let sender = trace.inv.own (model.other who) in
          let e = sealed_apart_lem (model.other who) r.0 l (sender.left r.0 (trace.inv.opened who r.0 r.1)) (sender.left l came) r.2 in
          subst (Has (party who w).opened) e r.1

      go : laws.Comes ms who l.message → Through l (party who w).opened (party who w).held.state (take_answer o w who l.bytes true)
      go (laws.opened h) = was_opened (before h)
      go (laws.opens t e) = now-opens l (party who w).opened (party who w).held.state t _ _ (arrives who l true came) e
      go (laws.kept_out n e h) =
          now-limited l (party who w).opened (party who w).held.state n _ _ (arrives who l true came) e
          (let P : State → Type 0 = λ s. laws.KeptOut s l.message n in subst P (sym (same_side who)) h)

  returned : (who : Who) (l : Letter) (ready : Bool) → Has (party who w).left l → take_answer o w who l.bytes ready ≡ kept_out 3
  returned who l ready here =
      let g : Ground = ground_of secret w in
      let sealed = (trace.inv.own who).left l here in
      let read = proper_read o k g l ((trace.inv.bytes g (agrees-self secret w) who).proper l sealed) in
      let n = own-placeless who (model_world w) good_now l.message
      (ap (λ (x : model.Party). model.among l.message x.sealed) (party-of who w) ∙ has-among (party who w).sealed l sealed) in
      let Q : model.Party → Type 0 = λ x. (in_turn x.side l.message ≡ false) × (has l.message.mark x.side.skipped ≡ false) × (is_new x.side l.message ≡ false) in
      ap (take_read o (own_of who w) (fresh_of who ready w) (party who w).held) read
      ∙ no_place o (own_of who w) (fresh_of who ready w) (party who w).held (parts_for o g l.message l.text) (subst Q (party-of who w) n)

  strange : (who : Who) (bytes : List ℕ) (ready : Bool) → OpensIfSent o w who bytes → on_net bytes (party (model.other who) w).left ≡ false →
      Stranger (laws.after ms) who (read_message bytes) (take_answer o w who bytes ready)
  strange who bytes ready unforged net =
      let P : model.World → Type 0 = λ x. Stranger x who (read_message bytes) (take_answer o w who bytes ready) in
      subst P trace.agrees (stranger o k secret w trace.inv who bytes ready unforged net)

  bytes_keep : BytesKeep o secret es
  bytes_keep = record {
    agrees = trace.agrees;
    holds = holds;
    owns = λ fs who. own_known o secret w trace.inv (ground o secret (es ++ fs)) (later fs) who ∙ ap (λ (s : State). draw_of (ground o secret (es ++ fs)) s.drawn) (same_side who);
    sized = λ who. subst Sized (sym (trace.inv.bytes (ground_of secret w) (agrees-self secret w) who).held) (sized o k (ground_of secret w) long _);
    was_read = λ fs.
        all_read (read_as o (ground o secret (es ++ fs))) w.readings (trace.inv.readings (ground o secret (es ++ fs)) (later fs))
        ∙ ap (λ (x : model.World). map (read_as o (ground o secret (es ++ fs))) x.readings) trace.agrees;
    drawn_once = λ who. (trace.inv.own who).rising.rising;
    arrives = arrives;
    comes_through = comes_through_lem;
    returned = returned;
    strange = strange;
    handed_opened = λ who. (trace.inv.own who).handed;
    opened_left = trace.inv.opened;
    left_sealed = λ who. (trace.inv.own who).left;
    sealed_as = λ fs who l h. ((trace.inv.bytes (ground o secret (es ++ fs)) (later fs) who).proper l h).bytes;
    sealed_apart = sealed_apart_lem;
    keeps = every-run ms;
  }

pub every-exchange : EveryExchange
every-exchange = bytes_keep
