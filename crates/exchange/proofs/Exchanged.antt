-- Every step on bytes is the model's, and keeps the invariant.
use Rattle.std.proofs.Common.{◌≡◌, ℕ, suc, ◌+◌, ◌*◌, ◌/◌, Bool, true, false, cond, List, [], ◌∷◌, length, get_or, Some, None, Option, sym, refl, ap, ◌∙◌, subst, arith}
use Rattle.std.specs.List.{ContainsAt as Has}
use Rattle.std.proofs.lemmas.Bool.{false≢true}
use Rattle.ratchet.specs.declared.types.Message.{Message}
use Rattle.ratchet.specs.State.{State}
use Rattle.ratchet.specs.Steps.{Answer, refused, take}
use Rattle.runs.specs.declared.types.Who.{Who}
use Rattle.runs.specs.World as model
use Rattle.exchange.specs.Outside.{Draw, Outside, Lawful}
use Rattle.exchange.specs.Wire.{Parts, parts_of, read_message}
use Rattle.exchange.specs.Held.{Ground, drawer, draw_of, hold}
use Rattle.exchange.specs.Exchanges.{Taken, kept_out, text_of, take_message, take_read}
use Rattle.exchange.specs.Network.{Letter, Party, World, Event, sends, comes, reads, party, with_party, draw_by, own_of, fresh_of, take_answer, after_send, after_take, step}
use Rattle.exchange.specs.Model.{model_world, on_net, effects_of, take_event, model_event, draws_of, ground_of}
use Rattle.exchange.specs.Promise.{OpensIfSent, Unforged, Stranger, no_message, stays_out}
use Rattle.exchange.proofs.Wires.{read_well}
use Rattle.exchange.proofs.Recipes.{drawer-next, meets}
use Rattle.exchange.specs.Pinned as beside
use Rattle.exchange.specs.Pinned.{Beside}
use Rattle.exchange.proofs.Opening.{Opens, opens-beside, half_for, parts_for, genuine_opens, shut_out}
use Rattle.exchange.proofs.Draws.{parity, drawer-is, half_is}
use Rattle.exchange.proofs.Letters.{on_net_lem, has-among, Proper, proper_read, proper_message}
use Rattle.exchange.proofs.Modelled.{unchanged, answer-of, run_none, run-one, send-model, took-model, read_model}
use Rattle.exchange.proofs.Invariant.{Agrees, Inv, Moves, moves_nothing, moved, own_known, read_moved}
use Rattle.exchange.proofs.Moving.{take_counted, moves_send, took_moves}

-- the world's own table agrees with it
pub agrees-self : (secret : List ℕ) (w : World) → Agrees secret (ground_of secret w) w
agrees-self secret w = record {
  begins = refl;
  known = λ who k h.
      ap (λ x. get_or (draws_of (party x w).box) ((2 * k + parity who) / 2) 0) (drawer-is who k)
      ∙ ap (λ i. get_or (draws_of (party who w).box) i 0) (half_is who k);
}

fresh-of : (ready : Bool) (x d : Draw) → cond ready (Some x) None ≡ Some d → d ≡ x
fresh-of true x d e = cc
fresh-of false x d e = let z : ◌≡◌ {A = ℕ} 0 1 = cc in absurd (omega arith)

-- a step on bytes, beside the model's
pub record Stepped (o : Outside) (secret : List ℕ) (w : World) (e : Event) : Type 0 where
  pub agrees : model_world (step o e w) ≡ model.run (model_event o w e) (model_world w)
  pub inv : Inv o secret (step o e w)

module _ (o : Outside) (k : Lawful o) (secret : List ℕ) (w : World) (v : Inv o secret w) (who : Who) where
  abbrev p : Party
  p = party who w

  abbrev s : State
  s = p.held.state

  -- ### A message that the other side sent

  module _ (l : Letter) (came : Has (party (model.other who) w).left l) (ready : Bool) where
    abbrev fresh : Option Draw
    fresh = fresh_of who ready w

    abbrev answer : Taken
    answer = take_answer o w who l.bytes ready

    module _ (g : Ground) (a : Agrees secret g w) where
      was_proper : Proper o g l
      was_proper = (v.bytes g a (model.other who)).proper l ((v.own (model.other who)).left l came)

      -- the box answers with any key that it draws: the other side's half is a draw of the other side
      half_taken : (d : Draw) → fresh ≡ Some d → l.message.mark.link ≡ s.drawn → (j : List ℕ) × (o.joint d (half_for o g l.message) ≡ Some j)
      half_taken d e n =
          let m : ℕ = p.box.made in
          let i : ℕ = g.draws (suc l.message.mark.link) in
          let mine = drawer-is who (length p.box.past) in
          let theirs : drawer (suc l.message.mark.link) ≡ model.other who =
          ap (λ x. drawer (suc x)) (n ∙ (v.own who).count) ∙ (drawer-next (2 * length p.box.past + parity who) ∙ ap model.other mine) in
          let t = meets o k who m i in
          (t.secret, (λ x. o.joint (fresh-of ready (draw_by who m) d e x) (o.half (record { who = theirs x; nth = i }))) ∙ t.ours)

      pub arrived : Opens o g s fresh l.text answer (take true s l.message)
      arrived =
          let own = own_known o secret w v g a who in
          let held = (v.bytes g a who).held in
          let read = proper_read o k g l was_proper in
          let same : answer ≡ take_message o (draw_of g s.drawn) fresh (hold o g s) (parts_for o g l.message l.text) = λ x. take_read o (own x) fresh (held x) (read x) in
          let P : Taken → Type 0 = λ x. Opens o g s fresh l.text x (take true s l.message) in
          subst P (sym same) (genuine_opens o k g s fresh l.message l.text half_taken)

    abbrev ground : Ground
    ground = ground_of secret w

    here : Opens o ground s fresh l.text answer (take true s l.message)
    here = arrived ground (agrees-self secret w)

    is_message_lem : (parts_of l.bytes).message ≡ l.message
    is_message_lem = proper_message o k ground l (was_proper ground (agrees-self secret w))

    pub model_answer : model.take_answer (model_world w) who l.message true ≡ take true s l.message
    model_answer = answer-of who w l.message true ∙ ap (λ b. take b s l.message) (has-among (party (model.other who) w).left l came)

    arrived_moves : (n : ℕ) → Moves o secret w who (after_take answer l.bytes n p)
    arrived_moves n =
        took_moves o secret w v who fresh (λ d e. fresh-of ready (draw_by who p.box.made) d e) (parts_of l.bytes).message l.text l.bytes
        (let P : Message → Type 0 = λ m. Has (party (model.other who) w).left (record { message = m; text = l.text; bytes = l.bytes }) in subst P (sym is_message_lem) came)
        ground n answer (take true s l.message) here arrived (take_counted true s l.message (v.own who).counted)

    arrived_beside : Beside (Some l.text) answer (model.take_answer (model_world w) who (parts_of l.bytes).message true)
    arrived_beside =
        let P : Answer → Type 0 = Beside (Some l.text) answer in
        subst P (sym (ap (λ m. model.take_answer (model_world w) who m true) is_message_lem ∙ model_answer)) (opens-beside o ground s fresh l.text answer _ here)

  -- ### Any bytes

  module _ (bytes : List ℕ) (ready : Bool) where
    abbrev given : Taken
    given = take_answer o w who bytes ready

    -- the model's event is a take of the message that was read
    come_model : (n : ℕ) (whole : Bool) (q : Parts) (x : Option (List ℕ)) → read_message bytes ≡ Some q → on_net bytes (party (model.other who) w).left ≡ whole →
        Beside x given (model.take_answer (model_world w) who (parts_of bytes).message whole) →
        model_world (step o (comes who bytes ready n) w) ≡ model.run (model_event o w (comes who bytes ready n)) (model_world w)
    come_model n whole q x r net f =
        let is = ap (λ (x : Parts). x.message) (read_well bytes q r).1 in
        took-model who bytes whole n w x given f
        ∙ (sym (run-one _ (model_world w))
        ∙ sym ((λ i. model.run (take_event who (r i) (net i) (effects_of given n)) (model_world w)) ∙ ap (λ m. model.run (model.takes who m whole (effects_of given n) ∷ []) (model_world w)) is))

    -- nothing is changed by a refusal
    out : (n i : ℕ) → given ≡ kept_out i → Moves o secret w who (after_take given bytes n p)
    out n i f = let P : Taken → Type 0 = λ a. Moves o secret w who (after_take a bytes n p) in subst P (sym f) (moves_nothing o secret w v who)

    sent : (n : ℕ) (l : Letter) → Has (party (model.other who) w).left l → l.bytes ≡ bytes → on_net bytes (party (model.other who) w).left ≡ true → Stepped o secret w (comes who bytes ready n)
    sent n l came e net = record {
      agrees = come_model n true _ (Some l.text) (ap read_message (sym e) ∙ proper_read o k (ground_of secret w) l (was_proper l came ready (ground_of secret w) (agrees-self secret w))) net
          (let P : List ℕ → Type 0 = λ x. Beside (Some l.text) (take_answer o w who x ready) (model.take_answer (model_world w) who (parts_of x).message true) in subst P e (arrived_beside l came ready));
      inv = moved o secret w v who (after_take given bytes n p)
          (let P : List ℕ → Type 0 = λ x. Moves o secret w who (after_take (take_answer o w who x ready) x n p) in subst P e (arrived_moves l came ready n));
    }

    -- bytes that the other side never sent
    module _ (unforged : OpensIfSent o w who bytes) (net : on_net bytes (party (model.other who) w).left ≡ false) where
      no_text : (q : Parts) → read_message bytes ≡ Some q → take false s q.message ≡ refused 5 → text_of o (own_of who w) p.held q ≡ None
      no_text q e five = go (text_of o (own_of who w) p.held q) refl
        where
          go : (t : Option (List ℕ)) → text_of o (own_of who w) p.held q ≡ t → text_of o (own_of who w) p.held q ≡ None
          go None h = h
          go (Some t) h = absurd (false≢true (sym net ∙ unforged q t e five h))

      pub stranger : Stranger (model_world w) who (read_message bytes) given
      stranger = go (read_message bytes) refl
        where
          go : (x : Option Parts) → read_message bytes ≡ x → Stranger (model_world w) who x (take_read o (own_of who w) (fresh_of who ready w) p.held x)
          go None e = no_message
          go (Some q) e =
              let r = shut_out o (own_of who w) (fresh_of who ready w) p.held q (no_text q e) in
              let P : Taken → Type 0 = λ x. Stranger (model_world w) who (Some q) x in
              subst P (sym r.1) (stays_out (answer-of who w q.message false ∙ r.2))

      stranger_stepped : (n : ℕ) (x : Option Parts) (a : Taken) → Stranger (model_world w) who x a → read_message bytes ≡ x → given ≡ a → Stepped o secret w (comes who bytes ready n)
      stranger_stepped n _ _ no_message e f = record {
        agrees =
            ap model_world (ap (λ a. with_party who (after_take a bytes n p) w) f ∙ unchanged who w)
            ∙ (sym (run_none (model_world w)) ∙ sym (ap (λ x. model.run (take_event who x (on_net bytes (party (model.other who) w).left) (effects_of given n)) (model_world w)) e));
        inv = moved o secret w v who (after_take given bytes n p) (out n 1 f);
      }
      stranger_stepped n _ _ (stays_out {p = q} {n = i} h) e f = record {
        agrees = come_model n false q None e net (
            let P : Taken → Answer → Type 0 = Beside None in
            subst (λ y. P given y) (sym (ap (λ m. model.take_answer (model_world w) who m false) (sym (ap (λ (x : Parts). x.message) (read_well bytes q e).1)) ∙ h)) (subst (λ x. P x (refused i)) (sym f) beside.stays_out));
        inv = moved o secret w v who (after_take given bytes n p) (out n i f);
      }

    -- ### Either

    pub come_stepped : (n : ℕ) → OpensIfSent o w who bytes → Stepped o secret w (comes who bytes ready n)
    come_stepped n unforged = go (on_net bytes (party (model.other who) w).left) refl
      where
        go : (b : Bool) → on_net bytes (party (model.other who) w).left ≡ b → Stepped o secret w (comes who bytes ready n)
        go false e = stranger_stepped unforged e n (read_message bytes) given (stranger unforged e) refl refl
        go true e = let r = on_net_lem bytes (party (model.other who) w).left e in sent n r.0 r.1 r.2 e

pub stepped : (o : Outside) → Lawful o → (secret : List ℕ) (w : World) → Inv o secret w → (e : Event) → Unforged o w e → Stepped o secret w e
stepped o k secret w v (sends who text n) u = record {
  agrees = send-model o who text n w ∙ sym (run-one _ (model_world w));
  inv = moved o secret w v who (after_send o text n (party who w)) (moves_send o secret w v who text n);
}
stepped o k secret w v (comes who bytes ready n) u = come_stepped o k secret w v who bytes ready n u
stepped o k secret w v (reads who) u = record { agrees = read_model o who w ∙ sym (run-one _ (model_world w)); inv = read_moved o secret w v who }
