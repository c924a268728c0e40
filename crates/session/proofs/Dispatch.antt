-- Which step a message takes; a step that needs no key of the box is what the call comes to; and the same with its text at another place.
use Rattle.std.proofs.Common.{◌≡◌, ℕ, Bool, true, false, List, take, None, Option, sym, refl, ap, ◌∙◌}
use Rattle.seal.specs.declared.keys.MessageKey.{MessageKey}
use Rattle.ratchet.specs.Numbers.{number}
use Rattle.keybox.specs.Box.{Keys, Scheme}
use Rattle.exchange.specs.Outside.{Draw, Outside}
use Rattle.keybox.specs.declared.errors.KeyError.TheVariants as why
use Rattle.exchange.specs.Exchanges as exchange
use Rattle.exchange.specs.Wire.{Parts}
use Rattle.exchange.specs.Held.{Held}
use Rattle.ratchet.specs.declared.types.Refusal.TheVariants.{Unknown}
use Rattle.ratchet.specs.State.{state_of, has}
use Rattle.ratchet.specs.Steps as book
use Rattle.std.proofs.lemmas.Bool.{cond-true, cond-false}
use Rattle.session.specs.declared.sessions.Session.{Session}
use Rattle.session.specs.declared.answers.Taken.{Taken}
use Rattle.session.specs.declared.answers.Taken.TheVariants.{Opened, Refused, NoKey}
use Rattle.session.specs.declared.incoming.Incoming.{Incoming}
use Rattle.session.specs.Ours.{AnyBox, ours, draw_of}
use Rattle.session.specs.Views.{held_of}
use Rattle.session.specs.Takes.{parts_of, Opens, Stays, Stepped}
use Rattle.session.specs.Renews.{stayed, drew, Taking, Answers, Leaves, Fronts}

-- the tests in their order
module _ (o : Outside) (own : Draw) (h : Held) (p : Parts) (fresh : Option Draw) where
  pub by_turn : book.in_turn h.state p.message ≡ true → exchange.take_message o own fresh h p ≡ exchange.take_in_turn o h p
  by_turn turn = cond-true (book.in_turn h.state p.message) _ _ turn

  pub by_slot : book.in_turn h.state p.message ≡ false → has p.message.mark h.state.skipped ≡ true → exchange.take_message o own fresh h p ≡ exchange.take_recalled o h p
  by_slot turn aside = cond-false (book.in_turn h.state p.message) _ _ turn ∙ cond-true (has p.message.mark h.state.skipped) _ _ aside

  pub by_link : book.in_turn h.state p.message ≡ false → has p.message.mark h.state.skipped ≡ false → book.is_new h.state p.message ≡ true →
      exchange.take_message o own fresh h p ≡ exchange.take_new o own fresh h p
  by_link turn aside new =
      cond-false (book.in_turn h.state p.message) _ _ turn
      ∙ (cond-false (has p.message.mark h.state.skipped) _ _ aside ∙ cond-true (book.is_new h.state p.message) _ _ new)

module _ {B : Type 0} (keys : B → Keys) (s : Session) (before after : List MessageKey) where
  -- the same answer, by an equation
  opens_as : (a b : exchange.Taken) (own : Bool) (t : Session) (text : List ℕ) (size : ℕ) → b ≡ a → Opens a own s t before after text size → Opens b own s t before after text size
  opens_as a b own t text size e o = record { step = e ∙ o.step; short = o.short; wiped = o.wiped }

  stays_as : (a b is : exchange.Taken) (t : Session) → b ≡ a → Stays a is s t before after → Stays b is s t before after
  stays_as a b is t e o = record { step = e ∙ o.step; session = o.session; slots = o.slots }

  pub stepped : (a : exchange.Taken) (answer : Option Draw → exchange.Taken) → ((fresh : Option Draw) → answer fresh ≡ a) → (text : List ℕ) (box : B) (r : Taken) →
      Stepped a false s before after text r → Taking keys answer s before after text box box r
  stepped a answer e text box (Opened t size) h = stayed refl (λ fresh. opens_as a (answer fresh) false t text size (e fresh) h)
  stepped a answer e text box (Refused t why) h = (refl, λ fresh. stays_as a (answer fresh) (exchange.kept_out (number why)) t (e fresh) h)
  stepped a answer e text box (NoKey t) h = ((why.NoKey, refl), stays_as a (answer None) exchange.no_key t (e None) h)

  pub step_leaves : (a : exchange.Taken) (text : List ℕ) (box : B) (r : Taken) → Stepped a false s before after text r → Leaves keys s before after box box r
  step_leaves a text box (Opened t size) h = h.short
  step_leaves a text box (Refused t why) h = (h.session, h.slots, refl)
  step_leaves a text box (NoKey t) h = (h.session, h.slots, (why.NoKey, refl))

  -- the call's answers are those of the step
  pub taken_as : (a b : Option Draw → exchange.Taken) → ((fresh : Option Draw) → b fresh ≡ a fresh) → (text : List ℕ) (box box' : B) (r : Taken) →
      Taking keys a s before after text box box' r → Taking keys b s before after text box box' r
  taken_as a b e text box box' (Opened t size) (stayed i h) = stayed i (λ fresh. opens_as (a fresh) (b fresh) false t text size (e fresh) (h fresh))
  taken_as a b e text box box' (Opened t size) (drew key d h) = drew key d (opens_as _ _ true t text size (e _) h)
  taken_as a b e text box box' (Refused t why) h = (h.0, λ fresh. stays_as (a fresh) (b fresh) (exchange.kept_out (number why)) t (e fresh) (h.1 fresh))
  taken_as a b e text box box' (NoKey t) h = (h.0, stays_as (a None) (b None) exchange.no_key t (e None) h.1)

  moved : (a : exchange.Taken) (own : Bool) (t : Session) (text out : List ℕ) (size : ℕ) → take size out ≡ take size text → Opens a own s t before after text size → Opens a own s t before after out size
  moved a own t text out size e o = record { step = o.step ∙ ap (λ (x : List ℕ). exchange.opened (held_of t after) x own) (sym e); short = o.short; wiped = o.wiped }

  -- the same with the text at the front of an output
  pub handed : (answer : Option Draw → exchange.Taken) (text out : List ℕ) (box box' : B) (r : Taken) → Fronts text out r →
      Taking keys answer s before after text box box' r → Taking keys answer s before after out box box' r
  handed answer text out box box' (Opened t size) e (stayed i h) = stayed i (λ fresh. moved (answer fresh) false t text out size e (h fresh))
  handed answer text out box box' (Opened t size) e (drew key d h) = drew key d (moved _ true t text out size e h)
  handed answer text out box box' (Refused t why) e h = h
  handed answer text out box box' (NoKey t) e h = h

-- a message that was read, by the test that it passes
module _ {B : Type 0} (keys : B → Keys) (scheme : Scheme) (s : Session) (m : Incoming) (before after : List MessageKey) (text : List ℕ) (box : B) (r : Taken) where
  abbrev Message : B → Type 0
  Message box' = Leaves keys s before after box box' r × Answers keys scheme (λ o key fresh h. exchange.take_message o key fresh h (parts_of m)) s before after text box box' r

  pub taken_in_turn : book.in_turn (state_of s.side) m.header.message ≡ true →
      AnyBox (λ o. Stepped (exchange.take_in_turn o (held_of s before) (parts_of m)) false s before after text r) → Message box
  taken_in_turn turn step = (
    step_leaves keys s before after _ text box r (step scheme),
    λ k e. stepped keys s before after _ _ (λ fresh. by_turn (ours scheme) (draw_of k) (held_of s before) (parts_of m) fresh turn) text box r (step scheme),
  )

  pub taken_recalled : book.in_turn (state_of s.side) m.header.message ≡ false → has m.header.message.mark (state_of s.side).skipped ≡ true →
      AnyBox (λ o. Stepped (exchange.take_recalled o (held_of s before) (parts_of m)) false s before after text r) → Message box
  taken_recalled turn aside step = (
    step_leaves keys s before after _ text box r (step scheme),
    λ k e. stepped keys s before after _ _ (λ fresh. by_slot (ours scheme) (draw_of k) (held_of s before) (parts_of m) fresh turn aside) text box r (step scheme),
  )

  pub taken_new : (box' : B) → book.in_turn (state_of s.side) m.header.message ≡ false → has m.header.message.mark (state_of s.side).skipped ≡ false →
      book.is_new (state_of s.side) m.header.message ≡ true → Leaves keys s before after box box' r →
      Answers keys scheme (λ o key fresh h. exchange.take_new o key fresh h (parts_of m)) s before after text box box' r → Message box'
  taken_new box' turn aside new leaves step = (
    leaves,
    λ k e. taken_as keys s before after _ _ (λ fresh. by_link (ours scheme) (draw_of k) (held_of s before) (parts_of m) fresh turn aside new) text box box' r (step k e),
  )

-- a message that has no place
module _ {B : Type 0} (keys : B → Keys) (scheme : Scheme) (s : Session) (m : Incoming) (slots : List MessageKey) (text : List ℕ) (box : B) where
  pub taken_nowhere : book.in_turn (state_of s.side) m.header.message ≡ false → has m.header.message.mark (state_of s.side).skipped ≡ false →
      book.is_new (state_of s.side) m.header.message ≡ false → Message keys scheme s m slots slots text box (Refused s Unknown) box
  taken_nowhere turn aside new = (
    (refl, refl, refl),
    λ k e. (
      refl,
      λ fresh. record {
        step = cond-false (book.in_turn (state_of s.side) m.header.message) _ _ turn ∙ (cond-false (has m.header.message.mark (state_of s.side).skipped) _ _ aside ∙ cond-false (book.is_new (state_of s.side) m.header.message) _ _ new);
        session = refl;
        slots = refl;
      },
    ),
  )
