-- From the steps of a side to every run: each side is valid all along.
use Rattle.std.proofs.Common.{◌≡◌, ℕ, zero, suc, ◌+◌, ◌^◌, ◌<◌, Bool, true, false, eqb, List, [], ◌∷◌, length, is_some, Some, None, Option, refl, subst, arith}
use Rattle.std.specs.List.{AllByRecursion as All}
use Rattle.std.proofs.lemmas.Bool.{and_parts, cond_both, eqb-true, leb-true, ltb-true}
use Rattle.ratchet.specs.declared.types.Message.{Message}
use Rattle.ratchet.specs.State.{State, begun, has}
use Rattle.ratchet.specs.Steps as book
use Rattle.runs.specs.declared.types.Who.{Who}
use Rattle.runs.specs.declared.types.Who.TheVariants.{First, Second}
use Rattle.exchange.specs.Outside.{Draw, Outside, Lawful}
use Rattle.exchange.specs.Wire.{Parts, read_message}
use Rattle.exchange.specs.Held.{Held, blank, root_part, chain_part}
use Rattle.exchange.specs.Exchanges.{and_then, begin_first, Sent, sent, refused, sent_on, send_as, send_text, message_bytes, Taken, opened, kept_out, no_key, take_as, renew_as, text_in_turn, held_in_turn, text_recalled, held_recalled, text_new, held_new, renewed, take_message, take_read, take_bytes}
use Rattle.exchange.specs.Network.{Box, Party, World, Event, sends, comes, reads, draw_by, party, first_held, start, performed, send_effects, take_effects, asked, own_of, fresh_of, step, run}
use Rattle.exchange.proofs.Wires.{wire_laws}
use Rattle.exchange.proofs.Modelled.{Sends, nothing, goes, send-so}
use Rattle.page.specs.Valid.{Valid}
use Rattle.page.specs.Kept.{IsBytes, ComesAsBytes, held_after, Keeps, StepsKeepValid}
use Rattle.page.proofs.Keeping.{root_sized, chain_sized, sent_valid, in_turn_valid, recalled_valid, new_valid}
use Rattle.page.proofs.Readings.{page-laws}

-- what an answer leads to, if it leads to a side, is valid
abbrev SentValid : Who → Sent → Type 0
SentValid who (sent h bytes) = Valid who h
SentValid who (refused n) = Unit {0}

abbrev TakenValid : Who → Taken → Type 0
TakenValid who (opened h text drew) = Valid who h
TakenValid who (kept_out n) = Unit {0}
TakenValid who no_key = Unit {0}

-- ### Beginning

-- a side that has drawn key 0 or key 1, and has sent and taken nothing
begun_first : (root sending half : List ℕ) → length root ≡ 32 → length sending ≡ 32 → length half ≡ 32 →
    Valid First (record { state = begun 1; root = root; sending = sending; taking = blank; half = half; keys = [] })
begun_first root sending half r s h = record {
  counted = record { drawn = omega arith; sent = omega arith; taken = omega arith; before = omega arith; places = tt };
  sized = record { root = r; sending = s; taking = refl; half = h; keys = tt };
  in_step = refl;
  few = omega arith;
  sound = record {
    parity = refl;
    begun = record {
      unsent = λ e. absurd (omega arith);
      untaken = λ e. record { taken = refl; before = refl; chain = refl; none = refl };
      answered = λ e. absurd (omega arith);
      first = λ e. refl;
    };
    rising = tt;
    aside = tt;
  };
}

begun-second : (root half : List ℕ) → length root ≡ 32 → length half ≡ 32 →
    Valid Second (record { state = begun 0; root = root; sending = blank; taking = blank; half = half; keys = [] })
begun-second root half r h = record {
  counted = record { drawn = omega arith; sent = omega arith; taken = omega arith; before = omega arith; places = tt };
  sized = record { root = r; sending = refl; taking = refl; half = h; keys = tt };
  in_step = refl;
  few = omega arith;
  sound = record {
    parity = refl;
    begun = record {
      unsent = λ e. record { sent = refl; chain = refl };
      untaken = λ e. record { taken = refl; before = refl; chain = refl; none = refl };
      answered = λ e. absurd (omega arith);
      first = λ e. refl;
    };
    rising = tt;
    aside = tt;
  };
}

abbrev FirstValid : Option Held → Type 0
FirstValid None = Unit {0}
FirstValid (Some h) = Valid First h

module _ (o : Outside) (law : Lawful o) where
  first_valid : (own : Draw) (half secret : List ℕ) → FirstValid (begin_first o own half secret)
  first_valid own half secret = go (o.joint own half)
    where
      go : (j : Option (List ℕ)) → FirstValid (and_then j (λ k. Some (record {
        state = begun 1;
        root = root_part (o.link_bytes secret k);
        sending = chain_part (o.link_bytes secret k);
        taking = blank;
        half = o.half own;
        keys = [];
      })))
      go None = tt
      go (Some j) = begun_first _ _ _ (root_sized o law secret j) (chain_sized o law secret j) (law.half_length own)

  -- ### Steps

  send_valid : (who : Who) (h : Held) (text : List ℕ) → Valid who h → SentValid who (send_text o h text)
  send_valid who h text v = go (book.send (length text) h.state) (send-so (length text) h.state)
    where
      go : (a : book.Answer) → Sends (length text) h.state a → SentValid who (send_as a (sent_on o h) (message_bytes o h text))
      go _ nothing = tt
      go _ (goes short some next) = sent_valid o law who h v some next

  take_as_lem : (who : Who) (within countable : Bool) (x : Option (List ℕ)) (s : State) (h : Held) → (within ≡ true → countable ≡ true → Valid who h) →
      TakenValid who (take_as (book.checked within (is_some x) countable s) x h)
  take_as_lem who true true (Some t) s h f = f refl refl
  take_as_lem who true false (Some t) s h f = tt
  take_as_lem who true true None s h f = tt
  take_as_lem who true false None s h f = tt
  take_as_lem who false c (Some t) s h f = tt
  take_as_lem who false c None s h f = tt

  renew_as_lem : (who : Who) (within countable : Bool) (x : Option (List ℕ)) (s : State) (y : Option Held) → (within ≡ true → countable ≡ true → (h : Held) → y ≡ Some h → Valid who h) →
      TakenValid who (renew_as (book.checked within (is_some x) countable s) x y)
  renew_as_lem who true true (Some t) s (Some h) f = f refl refl h refl
  renew_as_lem who true true (Some t) s None f = tt
  renew_as_lem who true false (Some t) s y f = tt
  renew_as_lem who true true None s y f = tt
  renew_as_lem who true false None s y f = tt
  renew_as_lem who false c (Some t) s y f = tt
  renew_as_lem who false c None s y f = tt

  -- where a key is drawn, the side is the one that turned with it
  renewed_so : (own : Draw) (h : Held) (p : Parts) (P : Held → Type 0) → ((d : Draw) (j k : List ℕ) → P (held_new o d h p j k)) →
      (fresh : Option Draw) (j : Option (List ℕ)) (e : Draw → Option (List ℕ)) (t : Held) →
      and_then fresh (λ d. and_then j (λ x. and_then (e d) (λ k. Some (held_new o d h p x k)))) ≡ Some t → P t
  renewed_so own h p P f None j e t q = absurd (let z : ◌≡◌ {A = ℕ} 0 1 = cc in omega arith)
  renewed_so own h p P f (Some d) None e t q = absurd (let z : ◌≡◌ {A = ℕ} 0 1 = cc in omega arith)
  renewed_so own h p P f (Some d) (Some j) e t q = go (e d) q
    where
      go : (k : Option (List ℕ)) → and_then k (λ x. Some (held_new o d h p j x)) ≡ Some t → P t
      go None r = absurd (let z : ◌≡◌ {A = ℕ} 0 1 = cc in omega arith)
      go (Some k) r = let same : held_new o d h p j k ≡ t = cc in subst P same (f d j k)

  module _ (who : Who) (own : Draw) (fresh : Option Draw) (h : Held) (v : Valid who h) where
    message_valid : (p : Parts) → p.message.before < 2 ^ 32 → TakenValid who (take_message o own fresh h p)
    message_valid p fits =
        let s : State = h.state in
        let m : Message = p.message in
        cond_both (book.in_turn s m) _ _ (TakenValid who)
        (λ turn. (
        let on = and_parts (eqb (m.mark.link + 2) s.drawn) _ turn in
        take_as_lem who _ _ (text_in_turn o h p) _ (held_in_turn o h p) (λ within countable.
        let room = and_parts (book.short (book.passed s m)) _ within in
        in_turn_valid o law who h v p (eqb-true (m.mark.link + 2) s.drawn on.0) (leb-true s.taken m.mark.place on.1)
        (leb-true (length s.skipped + book.passed s m) 512 room.1) (ltb-true (m.mark.place + 1) (2 ^ 32) countable))
        ))
        (λ _. cond_both (has m.mark s.skipped) _ _ (TakenValid who)
        (λ _. take_as_lem who true true (text_recalled o h p) _ (held_recalled h p) (λ _ _. recalled_valid o law who h v p))
        (λ _. cond_both (book.is_new s m) _ _ (TakenValid who)
        (λ new. renew_as_lem who _ _ (text_new o own h p) _ (renewed o own fresh h p) (λ within countable.
        let short = and_parts (book.short (book.left s m)) _ within in
        let room = and_parts (book.short m.mark.place) _ short.1 in
        renewed_so own h p (Valid who) (new_valid o law who h v p (eqb-true m.mark.link s.drawn new)
        (leb-true (length s.skipped + book.left s m + m.mark.place) 512 room.1) (ltb-true (s.drawn + 2) (2 ^ 32) countable) fits)
        fresh (o.joint own p.half) (λ d. o.joint d p.half)))
        (λ _. tt)))

    take_valid : (bytes : List ℕ) → IsBytes bytes → TakenValid who (take_bytes o own fresh h bytes)
    take_valid bytes fit = go (read_message bytes) refl
      where
        go : (r : Option Parts) → read_message bytes ≡ r → TakenValid who (take_read o own fresh h r)
        go None e = tt
        go (Some p) e = message_valid p (wire_laws.made bytes p fit e).writable.before

  -- ### Runs

  -- after however many effects
  sent_held : (who : Who) (n : ℕ) (a : Sent) (m : Message) (text : List ℕ) (p : Party) → Valid who p.held → SentValid who a → Valid who (performed n (send_effects a m text) p).held
  sent_held who n (refused k) m text p v w = v
  sent_held who zero (sent h bytes) m text p v w = v
  sent_held who (suc zero) (sent h bytes) m text p v w = w
  sent_held who (suc (suc zero)) (sent h bytes) m text p v w = w
  sent_held who (suc (suc (suc n))) (sent h bytes) m text p v w = w

  took_held : (who : Who) (n : ℕ) (a : Taken) (b : Box) (m : Message) (bytes : List ℕ) (p : Party) → Valid who p.held → TakenValid who a →
      Valid who (performed n (take_effects a b m bytes) (asked a p)).held
  took_held who n (kept_out k) b m bytes p v w = v
  took_held who n no_key b m bytes p v w = v
  took_held who zero (opened h text drew) b m bytes p v w = v
  took_held who (suc zero) (opened h text drew) b m bytes p v w = w
  took_held who (suc (suc n)) (opened h text drew) b m bytes p v w = w

  pub record Both (w : World) : Type 0 where
    pub first : Valid First w.first.held
    pub second : Valid Second w.second.held

  step_valid : (e : Event) (w : World) → ComesAsBytes e → Both w → Both (step o e w)
  step_valid (sends First text n) w c v =
      record { first = sent_held First n _ _ text w.first v.first (send_valid First w.first.held text v.first); second = v.second }
  step_valid (sends Second text n) w c v =
      record { first = v.first; second = sent_held Second n _ _ text w.second v.second (send_valid Second w.second.held text v.second) }
  step_valid (comes First bytes ready n) w c v = record {
    first = took_held First n _ _ _ bytes w.first v.first (take_valid First (own_of First w) (fresh_of First ready w) w.first.held v.first bytes c);
    second = v.second;
  }
  step_valid (comes Second bytes ready n) w c v = record {
    first = v.first;
    second = took_held Second n _ _ _ bytes w.second v.second (take_valid Second (own_of Second w) (fresh_of Second ready w) w.second.held v.second bytes c);
  }
  step_valid (reads who) w c v = record { first = v.first; second = v.second }

  run_valid : (es : List Event) (w : World) → All ComesAsBytes es → Both w → Both (run o es w)
  unfolding run
  run_valid [] w c v = v
  run_valid (e ∷ es) w c v = run_valid es (step o e w) c.1 (step_valid e w c.0 v)

  first_held_lem : (x : Option Held) → FirstValid x → Valid First (first_held x)
  first_held_lem None v = begun_first blank blank blank refl refl refl
  first_held_lem (Some h) v = v

  start_valid : (secret : List ℕ) → length secret ≡ 32 → Both (start o secret)
  start_valid secret long = record {
    first = first_held_lem (begin_first o (draw_by First 0) (o.half (draw_by Second 0)) secret) (first_valid (draw_by First 0) (o.half (draw_by Second 0)) secret);
    second = begun-second secret _ long (law.half_length (draw_by Second 0));
  }

  of_both : (w : World) → Both w → (who : Who) → Valid who (party who w).held
  of_both w v First = v.first
  of_both w v Second = v.second

  always : (secret : List ℕ) → length secret ≡ 32 → (es : List Event) → All ComesAsBytes es → (who : Who) → Valid who (held_after o secret es who)
  always secret long es c who = of_both (run o es (start o secret)) (run_valid es (start o secret) c (start_valid secret long)) who

  pub keeps : Keeps o
  keeps = record {
    first = λ own half secret h e. subst FirstValid e (first_valid own half secret);
    second = λ own secret long. begun-second secret (o.half own) long (law.half_length own);
    sending = λ who h after text bytes v e. subst (SentValid who) e (send_valid who h text v);
    taking = λ who own fresh h after bytes text drew fit v e. subst (TakenValid who) e (take_valid who own fresh h v bytes fit);
    always = always;
    comes_up = λ secret long es c who answer r. page-laws.back who (held_after o secret es who) answer (always secret long es c who) r;
  }

pub steps_keep_valid : StepsKeepValid
steps_keep_valid o law = keeps o law
