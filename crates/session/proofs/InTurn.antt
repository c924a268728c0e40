-- A message in turn, by whether its text opens and what the bookkeeping answers.
use Rattle.std.proofs.Common.{◌≡◌, ℕ, ◌+◌, ◌≤◌, Bool, true, false, ◌&&◌, List, ◌++◌, map, length, take, drop, is_some, Some, None, Option, sym, refl, ap, ◌∙◌, arith}
use Rattle.std.proofs.lemmas.Bool.{cond-true, le-leb, and_from}
use Rattle.std.proofs.lemmas.List.{length-take-le}
use Rattle.seal.specs.declared.keys.MessageKey.{MessageKey}
use Rattle.chain.specs.Bytes as links
use Rattle.chain.specs.declared.keys.ChainKey.{ChainKey}
use Rattle.ratchet.specs.declared.sides.Side.{Side}
use Rattle.ratchet.specs.State.{State, state_of, places}
use Rattle.ratchet.specs.Steps as book
use Rattle.ratchet.proofs.Put.{length-places}
use Rattle.exchange.specs.Outside.{Outside}
use Rattle.exchange.specs.Wire.{Parts}
use Rattle.exchange.specs.Held.{Held, blank}
use Rattle.exchange.specs.Exchanges as exchange
use Rattle.keybox.specs.Box.{Scheme}
use Rattle.session.specs.declared.incoming.Incoming.{Incoming}
use Rattle.session.specs.declared.sessions.Session.{Session}
use Rattle.session.specs.Ours.{AnyBox, ours}
use Rattle.session.specs.Views.{held_of, key_in}
use Rattle.session.specs.Takes.{parts_of, Opens, Stays}
use Rattle.session.proofs.Chains.{chain_same, chain_next}
use Rattle.session.proofs.Slots.{grown_count, still_wiped}

-- a step that is kept has nothing against it
pub only_kept : (w o f : Bool) (t u : State) → book.kept t ≡ book.checked w o f u → t ≡ u
only_kept true true true t u e = cc
only_kept true true false t u e = absurd (let z : ◌≡◌ {A = ℕ} 0 1 = cc in omega arith)
only_kept true false f t u e = absurd (let z : ◌≡◌ {A = ℕ} 0 1 = cc in omega arith)
only_kept false o f t u e = absurd (let z : ◌≡◌ {A = ℕ} 0 1 = cc in omega arith)

module _ (o : Outside) (h : Held) (p : Parts) where
  answered : Option (List ℕ) → exchange.Taken
  answered x = exchange.take_as (book.take_in_turn (is_some x) h.state p.message) x (exchange.held_in_turn o h p)

  opened : (text : List ℕ) (a : book.Answer) → exchange.text_in_turn o h p ≡ Some text → a ≡ book.take_in_turn true h.state p.message →
      exchange.take_in_turn o h p ≡ exchange.take_as a (Some text) (exchange.held_in_turn o h p)
  unfolding answered
  opened text a e f = ap answered e ∙ ap (λ (x : book.Answer). exchange.take_as x (Some text) (exchange.held_in_turn o h p)) (sym f)

  shut : exchange.text_in_turn o h p ≡ None → (n : ℕ) → length h.state.skipped ≡ n → book.passed h.state p.message ≤ 256 → n + book.passed h.state p.message ≤ 512 →
      exchange.take_in_turn o h p ≡ exchange.kept_out 5
  unfolding answered
  shut e n is a b =
      let c : length h.state.skipped + book.passed h.state p.message ≤ 512 = rw is b in
      let w = and_from (book.short (book.passed h.state p.message)) (book.room_for (length h.state.skipped + book.passed h.state p.message)) (le-leb _ _ a) (le-leb _ _ c) in
      ap answered e ∙ ap (λ (x : book.Answer). exchange.take_as x None (exchange.held_in_turn o h p)) (cond-true _ _ _ w)

module _ (s : Session) (slots : List MessageKey) (m : Incoming) (marked : length s.side.marks ≡ 512) (turn : book.in_turn (state_of s.side) m.header.message ≡ true)
    (key : List ℕ) (along : key ≡ links.key_bytes (links.chain_along (book.passed (state_of s.side) m.header.message) s.taking.0)) where
  abbrev n : ℕ
  n = book.passed (state_of s.side) m.header.message

  -- the text under the key that was worked out
  text_is : (scheme : Scheme) (text : Option (List ℕ)) → exchange.text_under (ours scheme) key (parts_of m) ≡ text → exchange.text_in_turn (ours scheme) (held_of s slots) (parts_of m) ≡ text
  text_is scheme text is =
      ap (λ (k : List ℕ). exchange.text_under (ours scheme) k (parts_of m)) (sym (along ∙ ap links.key_bytes (chain_same scheme n s.taking.0))) ∙ is

  pub in_turn_shut : n ≤ 256 → s.side.count + n ≤ 512 → AnyBox (λ o. exchange.text_under o key (parts_of m) ≡ None) →
      AnyBox (λ o. Stays (exchange.take_in_turn o (held_of s slots) (parts_of m)) (exchange.kept_out 5) s s slots slots)
  in_turn_shut few room none = λ scheme.
      let most = s.side.few in
      record {
        step = shut (ours scheme) (held_of s slots) (parts_of m) (text_is scheme None (none scheme)) s.side.count (length-take-le s.side.count s.side.marks (omega arith)) few room;
        session = refl;
        slots = refl;
      }

  pub in_turn_refused : (text : List ℕ) (why : ℕ) → AnyBox (λ o. exchange.text_under o key (parts_of m) ≡ Some text) → book.refused why ≡ book.take true (state_of s.side) m.header.message →
      AnyBox (λ o. Stays (exchange.take_in_turn o (held_of s slots) (parts_of m)) (exchange.kept_out why) s s slots slots)
  in_turn_refused text why some answer = λ scheme. record {
    step = opened (ours scheme) (held_of s slots) (parts_of m) text (book.refused why) (text_is scheme (Some text) (some scheme)) (answer ∙ cond-true _ _ _ turn);
    session = refl;
    slots = refl;
  }

  module _ (side : Side) (marked' : length side.marks ≡ 512) (answer : book.kept (state_of side) ≡ book.take true (state_of s.side) m.header.message)
      (next : ChainKey) (onward : next.0 ≡ links.next_bytes (links.chain_along n s.taking.0)) (after : List MessageKey)
      (put : AnyBox (λ o. map key_in (take (s.side.count + n) after) ≡ map key_in (take s.side.count slots) ++ exchange.keys_along o n s.taking.0))
      (rest : drop (s.side.count + n) after ≡ drop (s.side.count + n) slots) where
    abbrev t : Session
    t = record { side = side; root = s.root; sending = s.sending; taking = next; half = s.half }

    state : state_of side ≡ book.advanced (state_of s.side) m.header.message
    state = only_kept (book.short n && book.room_for (length (state_of s.side).skipped + n)) true (book.fits (m.header.message.mark.place + 1)) _ _ (answer ∙ cond-true _ _ _ turn)

    count : side.count ≡ s.side.count + n
    count =
        grown_count s.side.marks side.marks (places m.header.message.mark.link s.side.taken n) s.side.count side.count n
        marked marked' s.side.few side.few (length-places _ _ n) (ap (λ (x : State). x.skipped) state)

    held : (scheme : Scheme) → exchange.held_in_turn (ours scheme) (held_of s slots) (parts_of m) ≡ held_of t after
    held scheme =
        let e = state in
        let walked = chain_next scheme n s.taking.0 (links.chain_along n s.taking.0) next.0 refl onward in
        let keys = ap (λ (i : ℕ). map key_in (take i after)) count ∙ put scheme in
        cc

    pub in_turn_opens : (text : List ℕ) (size : ℕ) → size ≤ 1000 → AnyBox (λ o. exchange.text_under o key (parts_of m) ≡ Some (take size text)) →
        AnyBox (λ o. Opens (exchange.take_in_turn o (held_of s slots) (parts_of m)) false s t slots after text size)
    in_turn_opens text size short some = λ scheme. record {
      step =
          opened (ours scheme) (held_of s slots) (parts_of m) (take size text) (book.kept (state_of side)) (text_is scheme (Some (take size text)) (some scheme)) (answer ∙ cond-true _ _ _ turn)
          ∙ ap (λ (h : Held). exchange.opened h (take size text) false) (held scheme);
      short = short;
      wiped = still_wiped slots after s.side.count n side.count (record { 0 = blank }) 512 count rest;
    }
