-- A message whose key was put aside, by whether its text opens and what the bookkeeping answers.
use Rattle.std.proofs.Common.{◌≡◌, ℕ, ◌-◌, ◌<◌, ◌≤◌, true, false, List, [], ◌∷◌, ◌++◌, map, length, get_or, take, drop, replicate, is_some, Some, None, Option, sym, refl, ap, ◌∙◌, arith}
use borrow.Rule.Slice.PartMut.{put_mid}
use Rattle.std.specs.List.{remove, position}
use Rattle.std.proofs.lemmas.List.{length-take-le, length-map}
use Rattle.std.proofs.lemmas.Bool.{cond-true, cond-false}
use Rattle.seal.specs.declared.keys.MessageKey.{MessageKey}
use Rattle.ratchet.specs.declared.sides.Side.{Side}
use Rattle.ratchet.specs.Same.{same_mark}
use Rattle.ratchet.specs.State.{State, state_of, has}
use Rattle.ratchet.specs.Steps as book
use Rattle.ratchet.proofs.TakenOut.{length_removed, shrunk_front, shrunk_rest}
use Rattle.exchange.specs.Outside.{Outside}
use Rattle.exchange.specs.Wire.{Parts}
use Rattle.exchange.specs.Held.{Held, blank}
use Rattle.exchange.specs.Exchanges as exchange
use Rattle.session.specs.declared.incoming.Incoming.{Incoming}
use Rattle.session.specs.declared.sessions.Session.{Session}
use Rattle.session.specs.Ours.{AnyBox, ours}
use Rattle.session.specs.Views.{held_of, key_in}
use Rattle.session.specs.Takes.{parts_of, Opens, Stays}
use Rattle.session.proofs.Aside.{Found, found, map-removed, key-slot}
use Rattle.session.proofs.InTurn.{only_kept}

module _ (o : Outside) (h : Held) (p : Parts) where
  answered : Option (List ℕ) → exchange.Taken
  answered x = exchange.take_as (book.take_recalled (is_some x) h.state p.message) x (exchange.held_recalled h p)

  opened : (text : List ℕ) (a : book.Answer) → exchange.text_recalled o h p ≡ Some text → a ≡ book.take_recalled true h.state p.message →
      exchange.take_recalled o h p ≡ exchange.take_as a (Some text) (exchange.held_recalled h p)
  unfolding answered
  opened text a e f = ap answered e ∙ ap (λ (x : book.Answer). exchange.take_as x (Some text) (exchange.held_recalled h p)) (sym f)

  shut : exchange.text_recalled o h p ≡ None → exchange.take_recalled o h p ≡ exchange.kept_out 5
  unfolding answered
  shut e = ap answered e

module _ (s : Session) (slots : List MessageKey) (m : Incoming) (i : ℕ) (size : length slots ≡ 512) (marked : length s.side.marks ≡ 512)
    (turn : book.in_turn (state_of s.side) m.header.message ≡ false) (at : position (λ x. same_mark x m.header.message.mark) (take s.side.count s.side.marks) ≡ Some i) where
  f : Found m.header.message.mark (take s.side.count s.side.marks) i
  f = found m.header.message.mark (take s.side.count s.side.marks) i at

  as_many : length (map key_in (take s.side.count slots)) ≡ length (take s.side.count s.side.marks)
  as_many =
      let few = s.side.few in
      length-map (take s.side.count slots) key_in ∙ (length-take-le s.side.count slots (omega arith) ∙ sym (length-take-le s.side.count s.side.marks (omega arith)))

  pub in_use : i < s.side.count
  in_use = let few = s.side.few in omega (arith, f.within, length-take-le s.side.count s.side.marks (omega arith))

  text_is : (o : Outside) (d : MessageKey) (text : Option (List ℕ)) → exchange.text_under o (get_or slots i d).0 (parts_of m) ≡ text → exchange.text_recalled o (held_of s slots) (parts_of m) ≡ text
  text_is o d text is =
      let few = s.side.few in
      ap (λ (k : List ℕ). exchange.text_under o k (parts_of m)) (f.key (map key_in (take s.side.count slots)) as_many ∙ sym (key-slot slots s.side.count i d in_use (omega arith))) ∙ is

  -- the bookkeeping's answer is that of a key that was put aside
  book_is : book.take true (state_of s.side) m.header.message ≡ book.take_recalled true (state_of s.side) m.header.message
  book_is = cond-false (book.in_turn (state_of s.side) m.header.message) _ _ turn ∙ cond-true (has m.header.message.mark (take s.side.count s.side.marks)) _ _ f.there

  pub recalled_shut : (d : MessageKey) → AnyBox (λ o. exchange.text_under o (get_or slots i d).0 (parts_of m) ≡ None) →
      AnyBox (λ o. Stays (exchange.take_recalled o (held_of s slots) (parts_of m)) (exchange.kept_out 5) s s slots slots)
  recalled_shut d none = λ scheme. record { step = shut (ours scheme) (held_of s slots) (parts_of m) (text_is (ours scheme) d None (none scheme)); session = refl; slots = refl }

  pub recalled_refused : (d : MessageKey) (text : List ℕ) (n : ℕ) → AnyBox (λ o. exchange.text_under o (get_or slots i d).0 (parts_of m) ≡ Some text) →
      book.refused n ≡ book.take true (state_of s.side) m.header.message →
      AnyBox (λ o. Stays (exchange.take_recalled o (held_of s slots) (parts_of m)) (exchange.kept_out n) s s slots slots)
  recalled_refused d text n some answer = λ scheme. record {
    step = opened (ours scheme) (held_of s slots) (parts_of m) text (book.refused n) (text_is (ours scheme) d (Some text) (some scheme)) (answer ∙ book_is);
    session = refl;
    slots = refl;
  }

  module _ (side : Side) (marked' : length side.marks ≡ 512) (answer : book.kept (state_of side) ≡ book.take true (state_of s.side) m.header.message)
      (keys : List MessageKey) (out : keys ≡ remove (take (s.side.count - 0) slots) i ++ record { 0 = blank } ∷ []) where
    abbrev t : Session
    t = record { side = side; root = s.root; sending = s.sending; taking = s.taking; half = s.half }

    abbrev after : List MessageKey
    after = put_mid 0 (s.side.count - 0) slots keys

    state : state_of side ≡ book.recalled (state_of s.side) m.header.message
    state = only_kept true true true (state_of side) (book.recalled (state_of s.side) m.header.message) (answer ∙ book_is)

    count : side.count ≡ s.side.count - 1
    count =
        let few = s.side.few in
        let few' = side.few in
        let is : take side.count side.marks ≡ remove (take s.side.count s.side.marks) i = ap (λ (x : State). x.skipped) state ∙ f.marks in
        omega (arith, ap length is, length_removed (take s.side.count s.side.marks) i f.within, length-take-le s.side.count s.side.marks (omega arith), length-take-le side.count side.marks (omega arith))

    front : take side.count after ≡ remove (take s.side.count slots) i
    front = let few = s.side.few in ap (λ (n : ℕ). take n after) count ∙ shrunk_front slots keys s.side.count i (record { 0 = blank }) in_use (omega arith) out

    held : exchange.held_recalled (held_of s slots) (parts_of m) ≡ held_of t after
    held =
        let those = f.keys (map key_in (take s.side.count slots)) as_many in
        let p = map-removed key_in (take s.side.count slots) i in
        let n = ap (λ (l : List MessageKey). map key_in l) front in
        let e = state in
        cc

    pub recalled_opens : (d : MessageKey) (text : List ℕ) (n : ℕ) → n ≤ 1000 → AnyBox (λ o. exchange.text_under o (get_or slots i d).0 (parts_of m) ≡ Some (take n text)) →
        AnyBox (λ o. Opens (exchange.take_recalled o (held_of s slots) (parts_of m)) false s t slots after text n)
    recalled_opens d text n short some = λ scheme. record {
      step =
          opened (ours scheme) (held_of s slots) (parts_of m) (take n text) (book.kept (state_of side)) (text_is (ours scheme) d (Some (take n text)) (some scheme)) (answer ∙ book_is)
          ∙ ap (λ (h : Held). exchange.opened h (take n text) false) held;
      short = short;
      wiped = λ w.
          let few = s.side.few in
          let at = in_use in
          let c = count in
          let fewer : 512 - (s.side.count - 1) ≡ 512 - side.count = omega arith in
          ap (λ (j : ℕ). drop j after) count
          ∙ (shrunk_rest slots keys s.side.count i (record { 0 = blank }) in_use (omega arith) out 512 few w ∙ ap (λ (j : ℕ). replicate j (record { 0 = blank })) fewer);
    }
