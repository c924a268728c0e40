-- A message of a new link, by whether its text opens, what the bookkeeping answers, and the key that the box gives.
use Rattle.std.proofs.Common.{◌≡◌, ℕ, ◌+◌, ◌-◌, ◌≤◌, true, false, ◌&&◌, List, ◌++◌, map, length, take, drop, is_some, Some, None, Option, MatchOption, sym, refl, ap, ◌∙◌, subst, append_assoc, arith}
use Rattle.std.proofs.lemmas.List.{drop-drop, length-append}
use Rattle.std.proofs.lemmas.Option.{none-some}
use Rattle.std.proofs.lemmas.Bool.{cond-true, cond-false, le-leb, and_from}
use Rattle.seal.specs.declared.keys.MessageKey.{MessageKey}
use Rattle.chain.specs.Bytes as links
use Rattle.ratchet.specs.State.{State, state_of, has, places}
use Rattle.ratchet.specs.Steps as book
use Rattle.ratchet.proofs.Put.{length-places}
use Rattle.ratchet.specs.declared.sides.Side.{Side}
use Rattle.wire.specs.declared.header.Header.{Header}
use Rattle.keybox.specs.Box.{Keys, Scheme}
use Rattle.exchange.specs.Outside.{Draw, Outside}
use Rattle.exchange.specs.Wire.{Parts}
use Rattle.exchange.specs.Held.{Held, blank}
use Rattle.exchange.specs.Exchanges as exchange
use Rattle.session.specs.declared.incoming.Incoming.{Incoming}
use Rattle.session.specs.declared.sessions.Session.{Session}
use Rattle.session.specs.declared.begun.Begun.{Begun}
use Rattle.session.specs.declared.answers.Taken.{Taken}
use Rattle.session.specs.declared.answers.Taken.TheVariants.{Opened, Refused, NoKey}
use Rattle.session.specs.Ours.{ours, draw_of}
use Rattle.session.specs.Views.{held_of, key_in}
use Rattle.session.specs.Takes.{parts_of}
use Rattle.session.specs.Takes.{Opens}
use Rattle.session.specs.Renews.{Begins, Turns, Turning, drew, Taking, Leaves}
use Rattle.session.proofs.Chains.{chain_same, chain_next}
use Rattle.session.proofs.Draws.{number-draw}
use Rattle.session.proofs.InTurn.{only_kept}
use Rattle.session.proofs.Slots.{grown_count, still_wiped}

module _ (o : Outside) (own : Draw) (fresh : Option Draw) (h : Held) (p : Parts) where
  answered : Option (List ℕ) → exchange.Taken
  answered x = exchange.renew_as (book.take_new (is_some x) h.state p.message) x (exchange.renewed o own fresh h p)

  pub opened_new : (text : List ℕ) (a : book.Answer) → exchange.text_new o own h p ≡ Some text → a ≡ book.take_new true h.state p.message →
      exchange.take_new o own fresh h p ≡ exchange.renew_as a (Some text) (exchange.renewed o own fresh h p)
  unfolding answered
  opened_new text a e f = ap answered e ∙ ap (λ (x : book.Answer). exchange.renew_as x (Some text) (exchange.renewed o own fresh h p)) (sym f)

  pub shut_new : exchange.text_new o own h p ≡ None → (n : ℕ) → length h.state.skipped ≡ n → book.left h.state p.message ≤ 256 → p.message.mark.place ≤ 256 →
      n + book.left h.state p.message + p.message.mark.place ≤ 512 → exchange.take_new o own fresh h p ≡ exchange.kept_out 5
  unfolding answered
  shut_new e n is a b c =
      let left = book.left h.state p.message in
      let place = p.message.mark.place in
      let d : length h.state.skipped + left + place ≤ 512 = rw is c in
      let w = and_from (book.short left) (book.short place && book.room_for (length h.state.skipped + left + place)) (le-leb _ _ a)
      (and_from (book.short place) (book.room_for (length h.state.skipped + left + place)) (le-leb _ _ b) (le-leb _ _ d)) in
      ap answered e ∙ ap (λ (x : book.Answer). exchange.renew_as x None (exchange.renewed o own fresh h p)) (cond-true _ _ _ w)

-- what is said of an answer that there isn't
pub nothing : {A : Type 0} (r : Option A) (P : Type 0) (Q : A → Type 0) → r ≡ None → P → MatchOption r P Q
nothing None P Q e p = p
nothing (Some x) P Q e p = absurd (none-some x (sym e))

-- the text under the key that was worked out
module _ (scheme : Scheme) (k : ℕ) (s : Session) (slots : List MessageKey) (m : Incoming) where
  under : List ℕ → Option (List ℕ)
  under j = exchange.text_under (ours scheme) (links.key_bytes (exchange.walked (ours scheme) m.header.message.mark.place (links.chain_bytes (links.mix_bytes s.root.0 j)))) (parts_of m)

  pub joint_own : (ours scheme).joint (draw_of k) m.header.half.0 ≡ scheme.joint_of k m.header.half.0
  joint_own = ap (λ (n : ℕ). scheme.joint_of n m.header.half.0) (number-draw k)

  pub text_new_lem : (j chain at key : List ℕ) (x : Option (List ℕ)) → scheme.joint_of k m.header.half.0 ≡ Some j → chain ≡ links.chain_bytes (links.mix_bytes s.root.0 j) →
      at ≡ links.chain_along m.header.message.mark.place chain → key ≡ links.key_bytes at → exchange.text_under (ours scheme) key (parts_of m) ≡ x →
      exchange.text_new (ours scheme) (draw_of k) (held_of s slots) (parts_of m) ≡ x
  unfolding under
  text_new_lem j chain at key x e c a f is =
      let n = m.header.message.mark.place in
      let along : at ≡ exchange.walked (ours scheme) n (links.chain_bytes (links.mix_bytes s.root.0 j)) =
      a ∙ (chain_same scheme n chain ∙ ap (exchange.walked (ours scheme) n) c) in
      ap (λ (y : Option (List ℕ)). exchange.and_then y under) (joint_own ∙ e)
      ∙ (ap (λ (b : List ℕ). exchange.text_under (ours scheme) b (parts_of m)) (sym (f ∙ ap links.key_bytes along)) ∙ is)

-- keys put behind those in use, and further ones behind these
module _ (first second third : List MessageKey) (count left more : ℕ) where
  pub both_keys : (a b : List (List ℕ)) → map key_in (take (count + left) second) ≡ map key_in (take count first) ++ a →
      map key_in (take (count + left + more) third) ≡ map key_in (take (count + left) second) ++ b → map key_in (take (count + left + more) third) ≡ map key_in (take count first) ++ a ++ b
  both_keys a b e f = cc

  pub both_rest : drop (count + left) second ≡ drop (count + left) first → drop (count + left + more) third ≡ drop (count + left + more) second →
      drop (count + left + more) third ≡ drop (count + left + more) first
  both_rest e f =
      let p = drop-drop more (count + left) second in
      let q = drop-drop more (count + left) first in
      let r = ap (λ (l : List MessageKey). drop more l) e in
      cc

-- the side after it
module _ (s : Session) (side : Side) (m : Incoming) (kept : book.kept (state_of side) ≡ book.take_new true (state_of s.side) m.header.message) where
  pub state_new : state_of side ≡ book.turned (state_of s.side) m.header.message
  state_new =
      let left = book.left (state_of s.side) m.header.message in
      let place = m.header.message.mark.place in
      only_kept (book.short left && (book.short place && book.room_for (length (state_of s.side).skipped + left + place))) true (book.fits (s.side.drawn + 2)) _ _ kept

  pub count_new : length s.side.marks ≡ 512 → length side.marks ≡ 512 →
      side.count ≡ s.side.count + book.left (state_of s.side) m.header.message + m.header.message.mark.place
  count_new e f =
      let left = book.left (state_of s.side) m.header.message in
      let place = m.header.message.mark.place in
      let old = places (s.side.drawn - 2) s.side.taken left in
      let new = places m.header.message.mark.link 0 place in
      let size : length (old ++ new) ≡ left + place = length-append old new ∙ omega (arith, length-places (s.side.drawn - 2) s.side.taken left, length-places m.header.message.mark.link 0 place) in
      let few = s.side.few in
      let few' = side.few in
      let is = ap (λ (x : State). x.skipped) state_new ∙ append_assoc (take s.side.count s.side.marks) old new in
      let n = grown_count s.side.marks side.marks (old ++ new) s.side.count side.count (left + place) e f few few' size is in
      omega arith

-- the bookkeeping's answer is that of a new link
pub book_new : (s : State) (m : Incoming) → book.in_turn s m.header.message ≡ false → has m.header.message.mark s.skipped ≡ false → book.is_new s m.header.message ≡ true →
    book.take true s m.header.message ≡ book.take_new true s m.header.message
book_new s m turn aside new =
    cond-false (book.in_turn s m.header.message) _ _ turn ∙ (cond-false (has m.header.message.mark s.skipped) _ _ aside ∙ cond-true (book.is_new s m.header.message) _ _ new)

module _ {B : Type 0} (keys : B → Keys) (scheme : Scheme) (k : ℕ)
    (s : Session) (side : Side) (b : Begun) (m : Incoming) (text : List ℕ) (slots after : List MessageKey) (box box' : B) (left : ℕ)
    (kept : book.kept (state_of side) ≡ book.take_new true (state_of s.side) m.header.message) (over : left ≡ book.left (state_of s.side) m.header.message)
    (begins : Begins scheme k s m text b) (marked : length s.side.marks ≡ 512) (marked' : length side.marks ≡ 512) where
  abbrev o : Outside
  o = ours scheme

  abbrev p : Parts
  p = parts_of m

  pub text_begun : exchange.text_new o (draw_of k) (held_of s slots) p ≡ Some (take b.size text)
  text_begun = text_new_lem scheme k s slots m begins.joint b.chain.0 _ _ _ begins.gives begins.chain refl refl (begins.opens scheme)

  module _ (t : Session) (T : Turns keys scheme s t side b m.header left slots after box box') where
    counted : t.side.count ≡ s.side.count + left + m.header.message.mark.place
    counted = ap (λ (x : Side). x.count) T.turned ∙ (count_new s side m kept marked marked' ∙ ap (λ (n : ℕ). s.side.count + n + m.header.message.mark.place) (sym over))

    held_new_lem : exchange.held_new o (draw_of T.key) (held_of s slots) p begins.joint T.joint ≡ held_of t after
    held_new_lem =
        let n = m.header.message.mark.place in
        let state = ap state_of T.turned ∙ state_new s side m kept in
        let half = ap scheme.half_of (number-draw T.key) in
        let next = chain_next scheme n b.chain.0 (links.chain_along n b.chain.0) b.next.0 refl begins.next in
        let put = T.put scheme in
        let count = ap (λ (i : ℕ). map key_in (take i after)) counted in
        let root = T.root in
        let sending = T.sending in
        let b-root = begins.root in
        let b-chain = begins.chain in
        cc

    made : exchange.renewed o (draw_of k) (Some (draw_of T.key)) (held_of s slots) p ≡ Some (held_of t after)
    made =
        ap (λ (x : Option (List ℕ)). exchange.and_then x (λ j. exchange.and_then (o.joint (draw_of T.key) m.header.half.0) (λ i. Some (exchange.held_new o (draw_of T.key) (held_of s slots) p j i))))
        (joint_own scheme k s slots m ∙ begins.gives)
        ∙ (ap (λ (x : Option (List ℕ)). exchange.and_then x (λ i. Some (exchange.held_new o (draw_of T.key) (held_of s slots) p begins.joint i)))
        (joint_own scheme T.key s slots m ∙ T.gives) ∙ ap Some held_new_lem)

    opens_new : (size : ℕ) → size ≡ b.size → Opens (exchange.take_new o (draw_of k) (Some (draw_of T.key)) (held_of s slots) p) true s t slots after text size
    opens_new size e = record {
      step =
          opened_new o (draw_of k) (Some (draw_of T.key)) (held_of s slots) p (take b.size text) (book.kept (state_of side)) text_begun kept
          ∙ (ap (λ (h : Option Held). exchange.renew_as (book.kept (state_of side)) (Some (take b.size text)) h) made
          ∙ ap (λ (i : ℕ). exchange.opened (held_of t after) (take i text) true) (sym e));
      short = omega (arith, begins.short);
      wiped =
          let n = left + m.header.message.mark.place in
          let all : s.side.count + n ≡ s.side.count + left + m.header.message.mark.place = omega arith in
          still_wiped slots after s.side.count n t.side.count (record { 0 = blank }) 512 (counted ∙ sym all) (subst (λ (i : ℕ). drop i after ≡ drop i slots) (sym all) T.rest);
    }

  pub turned : (r : Taken) → Turning keys scheme s side b m.header left slots after box box' r →
      Taking keys (λ fresh. exchange.take_new o (draw_of k) fresh (held_of s slots) p) s slots after text box box' r
  turned (Opened t size) h = drew h.1.key h.1.draws (opens_new t h.1 size h.0)
  turned (Refused t why) h = absurd h
  turned (NoKey t) h = (
    h.2,
    record {
      step = opened_new o (draw_of k) None (held_of s slots) p (take b.size text) (book.kept (state_of side)) text_begun kept;
      session = h.0;
      slots = h.1;
    },
  )

pub turned-leaves : {B : Type 0} (keys : B → Keys) (scheme : Scheme) (s : Session) (side : Side) (b : Begun) (h : Header) (left : ℕ) (before after : List MessageKey) (box box' : B) → b.size ≤ 1000 →
    (r : Taken) → Turning keys scheme s side b h left before after box box' r → Leaves keys s before after box box' r
turned-leaves keys scheme s side b h left before after box box' short (Opened t size) e = omega (arith, e.0)
turned-leaves keys scheme s side b h left before after box box' short (Refused t why) e = absurd e
turned-leaves keys scheme s side b h left before after box box' short (NoKey t) e = e
