-- What a side answers to a message, beside what the bookkeeping answers.
use Rattle.std.proofs.Common.{◌≡◌, ℕ, suc, ◌+◌, ◌≤◌, Bool, true, false, cond, eqb, ◌⊎◌, List, length, is_some, Some, None, Option, sym, refl, ap, ◌∙◌, subst, inl, inr, arith}
use Rattle.std.proofs.lemmas.Bool.{and_parts, eqb-true, leb-true}
use Rattle.ratchet.specs.declared.types.Message.{Message}
use Rattle.ratchet.specs.State.{State, has}
use Rattle.ratchet.specs.Steps as book
use Rattle.chain.specs.Secret.{joint}
use Rattle.exchange.specs.Outside.{Draw, Outside, Lawful, seal}
use Rattle.exchange.specs.Wire.{Parts, header_bytes}
use Rattle.exchange.specs.Held.{Held, Ground, chain_part, draw_of, bytes_of, key_bytes_of, hold}
use Rattle.exchange.specs.Exchanges.{and_then, walked, Taken, opened, kept_out, no_key, take_as, renew_as, text_under, text_in_turn, held_in_turn, text_recalled, held_recalled, text_new, held_new, renewed, take_in_turn, take_recalled, take_new, take_message, text_of}
use Rattle.exchange.specs.Pinned.{Beside, opens, stays_out, box_empty}
use Rattle.exchange.proofs.Tags.{unseal_seal}
use Rattle.exchange.proofs.Recipes.{joint_below, joint_above}
use Rattle.exchange.proofs.Holds.{in_turn_key, in_turn_holds, recalled_key, recalled_holds, new_key, new_holds}

some_inj : {A : Type 0} {x y : A} → Some x ≡ Some y → x ≡ y
some_inj e = cc

-- ### Of any message

take-beside : (within countable : Bool) (x : Option (List ℕ)) (h : Held) →
    Beside x (take_as (book.checked within (is_some x) countable h.state) x h) (book.checked within (is_some x) countable h.state)
take-beside true true (Some t) h = opens refl
take-beside true false (Some t) h = stays_out
take-beside true true None h = stays_out
take-beside true false None h = stays_out
take-beside false c (Some t) h = stays_out
take-beside false c None h = stays_out

renew_beside : (within countable : Bool) (x : Option (List ℕ)) (s : State) (y : Option Held) → ((h : Held) → y ≡ Some h → h.state ≡ s) →
    Beside x (renew_as (book.checked within (is_some x) countable s) x y) (book.checked within (is_some x) countable s)
renew_beside true true (Some t) s (Some h) e = rw (sym (e h refl)) (opens refl)
renew_beside true true (Some t) s None e = box_empty
renew_beside true false (Some t) s y e = stays_out
renew_beside true true None s y e = stays_out
renew_beside true false None s y e = stays_out
renew_beside false c (Some t) s y e = stays_out
renew_beside false c None s y e = stays_out

module _ (o : Outside) (own : Draw) (fresh : Option Draw) (h : Held) (p : Parts) where
  renewed_state : (d : Option Draw) (j : Option (List ℕ)) → (e : (d : Draw) → Option (List ℕ)) → (t : Held) →
      and_then d (λ d'. and_then j (λ j'. and_then (e d') (λ k. Some (held_new o d' h p j' k)))) ≡ Some t → t.state ≡ book.turned h.state p.message
  renewed_state None j e t q = let z : ◌≡◌ {A = ℕ} 0 1 = cc in absurd (omega arith)
  renewed_state (Some d) None e t q = let z : ◌≡◌ {A = ℕ} 0 1 = cc in absurd (omega arith)
  renewed_state (Some d) (Some j) e t q = go (e d) q
    where
      go : (k : Option (List ℕ)) → and_then k (λ k'. Some (held_new o d h p j k')) ≡ Some t → t.state ≡ book.turned h.state p.message
      go None r = let z : ◌≡◌ {A = ℕ} 0 1 = cc in absurd (omega arith)
      go (Some k) r = let z : held_new o d h p j k ≡ t = cc in ap (λ (x : Held). x.state) (sym z)

  abbrev text_by : Bool → Bool → Bool → Option (List ℕ)
  text_by a b c = cond a (text_in_turn o h p) (cond b (text_recalled o h p) (cond c (text_new o own h p) None))

  pub message_beside : Beside (text_of o own h p) (take_message o own fresh h p) (book.take (is_some (text_of o own h p)) h.state p.message)
  message_beside = go (book.in_turn h.state p.message) (has p.message.mark h.state.skipped) (book.is_new h.state p.message)
    where
      go : (a b c : Bool) →
          Beside (text_by a b c) (cond a (take_in_turn o h p) (cond b (take_recalled o h p) (cond c (take_new o own fresh h p) (kept_out 3))))
          (cond a (book.take_in_turn (is_some (text_by a b c)) h.state p.message)
          (cond b (book.take_recalled (is_some (text_by a b c)) h.state p.message)
          (cond c (book.take_new (is_some (text_by a b c)) h.state p.message) (book.refused 3))))
      go true b c = take-beside _ _ (text_in_turn o h p) (held_in_turn o h p)
      go false true c = take-beside true true (text_recalled o h p) (held_recalled h p)
      go false false true =
          renew_beside _ _ (text_new o own h p) (book.turned h.state p.message) (renewed o own fresh h p)
          (renewed_state fresh (o.joint own p.half) (λ d. o.joint d p.half))
      go false false false = stays_out

-- ### Of a message as the model says that it was sealed

-- the half in its header is that of the key above its link
abbrev pub half_for : Outside → Ground → Message → List ℕ
half_for o g m = o.half (draw_of g (suc m.mark.link))

abbrev pub header_for : Outside → Ground → Message → (text : List ℕ) → List ℕ
header_for o g m text = header_bytes m (half_for o g m) (length text)

abbrev pub body_for : Outside → Ground → Message → (text : List ℕ) → List ℕ
body_for o g m text = seal o (key_bytes_of o g m.mark) (header_for o g m text) text

abbrev pub parts_for : Outside → Ground → Message → (text : List ℕ) → Parts
parts_for o g m text = record { header = header_for o g m text; message = m; half = half_for o g m; body = body_for o g m text }

-- what comes of it: nothing by 3, 4 or 6; nothing, for want of a key; its text, with what the model says held after it
pub data Opens (o : Outside) (g : Ground) (s : State) (fresh : Option Draw) (text : List ℕ) : Taken → book.Answer → Type 0 where
  stays : {n : ℕ} → Opens o g s fresh text (kept_out n) (book.refused n)
  lacks : {t : State} → fresh ≡ None → Opens o g s fresh text no_key (book.kept t)
  takes : {h : Held} → h ≡ hold o g h.state → h.state.drawn ≡ s.drawn → Opens o g s fresh text (opened h text false) (book.kept h.state)
  turns : {h : Held} (d : Draw) → fresh ≡ Some d → h.state.drawn ≡ s.drawn + 2 → (d ≡ draw_of g (s.drawn + 2) → h ≡ hold o g h.state) →
      Opens o g s fresh text (opened h text true) (book.kept h.state)

pub opens-beside : (o : Outside) (g : Ground) (s : State) (fresh : Option Draw) (text : List ℕ) (a : Taken) (b : book.Answer) → Opens o g s fresh text a b → Beside (Some text) a b
opens-beside o g s fresh text _ _ stays = stays_out
opens-beside o g s fresh text _ _ (lacks e) = box_empty
opens-beside o g s fresh text _ _ (takes r d) = opens refl
opens-beside o g s fresh text _ _ (turns d e c r) = opens refl

module _ (o : Outside) (g : Ground) (s : State) (fresh : Option Draw) (text : List ℕ) where
  take_opens : (within countable : Bool) (x : Option (List ℕ)) (h : Held) → x ≡ Some text → h ≡ hold o g h.state → h.state.drawn ≡ s.drawn →
      Opens o g s fresh text (take_as (book.checked within (is_some x) countable h.state) x h) (book.checked within true countable h.state)
  take_opens within countable None h e r d = let z : ◌≡◌ {A = ℕ} 0 1 = cc in absurd (omega arith)
  take_opens true true (Some t) h e r d = let z : t ≡ text = cc in rw z (takes r d)
  take_opens true false (Some t) h e r d = stays
  take_opens false c (Some t) h e r d = stays

  renew_opens : (within countable : Bool) (x : Option (List ℕ)) (t : State) (y : Option Held) → x ≡ Some text → t.drawn ≡ s.drawn + 2 →
      (y ≡ None → fresh ≡ None) →
      ((h : Held) → y ≡ Some h → (d : Draw) × (fresh ≡ Some d) × (h.state ≡ t) × (d ≡ draw_of g (s.drawn + 2) → h ≡ hold o g h.state)) →
      Opens o g s fresh text (renew_as (book.checked within (is_some x) countable t) x y) (book.checked within true countable t)
  renew_opens within countable None t y e c none some = let z : ◌≡◌ {A = ℕ} 0 1 = cc in absurd (omega arith)
  renew_opens true true (Some u) t None e c none some = lacks (none refl)
  renew_opens true true (Some u) t (Some h) e c none some =
      let z : u ≡ text = cc in
      let r = some h refl in
      rw (z, sym r.2) (turns r.0 r.1 (ap (λ (x : State). x.drawn) r.2 ∙ c) r.3)
  renew_opens true false (Some u) t y e c none some = stays
  renew_opens false c (Some u) t y e d none some = stays

module _ (o : Outside) (k : Lawful o) (g : Ground) (s : State) (fresh : Option Draw) (m : Message) (text : List ℕ) where
  abbrev parts : Parts
  parts = parts_for o g m text

  abbrev held : Held
  held = hold o g s

  abbrev own : Draw
  own = draw_of g s.drawn

  -- under its key it opens
  opens_under : (key : List ℕ) → key ≡ key_bytes_of o g m.mark → text_under o key parts ≡ Some text
  opens_under key e = ap (λ x. text_under o x parts) e ∙ unseal_seal o k (key_bytes_of o g m.mark) (header_for o g m text) text

  on_link : book.in_turn s m ≡ true → (m.mark.link + 2 ≡ s.drawn) × (s.taken ≤ m.mark.place)
  on_link h =
      let e = and_parts (eqb (m.mark.link + 2) s.drawn) _ h in
      (eqb-true (m.mark.link + 2) s.drawn e.0, leb-true s.taken m.mark.place e.1)

  in-turn-text : book.in_turn s m ≡ true → text_in_turn o held parts ≡ Some text
  in-turn-text h = let e = on_link h in opens_under _ (in_turn_key o g s parts e.0 e.1)

  recalled_text : has m.mark s.skipped ≡ true → text_recalled o held parts ≡ Some text
  recalled_text h = opens_under _ (recalled_key o g s parts h)

  -- the box of its own key makes the model's joint secret with the half that came
  module _ (new : m.mark.link ≡ s.drawn) where
    first_joint : o.joint own (half_for o g m) ≡ Some (bytes_of o g (joint s.drawn))
    first_joint = rw new (joint_below o k g s.drawn)

    new_text : text_new o own held parts ≡ Some text
    new_text =
        ap (λ j. and_then j (λ j'. text_under o (o.key_bytes (walked o m.mark.place (chain_part (o.link_bytes held.root j')))) parts)) first_joint
        ∙ opens_under _ (new_key o g s parts new)

    -- the fresh key's box answers too, and makes the model's joint secret if the key is the next in the table
    second_joint : (d : Draw) (j : List ℕ) → o.joint d (half_for o g m) ≡ Some j → d ≡ draw_of g (s.drawn + 2) → j ≡ bytes_of o g (joint (suc s.drawn))
    second_joint d j e f =
        let a = joint_above o k g (suc s.drawn) in
        let n : suc (suc s.drawn) ≡ s.drawn + 2 = omega arith in
        let b : o.joint d (half_for o g m) ≡ Some (bytes_of o g (joint (suc s.drawn))) = rw (new, f, sym n) a in
        cc

    made_new : (d : Draw) (j : List ℕ) → o.joint d (half_for o g m) ≡ Some j →
        renewed o own (Some d) held parts ≡ Some (held_new o d held parts (bytes_of o g (joint s.drawn)) j)
    made_new d j e = rw (first_joint, e)

    module _ (answers : (d : Draw) → fresh ≡ Some d → (j : List ℕ) × (o.joint d (half_for o g m) ≡ Some j)) where
      some_new : (h : Held) → renewed o own fresh held parts ≡ Some h →
          (d : Draw) × (fresh ≡ Some d) × (h.state ≡ book.turned s m) × (d ≡ draw_of g (s.drawn + 2) → h ≡ hold o g h.state)
      some_new h = go fresh refl
        where
          go : (f : Option Draw) → fresh ≡ f → renewed o own f held parts ≡ Some h →
              (d : Draw) × (fresh ≡ Some d) × (h.state ≡ book.turned s m) × (d ≡ draw_of g (s.drawn + 2) → h ≡ hold o g h.state)
          go None e r = let z : ◌≡◌ {A = ℕ} 0 1 = cc in absurd (omega arith)
          go (Some d) e r =
              let a = answers d e in
              let is : held_new o d held parts (bytes_of o g (joint s.drawn)) a.0 ≡ h = some_inj (sym (made_new d a.0 a.1) ∙ r) in (
                d,
                e,
                ap (λ (x : Held). x.state) (sym is),
                λ f.
                    let q = sym is ∙ (ap (held_new o d held parts (bytes_of o g (joint s.drawn))) (second_joint d a.0 a.1 f) ∙ new_holds o g s parts new d f) in
                    q ∙ ap (λ (x : Held). hold o g x.state) (sym q),
              )

      none_new : renewed o own fresh held parts ≡ None → fresh ≡ None
      none_new = go fresh refl
        where
          go : (f : Option Draw) → fresh ≡ f → renewed o own f held parts ≡ None → fresh ≡ None
          go None e r = e
          go (Some d) e r = let a = answers d e in let b = made_new d a.0 a.1 in let z : ◌≡◌ {A = ℕ} 0 1 = cc in absurd (omega arith)

  -- whatever key the box gives, it answers for the half that came
  module _ (answers : (d : Draw) → fresh ≡ Some d → m.mark.link ≡ s.drawn → (j : List ℕ) × (o.joint d (half_for o g m) ≡ Some j)) where
    pub genuine_opens : Opens o g s fresh text (take_message o own fresh held parts) (book.take true s m)
    genuine_opens = go (book.in_turn s m) refl (has m.mark s.skipped) refl (book.is_new s m) refl
      where
        go : (a : Bool) → book.in_turn s m ≡ a → (b : Bool) → has m.mark s.skipped ≡ b → (c : Bool) → book.is_new s m ≡ c →
            Opens o g s fresh text (cond a (take_in_turn o held parts) (cond b (take_recalled o held parts) (cond c (take_new o own fresh held parts) (kept_out 3))))
            (cond a (book.take_in_turn true s m) (cond b (book.take_recalled true s m) (cond c (book.take_new true s m) (book.refused 3))))
        go true e b f c n =
            let l = on_link e in
            let h = in_turn_holds o g s parts l.0 l.1 in
            take_opens o g s fresh text _ _ (text_in_turn o held parts) (held_in_turn o held parts) (in-turn-text e) h refl
        go false e true f c n = take_opens o g s fresh text true true (text_recalled o held parts) (held_recalled held parts) (recalled_text f) (recalled_holds o g s parts) refl
        go false e false f true n =
            let new = eqb-true m.mark.link s.drawn n in
            renew_opens o g s fresh text _ _ (text_new o own held parts) (book.turned s m) (renewed o own fresh held parts) (new_text new) refl
            (none_new new (λ d x. answers d x new)) (some_new new (λ d x. answers d x new))
        go false e false f false n = stays

-- ### Of a message that doesn't open

-- place and limits come first: whether it opens counts only for what would be refused by 5 if it didn't
five_or_same : (within countable : Bool) (t : State) →
    (book.checked within false countable t ≡ book.refused 5) ⊎ ((n : ℕ) × (book.checked within false countable t ≡ book.refused n) × (book.checked within true countable t ≡ book.refused n))
five_or_same true c t = inl refl
five_or_same false c t = inr (4, refl, refl)

place-first : (s : State) (m : Message) → (book.take false s m ≡ book.refused 5) ⊎ ((n : ℕ) × (book.take false s m ≡ book.refused n) × (book.take true s m ≡ book.refused n))
place-first s m = go (book.in_turn s m) (has m.mark s.skipped) (book.is_new s m)
  where
    go : (a b c : Bool) →
        let answer : Bool → book.Answer = λ x. cond a (book.take_in_turn x s m) (cond b (book.take_recalled x s m) (cond c (book.take_new x s m) (book.refused 3))) in
        (answer false ≡ book.refused 5) ⊎ ((n : ℕ) × (answer false ≡ book.refused n) × (answer true ≡ book.refused n))
    go true b c = five_or_same _ _ (book.advanced s m)
    go false true c = inl refl
    go false false true = five_or_same _ _ (book.turned s m)
    go false false false = inr (3, refl, refl)

-- the answer by the test of whether it opens
by_text : (s : State) (m : Message) (x : Bool) (n : ℕ) → book.take false s m ≡ book.refused n → book.take true s m ≡ book.refused n → book.take x s m ≡ book.refused n
by_text s m true n f t = t
by_text s m false n f t = f

module _ (o : Outside) (own : Draw) (fresh : Option Draw) (h : Held) (p : Parts) where
  abbrev Out : Type 0
  Out = (n : ℕ) × (take_message o own fresh h p ≡ kept_out n) × (book.take false h.state p.message ≡ book.refused n)

  beside_at : (b : book.Answer) → book.take (is_some (text_of o own h p)) h.state p.message ≡ b → Beside (text_of o own h p) (take_message o own fresh h p) b
  beside_at b e = let P : book.Answer → Type 0 = Beside (text_of o own h p) (take_message o own fresh h p) in subst P e (message_beside o own fresh h p)

  only_out : (n : ℕ) (x : Option (List ℕ)) (a : Taken) → Beside x a (book.refused n) → a ≡ kept_out n
  only_out n x _ stays_out = refl

  -- kept out, if it doesn't open where it comes as far as that
  pub shut_out : (book.take false h.state p.message ≡ book.refused 5 → text_of o own h p ≡ None) → Out
  shut_out closed = elim (place-first h.state p.message) [
    | inl e ↦ let f = ap (λ x. book.take (is_some x) h.state p.message) (closed e) ∙ e in (5, only_out 5 _ _ (beside_at (book.refused 5) f), e)
    | inr r ↦
        let f = by_text h.state p.message (is_some (text_of o own h p)) r.0 r.1 r.2 in
        (r.0, only_out r.0 _ _ (beside_at (book.refused r.0) f), r.1)
  ]
