-- A side takes a message: what holds of the messages that it takes goes on to hold.
use Rattle.std.proofs.Common.{◌≡◌, ℕ, ◌+◌, ◌-◌, ◌<◌, ◌≤◌, true, ◌⊎◌, [], ◌∷◌, ◌++◌, sym, ap, ◌∙◌, inl, inr, arith}
use Rattle.std.proofs.lemmas.Bool.{both_ways, cases_Bool, cases_lt, cases_order}
use Rattle.ratchet.specs.declared.types.Mark.{Mark}
use Rattle.ratchet.specs.declared.types.Message.{Message}
use Rattle.ratchet.specs.Same.{same_mark}
use Rattle.ratchet.specs.State.{State, has, places}
use Rattle.ratchet.specs.Steps.{advanced, recalled, turned, passed}
use Rattle.ratchet.specs.Steps.{left as leftOver}
use Rattle.runs.specs.World.{Party, among, perform, keep, hand}
use Rattle.runs.proofs.Messages.{same-mark, mark-same, among-before, among-last, among_cases, none-twice_more}
use Rattle.runs.proofs.Marks.{Apart, has-not, has_either, has_left, placed, without-had, without_other, without_gone, apart-append, apart-places, apart-without}
use Rattle.runs.proofs.Steps.{advanced-had, advanced-has, left-placed, turned-had, turned-kept, turned-old, turned-new}
use Rattle.runs.proofs.Way.{Sender, taker, Sealed, Aside, Opened, Opening, Behind, Way}

-- the side after the page is kept, with the message opened
abbrev pub took : Party → State → Message → Party
took q s m = perform (keep s m) q

-- no message opened before has the mark of this one
abbrev pub Fresh : Party → Message → Type 0
Fresh q m = (x : Message) → among x q.opened ≡ true → x.mark ≡ m.mark → ⊥

-- what is to be shown of a step that takes a message
pub record Takes (r : ℕ) (o : Sender) (q : Party) (s : State) (m : Message) : Type 0 where
  pub way : Way r o (taker (took q s m))
  pub fresh : Fresh q m

-- what holds of all opened before, and of the message, holds of all
opened-more : (q : Party) (s : State) (m : Message) → ((x : Message) → among x q.opened ≡ true → Opened (taker (took q s m)) x) → Opened (taker (took q s m)) m →
    (x : Message) → among x (q.opened ++ m ∷ []) ≡ true → Opened (taker (took q s m)) x
opened-more q s m old new x a = elim (among_cases x m q.opened a) [ inl k ↦ old x k | inr e ↦ rw (sym e) new ]

genuine-more : (o : Sender) (q : Party) (m : Message) → ((x : Message) → among x q.opened ≡ true → among x o.left ≡ true) → among m o.left ≡ true →
    (x : Message) → among x (q.opened ++ m ∷ []) ≡ true → among x o.left ≡ true
genuine-more o q m old new x a = elim (among_cases x m q.opened a) [ inl k ↦ old x k | inr e ↦ rw (sym e) new ]

module _ (r : ℕ) (o : Sender) (q : Party) (w : Way r o (taker q)) (m : Message) (came : among m o.left ≡ true) where
  was : Sealed r o m
  was = w.sealing.each m (w.sealing.left m came)

  -- a message that left with this one's mark is this one
  is_it : (x : Message) → among x o.left ≡ true → x.mark ≡ m.mark → among x (q.opened ++ m ∷ []) ≡ true
  is_it x a e = rw (w.sealing.unique x m (w.sealing.left x a) (w.sealing.left m came) e) (among-last m q.opened)

  handed_more : (x : Message) → among x q.handed ≡ true → among x (q.opened ++ m ∷ []) ≡ true
  handed_more x a = among-before x m q.opened (w.opening.handed x a)

  -- ### In turn

  module _ (on : m.mark.link + 2 ≡ q.side.drawn) (next : q.side.taken ≤ m.mark.place) where
    advanced_fresh : Fresh q m
    advanced_fresh x a e = let l = ap (λ k. k.link) e in let p = ap (λ k. k.place) e in omega (arith, (w.opening.each x a).below (omega arith))

    advanced_aside : (a : Mark) → has a (advanced q.side m).skipped ≡ true → Aside r (taker (took q (advanced q.side m) m)) a
    advanced_aside a h = elim (advanced-had q.side m a on h) [
      | inl k ↦ let t = w.opening.aside a k in record { parity = t.parity; low = t.low; below = λ e. omega (arith, t.below e) }
      | inr k ↦ record { parity = omega (arith, w.opening.parity); low = omega arith; below = λ e. omega arith }
    ]

    advanced_opened : (x : Message) → among x q.opened ≡ true → Opened (taker (took q (advanced q.side m) m)) x
    advanced_opened x a = let t = w.opening.each x a in record {
      low = t.low;
      below = λ e. omega (arith, t.below e);
      gone = has-not x.mark _ (λ k. elim (advanced-had q.side m x.mark on k)
          [ inl j ↦ both_ways (has x.mark q.side.skipped) t.gone j | inr j ↦ omega (arith, t.below j.0) ]);
    }

    advanced_self : Opened (taker (took q (advanced q.side m) m)) m
    advanced_self = record {
      low = omega arith;
      below = λ e. omega arith;
      gone = has-not m.mark _ (λ k. elim (advanced-had q.side m m.mark on k)
          [ inl j ↦ omega (arith, (w.opening.aside m.mark j).below on) | inr j ↦ omega arith ]);
    }

    advanced_opening : Opening r (taker (took q (advanced q.side m) m))
    advanced_opening = record {
      parity = w.opening.parity;
      aside = advanced_aside;
      apart = apart-append q.side.skipped _ w.opening.apart (apart-places m.mark.link q.side.taken (passed q.side m))
          (λ a h k. let t = placed a m.mark.link q.side.taken (passed q.side m) k in omega (arith, (w.opening.aside a h).below (omega arith)));
      each = opened-more q (advanced q.side m) m advanced_opened advanced_self;
      once = none-twice_more q.opened m w.opening.once advanced_fresh;
      handed = handed_more;
      handed_once = w.opening.handed_once;
    }

    advanced_settled : (x : Message) → among x o.left ≡ true → Behind (taker (took q (advanced q.side m) m)) x →
        (among x (q.opened ++ m ∷ []) ≡ true) ⊎ (has x.mark (advanced q.side m).skipped ≡ true)
    advanced_settled x a b = elim b [
      | inl u ↦ old (inl u)
      | inr u ↦ elim (cases_order x.mark.place m.mark.place) [
        | inl e ↦ inl (is_it x a (λ i. record { link = same u.0 i; place = e i }))
        | inr d ↦ elim (cases_lt x.mark.place q.side.taken) [
          | inl l ↦ old (inr (u.0, l))
          | inr l ↦ inr (advanced-has q.side m x.mark (same u.0) l (omega arith))
        ]
      ]
    ]
      where
        same : x.mark.link + 2 ≡ q.side.drawn → x.mark.link ≡ m.mark.link
        same e = omega arith

        old : Behind (taker q) x → (among x (q.opened ++ m ∷ []) ≡ true) ⊎ (has x.mark (advanced q.side m).skipped ≡ true)
        old h = elim (w.settled x a h) [ inl k ↦ inl (among-before x m q.opened k) | inr k ↦ inr (has_left x.mark q.side.skipped _ k) ]

    pub advanced_takes : Takes r o q (advanced q.side m) m
    advanced_takes = record {
      way = record {
        sealing = w.sealing;
        opening = advanced_opening;
        near = w.near;
        caught = λ e. omega (arith, (was.newest (omega arith)).0);
        genuine = genuine-more o q m w.genuine came;
        settled = advanced_settled;
      };
      fresh = advanced_fresh;
    }

  -- ### From what was put aside

  module _ (there : has m.mark q.side.skipped ≡ true) where
    recalled_fresh : Fresh q m
    recalled_fresh x a e = both_ways (has m.mark q.side.skipped) (rw e at (w.opening.each x a).gone) there

    recalled_opened : (x : Message) → among x q.opened ≡ true → Opened (taker (took q (recalled q.side m) m)) x
    recalled_opened x a = let t = w.opening.each x a in record {
      low = t.low;
      below = t.below;
      gone = has-not x.mark _ (λ k. both_ways (has x.mark q.side.skipped) t.gone (without-had x.mark m.mark q.side.skipped k));
    }

    recalled_self : Opened (taker (took q (recalled q.side m) m)) m
    recalled_self = let t = w.opening.aside m.mark there in
        record { low = t.low; below = t.below; gone = without_gone m.mark q.side.skipped w.opening.apart }

    recalled_opening : Opening r (taker (took q (recalled q.side m) m))
    recalled_opening = record {
      parity = w.opening.parity;
      aside = λ a h. let t = w.opening.aside a (without-had a m.mark q.side.skipped h) in record { parity = t.parity; low = t.low; below = t.below };
      apart = apart-without m.mark q.side.skipped w.opening.apart;
      each = opened-more q (recalled q.side m) m recalled_opened recalled_self;
      once = none-twice_more q.opened m w.opening.once recalled_fresh;
      handed = handed_more;
      handed_once = w.opening.handed_once;
    }

    recalled_settled : (x : Message) → among x o.left ≡ true → Behind (taker q) x →
        (among x (q.opened ++ m ∷ []) ≡ true) ⊎ (has x.mark (recalled q.side m).skipped ≡ true)
    recalled_settled x a b = elim (w.settled x a b) [
      | inl k ↦ inl (among-before x m q.opened k)
      | inr k ↦ elim (cases_Bool (same_mark x.mark m.mark)) [
        | inl t ↦ inl (is_it x a (same-mark x.mark m.mark t))
        | inr f ↦ inr (without_other x.mark m.mark q.side.skipped (λ e. both_ways (same_mark x.mark m.mark) f (mark-same x.mark m.mark e)) k)
      ]
    ]

    pub recalled_takes : Takes r o q (recalled q.side m) m
    recalled_takes = record {
      way = record {
        sealing = w.sealing;
        opening = recalled_opening;
        near = w.near;
        caught = w.caught;
        genuine = genuine-more o q m w.genuine came;
        settled = recalled_settled;
      };
      fresh = recalled_fresh;
    }

  -- ### On a new link

  module _ (new : m.mark.link ≡ q.side.drawn) where
    -- the sender is one key ahead
    pub ahead : o.drawn ≡ q.side.drawn + 1
    ahead = omega (arith, w.near, was.low)

    turned_fresh : Fresh q m
    turned_fresh x a e = let l = ap (λ k. k.link) e in omega (arith, (w.opening.each x a).low)

    turned_aside : (a : Mark) → has a (turned q.side m).skipped ≡ true → Aside r (taker (took q (turned q.side m) m)) a
    turned_aside a h = elim (turned-had q.side m a h) [
      | inl k ↦ let t = w.opening.aside a k in
          record { parity = t.parity; low = omega (arith, t.low); below = λ e. absurd (omega (arith, t.low)) }
      | inr k ↦ elim k [
        | inl j ↦ record { parity = omega (arith, w.opening.parity); low = omega arith; below = λ e. absurd (omega arith) }
        | inr j ↦ record { parity = omega (arith, w.opening.parity); low = omega arith; below = λ e. omega arith }
      ]
    ]

    turned_apart : Apart (turned q.side m).skipped
    turned_apart =
        apart-append (q.side.skipped ++ places (q.side.drawn - 2) q.side.taken (leftOver q.side m)) _
        (apart-append q.side.skipped _ w.opening.apart (apart-places (q.side.drawn - 2) q.side.taken (leftOver q.side m))
        (λ a h k. let t = left-placed q.side m a (placed a (q.side.drawn - 2) q.side.taken (leftOver q.side m) k) in
        omega (arith, (w.opening.aside a h).below t.0)))
        (apart-places m.mark.link 0 m.mark.place)
        (λ a h k. let t = placed a m.mark.link 0 m.mark.place k in elim (has_either a q.side.skipped _ h) [
          | inl j ↦ omega (arith, (w.opening.aside a j).low)
          | inr j ↦ omega (arith, left-placed q.side m a (placed a (q.side.drawn - 2) q.side.taken (leftOver q.side m) j))
        ])

    turned_opened : (x : Message) → among x q.opened ≡ true → Opened (taker (took q (turned q.side m) m)) x
    turned_opened x a = let t = w.opening.each x a in record {
      low = omega (arith, t.low);
      below = λ e. absurd (omega (arith, t.low));
      gone = has-not x.mark _ (λ k. elim (turned-had q.side m x.mark k) [
        | inl j ↦ both_ways (has x.mark q.side.skipped) t.gone j
        | inr j ↦ elim j [ inl i ↦ omega (arith, t.below i.0) | inr i ↦ omega (arith, t.low) ]
      ]);
    }

    turned_self : Opened (taker (took q (turned q.side m) m)) m
    turned_self = record {
      low = omega arith;
      below = λ e. omega arith;
      gone = has-not m.mark _ (λ k. elim (turned-had q.side m m.mark k)
          [ inl j ↦ omega (arith, (w.opening.aside m.mark j).low) | inr j ↦ elim j [ inl i ↦ omega arith | inr i ↦ omega arith ] ]);
    }

    turned_opening : Opening r (taker (took q (turned q.side m) m))
    turned_opening = record {
      parity = omega (arith, w.opening.parity);
      aside = turned_aside;
      apart = turned_apart;
      each = opened-more q (turned q.side m) m turned_opened turned_self;
      once = none-twice_more q.opened m w.opening.once turned_fresh;
      handed = handed_more;
      handed_once = w.opening.handed_once;
    }

    turned_settled : (x : Message) → among x o.left ≡ true → Behind (taker (took q (turned q.side m) m)) x →
        (among x (q.opened ++ m ∷ []) ≡ true) ⊎ (has x.mark (turned q.side m).skipped ≡ true)
    turned_settled x a b = elim (cases_order x.mark.link q.side.drawn) [
      | inl e ↦ on_new e
      | inr d ↦ elim d [ inl l ↦ earlier l | inr g ↦ absurd (omega (arith, b)) ]
    ]
      where
        known : Sealed r o x
        known = w.sealing.each x (w.sealing.left x a)

        on_new : x.mark.link ≡ q.side.drawn → (among x (q.opened ++ m ∷ []) ≡ true) ⊎ (has x.mark (turned q.side m).skipped ≡ true)
        on_new e = elim (cases_order x.mark.place m.mark.place) [
          | inl p ↦ inl (is_it x a (λ i. record { link = (e ∙ sym new) i; place = p i }))
          | inr p ↦ inr (turned-new q.side m x.mark (e ∙ sym new) (omega (arith, b)))
        ]

        old : Behind (taker q) x → (among x (q.opened ++ m ∷ []) ≡ true) ⊎ (has x.mark (turned q.side m).skipped ≡ true)
        old h = elim (w.settled x a h) [ inl k ↦ inl (among-before x m q.opened k) | inr k ↦ inr (turned-kept q.side m x.mark k) ]

        earlier : x.mark.link < q.side.drawn → (among x (q.opened ++ m ∷ []) ≡ true) ⊎ (has x.mark (turned q.side m).skipped ≡ true)
        earlier l = elim (cases_order (x.mark.link + 2) q.side.drawn) [
          | inl e ↦ elim (cases_lt x.mark.place q.side.taken) [
            | inl t ↦ old (inr (e, t))
            | inr t ↦ inr (turned-old q.side m x.mark e t (omega (arith, known.older (omega (arith, ahead)), (was.newest (omega (arith, ahead))).1)))
          ]
          | inr d ↦ elim d [ inl u ↦ old (inl u) | inr u ↦ absurd (omega (arith, known.parity, w.opening.parity)) ]
        ]

    pub turned_takes : Takes r o q (turned q.side m) m
    turned_takes = record {
      way = record {
        sealing = w.sealing;
        opening = turned_opening;
        near = inl (omega (arith, ahead));
        caught = λ e. omega (arith, (was.newest (omega (arith, ahead))).0);
        genuine = genuine-more o q m w.genuine came;
        settled = turned_settled;
      };
      fresh = turned_fresh;
    }

-- ### Handing out

pub way-handed : (r : ℕ) (o : Sender) (q : Party) (w : Way r o (taker q)) (s : State) (m : Message) → Takes r o q s m → Way r o (taker (perform (hand m) (took q s m)))
way-handed r o q w s m t = let v = t.way in record {
  sealing = v.sealing;
  opening = record {
    parity = v.opening.parity;
    aside = λ a h. let k = v.opening.aside a h in record { parity = k.parity; low = k.low; below = k.below };
    apart = v.opening.apart;
    each = λ x a. let k = v.opening.each x a in record { low = k.low; below = k.below; gone = k.gone };
    once = v.opening.once;
    handed = λ x a. elim (among_cases x m q.handed a) [ inl k ↦ v.opening.handed x k | inr e ↦ rw (sym e) (among-last m q.opened) ];
    handed_once = none-twice_more q.handed m w.opening.handed_once (λ x a. t.fresh x (w.opening.handed x a));
  };
  near = v.near;
  caught = v.caught;
  genuine = v.genuine;
  settled = v.settled;
}
