-- Each step leads from a valid side to a valid side.
use Rattle.std.proofs.Common.{◌≡◌, ℕ, zero, suc, ◌+◌, ◌-◌, ◌^◌, ◌<◌, ◌≤◌, Bool, true, false, cond, leb, List, [], ◌∷◌, ◌++◌, length, refl, ap, ◌∙◌, inl, inr, add-one, arith, length-append, length-drop}
use Rattle.std.specs.List.{AllByRecursion as All}
use Rattle.std.proofs.ByRecursion.{All-append, All-push, All-weaker}
use Rattle.std.proofs.lemmas.List.{length-take-le, length_push}
use Rattle.std.proofs.lemmas.Bool.{cond_both, cond-false, cases_Bool, cases_eq, leb-true, cond-true}
use Rattle.ratchet.specs.declared.types.Mark.{Mark}
use Rattle.ratchet.specs.declared.types.Message.{Message}
use Rattle.ratchet.specs.Same.{same_mark}
use Rattle.ratchet.specs.State.{State, without, places}
use Rattle.ratchet.specs.Steps as book
use Rattle.runs.specs.declared.types.Who.{Who}
use Rattle.exchange.specs.Outside.{Draw, Outside, Lawful}
use Rattle.exchange.specs.Wire.{Parts}
use Rattle.exchange.specs.Held.{Held, root_part, chain_part}
use Rattle.exchange.specs.Exchanges.{walked, keys_along, keys_without, sent_on, held_in_turn, held_recalled, held_new}
use Rattle.ratchet.proofs.Put.{length-places}
use Rattle.page.specs.Valid.{Below, Rising, Aside, Valid}
use Rattle.page.proofs.Marks.{rising-append, all-places, rising-places, all_without, rising-without, without-few, without-none}

abbrev Sized32 : List (List ℕ) → Type 0
Sized32 ks = All (λ k. length k ≡ 32) ks

-- ### Keys put aside

module _ (o : Outside) (law : Lawful o) where
  length_along : (n : ℕ) (c : List ℕ) → length (keys_along o n c) ≡ n
  unfolding keys_along
  length_along zero c = refl
  length_along (suc n) c = length_push (keys_along o n c) (o.key_bytes (walked o n c)) ∙ omega (arith, length_along n c)

  along_sized : (n : ℕ) (c : List ℕ) → Sized32 (keys_along o n c)
  unfolding keys_along
  along_sized zero c = tt
  along_sized (suc n) c = All-push (λ k. length k ≡ 32) (keys_along o n c) (o.key_bytes (walked o n c)) (along_sized n c) (law.key_length (walked o n c))

  walked_sized : (n : ℕ) (c : List ℕ) → length (walked o (n + 1) c) ≡ 32
  unfolding walked
  walked_sized n c = ap (λ k. length (walked o k c)) (add-one n) ∙ law.next_length (walked o n c)

  pub root_sized : (r j : List ℕ) → length (root_part (o.link_bytes r j)) ≡ 32
  root_sized r j = length-take-le 32 (o.link_bytes r j) (omega (arith, law.link_length r j))

  pub chain_sized : (r j : List ℕ) → length (chain_part (o.link_bytes r j)) ≡ 32
  chain_sized r j = length-drop 32 (o.link_bytes r j) ∙ omega (arith, law.link_length r j)

both_without : (b : Bool) (x : Mark) (k : List ℕ) (xs ys : List Mark) (ks js : List (List ℕ)) → length ks ≡ length xs → length js ≡ length ys → length (cond b ks (k ∷ js)) ≡ length (cond b xs (x ∷ ys))
both_without true x k xs ys ks js e f = e
both_without false x k xs ys ks js e f = ap suc f

length-keys_without : (m : Mark) (xs : List Mark) (ks : List (List ℕ)) → length ks ≡ length xs → length (keys_without m xs ks) ≡ length (without m xs)
unfolding keys_without without
length-keys_without m [] ks e = refl
length-keys_without m (x ∷ xs) [] e = absurd (omega arith)
length-keys_without m (x ∷ xs) (k ∷ ks) e =
    let tails : length ks ≡ length xs = omega arith in
    both_without (same_mark x m) x k xs (without m xs) ks (keys_without m xs ks) tails (length-keys_without m xs ks tails)

all-keys_without : (P : List ℕ → Type 0) (m : Mark) (xs : List Mark) (ks : List (List ℕ)) → All P ks → All P (keys_without m xs ks)
unfolding keys_without
all-keys_without P m [] ks h = tt
all-keys_without P m (x ∷ xs) [] h = tt
all-keys_without P m (x ∷ xs) (k ∷ ks) h = cond_both (same_mark x m) ks (k ∷ keys_without m xs ks) (All P) (λ _. h.1) (λ _. (h.0, all-keys_without P m xs ks h.1))

-- ### Marks put behind those of a side

-- further on, what could be put aside still can
aside-on : (drawn taken later : ℕ) → taken ≤ later → (m : Mark) → Aside drawn taken m → Aside drawn later m
aside-on drawn taken later h m a = record { old = a.old; parity = a.parity; passed = λ e. (let p = a.passed e in omega arith) }

-- and with the next key drawn, whatever was taken since
aside-next : (drawn taken later : ℕ) (m : Mark) → Aside drawn taken m → Aside (drawn + 2) later m
aside-next drawn taken later m a = record { old = omega (arith, a.old); parity = omega (arith, a.parity); passed = λ e. absurd (omega (arith, a.old)) }

-- a place of the link that the side takes on, from `taken` on, is above all that is put aside
below-place : (drawn taken l p : ℕ) (m : Mark) → l + 2 ≡ drawn → taken ≤ p → Aside drawn taken m → Below m (record { link = l; place = p })
below-place drawn taken l p m e h a = elim (cases_eq m.link l) [
  | inl same ↦ inr (same, (let q = a.passed (omega arith) in omega arith))
  | inr other ↦ inl (omega (arith, a.old))
]

-- ### The steps

module _ (o : Outside) (law : Lawful o) (who : Who) (h : Held) (v : Valid who h) where
  abbrev s : State
  s = h.state

  pub sent_valid : 0 < s.drawn → s.sent + 1 < 2 ^ 32 → Valid who (sent_on o h)
  sent_valid some next = record {
    counted = record { drawn = v.counted.drawn; sent = next; taken = v.counted.taken; before = v.counted.before; places = v.counted.places };
    sized = record { root = v.sized.root; sending = law.next_length h.sending; taking = v.sized.taking; half = v.sized.half; keys = v.sized.keys };
    in_step = v.in_step;
    few = v.few;
    sound = record {
      parity = v.sound.parity;
      begun = record {
        unsent = λ e. absurd (omega arith);
        untaken = λ e. (let u = v.sound.begun.untaken e in record { taken = u.taken; before = u.before; chain = u.chain; none = u.none });
        answered = v.sound.begun.answered;
        first = v.sound.begun.first;
      };
      rising = v.sound.rising;
      aside = v.sound.aside;
    };
  }

  module _ (p : Parts) where
    abbrev m : Message
    m = p.message

    pub in_turn_valid : m.mark.link + 2 ≡ s.drawn → s.taken ≤ m.mark.place → length s.skipped + book.passed s m ≤ 512 → m.mark.place + 1 < 2 ^ 32 → Valid who (held_in_turn o h p)
    in_turn_valid link on room next =
        let n : ℕ = book.passed s m in
        let new : List Mark = places m.mark.link s.taken n in
        let size = length-places m.mark.link s.taken n in
        let along = length_along o law n h.taking in
        let marks = length-append s.skipped new in
        let keys = length-append h.keys (keys_along o n h.taking) in
        record {
          counted = record {
            drawn = v.counted.drawn;
            sent = v.counted.sent;
            taken = next;
            before = v.counted.before;
            places = All-append (λ x. x.place < 2 ^ 32) s.skipped new v.counted.places (all-places (λ x. x.place < 2 ^ 32) m.mark.link s.taken n (λ q a b. omega arith));
          };
          sized = record {
            root = v.sized.root;
            sending = v.sized.sending;
            taking = walked_sized o law n h.taking;
            half = v.sized.half;
            keys = All-append (λ k. length k ≡ 32) h.keys (keys_along o n h.taking) v.sized.keys (along_sized o law n h.taking);
          };
          in_step = omega (arith, v.in_step);
          few = omega arith;
          sound = record {
            parity = v.sound.parity;
            begun = record {
              unsent = λ e. absurd (omega arith);
              untaken = λ e. absurd (omega arith);
              answered = λ _. omega arith;
              first = v.sound.begun.first;
            };
            rising = rising-append s.skipped new v.sound.rising (rising-places m.mark.link s.taken n)
                (All-weaker (Aside s.drawn s.taken) (λ x. All (Below x) new)
                (λ x a. all-places (Below x) m.mark.link s.taken n (λ q from to. below-place s.drawn s.taken m.mark.link q x link from a)) s.skipped v.sound.aside);
            aside = All-append (Aside s.drawn (m.mark.place + 1)) s.skipped new
                (All-weaker (Aside s.drawn s.taken) (Aside s.drawn (m.mark.place + 1)) (aside-on s.drawn s.taken (m.mark.place + 1) (omega arith)) s.skipped v.sound.aside)
                (all-places (Aside s.drawn (m.mark.place + 1)) m.mark.link s.taken n (λ q from to. record { old = omega arith; parity = omega arith; passed = λ e. omega arith }));
          };
        }

    pub recalled_valid : Valid who (held_recalled h p)
    recalled_valid = record {
      counted = record {
        drawn = v.counted.drawn;
        sent = v.counted.sent;
        taken = v.counted.taken;
        before = v.counted.before;
        places = all_without (λ x. x.place < 2 ^ 32) m.mark s.skipped v.counted.places;
      };
      sized = record {
        root = v.sized.root;
        sending = v.sized.sending;
        taking = v.sized.taking;
        half = v.sized.half;
        keys = all-keys_without (λ k. length k ≡ 32) m.mark s.skipped h.keys v.sized.keys;
      };
      in_step = length-keys_without m.mark s.skipped h.keys v.in_step;
      few = omega (arith, v.few, without-few m.mark s.skipped);
      sound = record {
        parity = v.sound.parity;
        begun = record {
          unsent = λ e. (let u = v.sound.begun.unsent e in record { sent = u.sent; chain = u.chain });
          untaken = λ e. (
              let u = v.sound.begun.untaken e in
              record { taken = u.taken; before = u.before; chain = u.chain; none = ap (without m.mark) u.none ∙ without-none m.mark }
              );
          answered = v.sound.begun.answered;
          first = v.sound.begun.first;
        };
        rising = rising-without m.mark s.skipped v.sound.rising;
        aside = all_without (Aside s.drawn s.taken) m.mark s.skipped v.sound.aside;
      };
    }

    -- what is left of the old link, if there is one
    left_old : (q : ℕ) → s.taken ≤ q → q < s.taken + book.left s m → (2 ≤ s.drawn) × (q < m.before)
    left_old q from to = elim (cases_Bool (leb 2 s.drawn)) [
      | inl t ↦ let two = leb-true 2 s.drawn t in let e = cond-true (leb 2 s.drawn) (m.before - s.taken) 0 t in (two, omega arith)
      | inr f ↦ let e = cond-false (leb 2 s.drawn) (m.before - s.taken) 0 f in absurd (omega arith)
    ]

    module _ (link : m.mark.link ≡ s.drawn) (room : length s.skipped + book.left s m + m.mark.place ≤ 512) (next : s.drawn + 2 < 2 ^ 32) (before : m.before < 2 ^ 32) where
      abbrev old : List Mark
      old = places (s.drawn - 2) s.taken (book.left s m)

      abbrev new : List Mark
      new = places m.mark.link 0 m.mark.place

      abbrev later : ℕ
      later = m.mark.place + 1

      old_aside : All (Aside (s.drawn + 2) later) old
      old_aside = all-places (Aside (s.drawn + 2) later) (s.drawn - 2) s.taken (book.left s m) (λ q from to.
          let two = left_old q from to in record { old = omega arith; parity = omega arith; passed = λ e. absurd (omega arith) })

      both_aside : All (Aside (s.drawn + 2) later) (s.skipped ++ old)
      both_aside = All-append (Aside (s.drawn + 2) later) s.skipped old
          (All-weaker (Aside s.drawn s.taken) (Aside (s.drawn + 2) later) (aside-next s.drawn s.taken later) s.skipped v.sound.aside) old_aside

      both_low : All (λ x. x.link < s.drawn) (s.skipped ++ old)
      both_low = All-append (λ x. x.link < s.drawn) s.skipped old
          (All-weaker (Aside s.drawn s.taken) (λ x. x.link < s.drawn) (λ x a. omega (arith, a.old)) s.skipped v.sound.aside)
          (all-places (λ x. x.link < s.drawn) (s.drawn - 2) s.taken (book.left s m) (λ q from to. let two = left_old q from to in omega arith))

      both_rising : Rising (s.skipped ++ old)
      both_rising = rising-append s.skipped old v.sound.rising (rising-places (s.drawn - 2) s.taken (book.left s m))
          (All-weaker (Aside s.drawn s.taken) (λ x. All (Below x) old)
          (λ x a. all-places (Below x) (s.drawn - 2) s.taken (book.left s m) (λ q from to.
          let two = left_old q from to in below-place s.drawn s.taken (s.drawn - 2) q x (omega arith) from a)) s.skipped v.sound.aside)

      all_rising : Rising (s.skipped ++ old ++ new)
      all_rising = rising-append (s.skipped ++ old) new both_rising (rising-places m.mark.link 0 m.mark.place)
          (All-weaker (λ x. x.link < s.drawn) (λ x. All (Below x) new) (λ x low. all-places (Below x) m.mark.link 0 m.mark.place (λ q from to. inl (omega arith))) (s.skipped ++ old) both_low)

      all_counted : All (λ x. x.place < 2 ^ 32) (s.skipped ++ old ++ new)
      all_counted = All-append (λ x. x.place < 2 ^ 32) (s.skipped ++ old) new
          (All-append (λ x. x.place < 2 ^ 32) s.skipped old v.counted.places
          (all-places (λ x. x.place < 2 ^ 32) (s.drawn - 2) s.taken (book.left s m) (λ q from to. let two = left_old q from to in omega arith)))
          (all-places (λ x. x.place < 2 ^ 32) m.mark.link 0 m.mark.place (λ q from to. omega arith))

      marks_few : length (s.skipped ++ old ++ new) ≡ length s.skipped + book.left s m + m.mark.place
      marks_few = length-append (s.skipped ++ old) new
          ∙ omega (arith, length-append s.skipped old, length-places (s.drawn - 2) s.taken (book.left s m), length-places m.mark.link 0 m.mark.place)

      pub new_valid : (fresh : Draw) (j k : List ℕ) → Valid who (held_new o fresh h p j k)
      new_valid fresh j k =
          let link' : List ℕ = o.link_bytes h.root j in
          let ks : List (List ℕ) = keys_along o (book.left s m) h.taking in
          let js : List (List ℕ) = keys_along o m.mark.place (chain_part link') in
          record {
            counted = record { drawn = next; sent = omega arith; taken = omega arith; before = v.counted.sent; places = all_counted };
            sized = record {
              root = root_sized o law (root_part link') k;
              sending = chain_sized o law (root_part link') k;
              taking = walked_sized o law m.mark.place (chain_part link');
              half = law.half_length fresh;
              keys = All-append (λ x. length x ≡ 32) (h.keys ++ ks) js
                  (All-append (λ x. length x ≡ 32) h.keys ks v.sized.keys (along_sized o law (book.left s m) h.taking)) (along_sized o law m.mark.place (chain_part link'));
            };
            in_step = length-append (h.keys ++ ks) js
                ∙ omega (arith, length-append h.keys ks, length_along o law (book.left s m) h.taking, length_along o law m.mark.place (chain_part link'), marks_few, v.in_step);
            few = omega (arith, marks_few);
            sound = record {
              parity = omega (arith, v.sound.parity);
              begun = record {
                unsent = λ e. absurd (omega arith);
                untaken = λ e. absurd (omega arith);
                answered = λ _. omega arith;
                first = λ e. (let z : s.drawn ≡ 0 = omega arith in (v.sound.begun.unsent z).sent);
              };
              rising = all_rising;
              aside = All-append (Aside (s.drawn + 2) later) (s.skipped ++ old) new both_aside
                  (all-places (Aside (s.drawn + 2) later) m.mark.link 0 m.mark.place (λ q from to. record { old = omega arith; parity = omega arith; passed = λ e. omega arith }));
            };
          }
