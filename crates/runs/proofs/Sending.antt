-- A side sends, or draws its next key: what holds of the messages that it sends goes on to hold.
use Rattle.std.proofs.Common.{◌≡◌, ℕ, ◌+◌, ◌^◌, ◌<◌, true, sym, refl, ap, ◌∙◌, inl, inr, arith}
use Rattle.ratchet.specs.declared.types.Message.{Message}
use Rattle.ratchet.specs.Steps.{message, sends, turned}
use Rattle.runs.specs.World.{Party, among, perform, write, seal, leave, keep}
use Rattle.runs.proofs.Messages.{among-before, among-last, among_cases, none-twice_more}
use Rattle.runs.proofs.Way.{Taker, sender, Sealed, Sealing, Way}

-- the side after each effect of a send
abbrev pub wrote : Party → Party
wrote p = perform (write (sends p.side)) p

abbrev pub sealed : Party → Party
sealed p = perform (seal (message p.side)) (wrote p)

abbrev pub left : Party → Party
left p = perform (leave (message p.side)) (sealed p)

module _ (r : ℕ) (p : Party) (s : Sealing r (sender p)) where
  -- ### The three effects of a send

  wrote_each : (x : Message) → Sealed r (sender p) x → Sealed r (sender (wrote p)) x
  wrote_each x h = record {
    parity = h.parity;
    low = h.low;
    newest = λ e. let n = h.newest e in (omega (arith, n.0), n.1);
    older = h.older;
    counted = h.counted;
  }

  pub wrote_sealing : Sealing r (sender (wrote p))
  wrote_sealing = record { parity = s.parity; each = λ x a. wrote_each x (s.each x a); unique = s.unique; once = s.once; left = s.left }

  -- the next message's mark is that of none sealed before
  fresh : 0 < p.side.drawn → (x : Message) → among x p.sealed ≡ true → x.mark ≡ (message p.side).mark → ⊥
  fresh d x a e = let l = ap (λ k. k.link) e in let q = ap (λ k. k.place) e in omega (arith, ((s.each x a).newest (omega arith)).0)

  next_sealed : 0 < p.side.drawn → p.side.sent + 1 < 2 ^ 32 → Sealed r (sender (sealed p)) (message p.side)
  next_sealed d f = record {
    parity = omega (arith, s.parity);
    low = omega arith;
    newest = λ e. (omega arith, refl);
    older = λ e. absurd (omega arith);
    counted = f;
  }

  sealed_unique : 0 < p.side.drawn → (x y : Message) → among x (sealed p).sealed ≡ true → among y (sealed p).sealed ≡ true → x.mark ≡ y.mark → x ≡ y
  sealed_unique d x y a b e = elim (among_cases x (message p.side) p.sealed a) [
    | inl ax ↦ elim (among_cases y (message p.side) p.sealed b)
        [ inl ay ↦ s.unique x y ax ay e | inr ey ↦ absurd (fresh d x ax (e ∙ sym (ap (λ k. k.mark) ey))) ]
    | inr ex ↦ elim (among_cases y (message p.side) p.sealed b)
        [ inl ay ↦ absurd (fresh d y ay (sym (ap (λ k. k.mark) ex ∙ e))) | inr ey ↦ sym ex ∙ ey ]
  ]

  pub sealed_sealing : 0 < p.side.drawn → p.side.sent + 1 < 2 ^ 32 → Sealing r (sender (sealed p))
  sealed_sealing d f = record {
    parity = s.parity;
    each = λ x a. elim (among_cases x (message p.side) p.sealed a) [
      | inl ax ↦ let h = wrote_each x (s.each x ax) in record { parity = h.parity; low = h.low; newest = h.newest; older = h.older; counted = h.counted }
      | inr ex ↦ rw (sym ex) (next_sealed d f)
    ];
    unique = sealed_unique d;
    once = none-twice_more p.sealed (message p.side) s.once (fresh d);
    left = λ x a. among-before x (message p.side) p.sealed (s.left x a);
  }

  pub left_sealing : 0 < p.side.drawn → p.side.sent + 1 < 2 ^ 32 → Sealing r (sender (left p))
  left_sealing d f = let h = sealed_sealing d f in record {
    parity = h.parity;
    each = λ x a. let t = h.each x a in record { parity = t.parity; low = t.low; newest = t.newest; older = t.older; counted = t.counted };
    unique = h.unique;
    once = h.once;
    left = λ x a. elim (among_cases x (message p.side) p.left a)
        [ inl ax ↦ h.left x ax | inr ex ↦ rw (sym ex) (among-last (message p.side) p.sealed) ];
  }

  -- ### A new key

  turned_each : (m x : Message) → Sealed r (sender p) x → Sealed r (sender (perform (keep (turned p.side m) m) p)) x
  turned_each m x h = record {
    parity = h.parity;
    low = omega (arith, h.low);
    newest = λ e. absurd (omega (arith, h.low));
    older = λ e. (h.newest (omega arith)).0;
    counted = h.counted;
  }

  pub turned_sealing : (m : Message) → Sealing r (sender (perform (keep (turned p.side m) m) p))
  turned_sealing m = record { parity = omega (arith, s.parity); each = λ x a. turned_each m x (s.each x a); unique = s.unique; once = s.once; left = s.left }

-- ### The whole way

module _ (r : ℕ) (p : Party) (i : Taker) (w : Way r (sender p) i) where
  pub way_wrote : Way r (sender (wrote p)) i
  way_wrote = record {
    sealing = wrote_sealing r p w.sealing;
    opening = w.opening;
    near = w.near;
    caught = λ e. omega (arith, w.caught e);
    genuine = w.genuine;
    settled = w.settled;
  }

  pub way_sealed : 0 < p.side.drawn → p.side.sent + 1 < 2 ^ 32 → Way r (sender (sealed p)) i
  way_sealed d f = record {
    sealing = sealed_sealing r p w.sealing d f;
    opening = w.opening;
    near = w.near;
    caught = λ e. omega (arith, w.caught e);
    genuine = w.genuine;
    settled = w.settled;
  }

  -- the next message is still ahead of the taker
  pub way_left : 0 < p.side.drawn → p.side.sent + 1 < 2 ^ 32 → Way r (sender (left p)) i
  way_left d f = record {
    sealing = left_sealing r p w.sealing d f;
    opening = w.opening;
    near = w.near;
    caught = λ e. omega (arith, w.caught e);
    genuine = λ x a. among-before x (message p.side) p.left (w.genuine x a);
    settled = λ x a b. elim (among_cases x (message p.side) p.left a) [
      | inl ax ↦ w.settled x ax b
      | inr ex ↦
          let l = ap (λ k. k.mark.link) ex in
          let q = ap (λ k. k.mark.place) ex in
          absurd (elim b [ inl u ↦ omega (arith, w.near) | inr u ↦ omega (arith, w.near, w.caught (omega arith)) ])
    ];
  }

  pub way_turned : (m : Message) → i.drawn ≡ p.side.drawn + 1 → Way r (sender (perform (keep (turned p.side m) m) p)) i
  way_turned m e = record {
    sealing = turned_sealing r p w.sealing m;
    opening = w.opening;
    near = inr (omega arith);
    caught = λ d. absurd (omega arith);
    genuine = w.genuine;
    settled = w.settled;
  }
