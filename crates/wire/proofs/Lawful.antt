-- The laws of reading, by those of the exchange.
use Rattle.std.proofs.Common.{◌≡◌, ℕ, ◌+◌, ◌-◌, ◌<◌, ◌≤◌, true, List, [], ◌∷◌, ◌++◌, length, get_or, take, drop, Some, None, Ok, Err, Result, sym, refl, ap, ◌∙◌, subst, inl, inr, arith, length-append, length-drop}
use Rattle.std.proofs.ByRecursion.{All-from_get_or}
use borrow.Author.Tests.{both_ways}
use Rattle.std.specs.List.{AllByRecursion as All}
use Rattle.std.proofs.lemmas.Bool.{cases_Bool, cond-true, cond-false, and_from, eq-eqb, le-leb}
use Rattle.std.proofs.lemmas.List.{append_assoc, take_all, take_at, length-take-le}
use Rattle.ratchet.specs.declared.types.Refusal.{Refusal}
use Rattle.ratchet.specs.declared.types.Refusal.TheVariants.{Malformed}
use Rattle.exchange.specs.Wire as exchange
use Rattle.exchange.proofs.Wires.{Well, wire_laws, header-length, read_well, well-so}
use Rattle.wire.specs.declared.header.Header.{Header}
use Rattle.wire.specs.Layout.{header_bytes, header_of, reading, parts_of}
use Rattle.wire.specs.Laws.{Writable, Spells, Reads}

-- ### Reading

-- either the bytes are a message, and read, or they are not, and refused
pub data Either (b : List ℕ) : Type 0 where
  whole : Well b → reading b ≡ Ok (header_of b) → exchange.read_message b ≡ Some (parts_of (header_of b) b) → Either b
  other : (Well b → ⊥) → reading b ≡ Err Malformed → exchange.read_message b ≡ None → Either b

well : (b : List ℕ) → Well b → exchange.well_formed b ≡ true
well b w = and_from _ _ (eq-eqb _ _ w.first) (and_from _ _ (eq-eqb _ _ w.size) (le-leb _ _ w.short))

pub either : (b : List ℕ) → Either b
unfolding reading exchange.read_message
either b = elim (cases_Bool (exchange.well_formed b)) [
  | inl is ↦ whole (well-so b is) (cond-true (exchange.well_formed b) (Ok (header_of b)) (Err Malformed) is) (cond-true (exchange.well_formed b) (Some (exchange.parts_of b)) None is)
  | inr isn ↦ other (λ w. both_ways (exchange.well_formed b) isn (well b w)) (cond-false (exchange.well_formed b) (Ok (header_of b)) (Err Malformed) isn) (cond-false (exchange.well_formed b) (Some (exchange.parts_of b)) None isn)
]

pub reads_ok : (b : List ℕ) → Well b → reading b ≡ Ok (header_of b)
unfolding reading
reads_ok b w = cond-true (exchange.well_formed b) (Ok (header_of b)) (Err Malformed) (well b w)

pub reads_none : (b : List ℕ) → (Well b → ⊥) → reading b ≡ Err Malformed
reads_none b none = elim (either b) [ whole w e p ↦ absurd (none w) | other x e p ↦ e ]

-- what is read could have been written
pub readable : (b : List ℕ) → All (λ x. x < 256) b → Well b → exchange.read_message b ≡ Some (exchange.parts_of b) → Writable (header_of b) × Spells b (header_of b)
readable b fit w e =
    let m = wire_laws.made b (exchange.parts_of b) fit e in
    let size : ◌≡◌ {A = ℕ} (length (drop 47 b) - 16) (exchange.two_at b 45) = omega (arith, length-drop 47 b, w.size) in (
      record { link = m.writable.link; place = m.writable.place; before = m.writable.before; half = m.writable.half_length; text = omega (arith, w.short) },
      record {
        behind = drop 47 b;
        all = m.whole ∙ ap (λ (x : List ℕ). x ++ drop 47 b) (m.header ∙ ap (exchange.header_bytes (exchange.parts_of b).message (exchange.parts_of b).half) size);
        long = omega (arith, length-drop 47 b, w.size);
        short = w.short;
      },
    )

-- what could have been written is read
same : (b header behind : List ℕ) (h : Header) → record { header = header; message = h.message; half = h.half.0; body = behind } ≡ exchange.parts_of b → exchange.two_at b 45 ≡ h.length → header_of b ≡ h
same b header behind h e size =
    let read = sym e in
    λ i. record { message = (read i).message; half = record { 0 = (read i).half }; length = size i }

pub back : (h : Header) (behind : List ℕ) → Writable h → length behind ≡ h.length + 16 → h.length ≤ 1000 → reading (header_bytes h ++ behind) ≡ Ok h
back h behind w long short =
    let sized : ◌≡◌ {A = ℕ} (length behind - 16) h.length = omega arith in
    let r = subst (λ (n : ℕ). exchange.read_message (exchange.header_bytes h.message h.half.0 n ++ behind) ≡ Some (record { header = exchange.header_bytes h.message h.half.0 n; message = h.message; half = h.half.0; body = behind }))
    sized (wire_laws.round h.message h.half.0 behind (record { link = w.link; place = w.place; before = w.before; half_length = w.half; tagged = omega arith; short = omega arith })).back in
    let is = read_well (header_bytes h ++ behind) _ r in
    let shape = well-so (header_bytes h ++ behind) is.0 in
    let size : exchange.two_at (header_bytes h ++ behind) 45 ≡ h.length =
    omega (arith, shape.size, length-append (header_bytes h) behind, header-length h.message h.half.0 h.length w.half, long) in
    reads_ok (header_bytes h ++ behind) shape ∙ ap Ok (same (header_bytes h ++ behind) (header_bytes h) behind h is.1 size)

-- ### The laws

lawful : (b : List ℕ) → All (λ x. x < 256) b → Either b → Reads b (reading b)
lawful b fit (whole w e p) =
    let r = readable b fit w p in
    record {
      written = λ h is. let same : header_of b ≡ h = cc in subst (λ (x : Header). Writable x × Spells b x) same r;
      back = λ h w s. ap reading s.all ∙ back h s.behind w s.long s.short;
      refused = λ none. absurd (none (header_of b) r.0 r.1);
    }
lawful b fit (other w e p) = record {
  written = λ h is. absurd (let z : ◌≡◌ {A = ℕ} 0 1 = cc in omega arith);
  back = λ h w s. ap reading s.all ∙ back h s.behind w s.long s.short;
  refused = λ none. e;
}

pub reads : (b : List ℕ) → ((i : ℕ) → get_or b i 0 < 256) → (r : Result Header Refusal) → r ≡ reading b → Reads b r
reads b fit r e = subst (Reads b) (sym e) (lawful b (All-from_get_or (λ x. x < 256) b 0 (λ i h. fit i)) (either b))

-- ### In the exchange's words

pub was_read : (b : List ℕ) (h : Header) → Ok h ≡ reading b → (exchange.read_message b ≡ Some (parts_of h b)) × (63 ≤ length b) × (length b ≤ 1063)
was_read b h e = elim (either b) [
  | whole w r p ↦
      let same : header_of b ≡ h = cc in
      (p ∙ ap (λ (x : Header). Some (parts_of x b)) same, omega (arith, w.size), omega (arith, w.size, w.short))
  | other w r p ↦ absurd (let z : ◌≡◌ {A = ℕ} 0 1 = cc in omega arith)
]

pub not_read : (b : List ℕ) (why : Refusal) → Err why ≡ reading b → (exchange.read_message b ≡ None) × (why ≡ Malformed)
not_read b why e = elim (either b) [
  | whole w r p ↦ absurd (let z : ◌≡◌ {A = ℕ} 0 1 = cc in omega arith)
  | other w r p ↦ (p, let same : why ≡ Malformed = cc in same)
]

-- ### Writing

-- what stands up to the end of a part that was put
front : (xs part ys : List ℕ) (at n : ℕ) → ys ≡ take at xs ++ (part ++ drop (at + length part) xs) → length part ≡ n → at ≤ length xs → take (at + n) ys ≡ take at xs ++ part
front xs part ys at n e long room =
    let sized : length (take at xs ++ part) ≡ at + n = length-append (take at xs) part ∙ omega (arith, length-take-le at xs room) in
    ap (take (at + n)) (e ∙ sym (append_assoc (take at xs) part (drop (at + length part) xs))) ∙ take_at (take at xs ++ part) (drop (at + length part) xs) (at + n) sized

-- six parts, each put behind the one before
module _ (h : Header) (half : length h.half.0 ≡ 32) (z a b c d e f l p n t : List ℕ)
    (il : l ≡ exchange.four_bytes h.message.mark.link) (ip : p ≡ exchange.four_bytes h.message.mark.place) (in' : n ≡ exchange.four_bytes h.message.before) (it : t ≡ exchange.two_bytes h.length)
    (la : length a ≡ 47) (lb : length b ≡ 47) (lc : length c ≡ 47) (ld : length d ≡ 47) (le : length e ≡ 47) (lf : length f ≡ 47)
    (ea : a ≡ take 0 z ++ ((82 ∷ []) ++ drop 1 z))
    (eb : b ≡ take 1 a ++ (l ++ drop (1 + length l) a))
    (ec : c ≡ take 5 b ++ (p ++ drop (5 + length p) b))
    (ed : d ≡ take 9 c ++ (n ++ drop (9 + length n) c))
    (ee : e ≡ take 13 d ++ (h.half.0 ++ drop (13 + length h.half.0) d))
    (ef : f ≡ take 45 e ++ (t ++ drop (45 + length t) e)) where
  pub put_together : f ≡ header_bytes h
  unfolding exchange.header_bytes
  put_together =
      let x1 = front z (82 ∷ []) a 0 1 ea refl (omega arith) in
      let x5 = front a l b 1 4 eb (ap length il) (omega arith) in
      let x9 = front b p c 5 4 ec (ap length ip) (omega arith) in
      let x13 = front c n d 9 4 ed (ap length in') (omega arith) in
      let x45 = front d h.half.0 e 13 32 ee half (omega arith) in
      let x47 = front e t f 45 2 ef (ap length it) (omega arith) in
      let all : take 47 f ≡ f = take_all 47 f (omega arith) in
      cc
