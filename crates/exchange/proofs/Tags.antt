-- Sealing and opening: one undoes the other, and the tag is over all that stands before it.
use Rattle.std.proofs.Common.{◌≡◌, ℕ, ◌+◌, ◌-◌, Bool, true, false, cond, eqb, List, [], ◌∷◌, ◌++◌, length, take, drop, Some, None, sym, refl, ap, ◌∙◌, append_assoc, arith, length-append, length-drop, take-append-drop, length-take-le, take_at, take-add, drop_at}
use Rattle.std.proofs.lemmas.List.{get_or-take}
use Rattle.std.proofs.lemmas.Bool.{and_parts, and_from, eqb-true, eq-eqb, cond-true}
use Rattle.exchange.specs.Outside.{Outside, Lawful, seal, unseal, same_bytes, text_part, tag_part}
use Rattle.exchange.specs.Wire.{parts_of}
use Rattle.exchange.specs.Held.{Held}
use Rattle.exchange.specs.Exchanges.{next_header, message_bytes, text_under}
use Rattle.exchange.specs.Tagged.{before_tag, Inside, Tagged}
use Rattle.exchange.proofs.Wires.{read_well, Well, well-so}

-- ### The test of bytes

pub same_bytes_lem : (xs ys : List ℕ) → same_bytes xs ys ≡ true → xs ≡ ys
unfolding same_bytes
same_bytes_lem [] [] h = refl
same_bytes_lem [] (y ∷ ys) h = let z : ◌≡◌ {A = ℕ} 0 1 = cc in absurd (omega arith)
same_bytes_lem (x ∷ xs) [] h = let z : ◌≡◌ {A = ℕ} 0 1 = cc in absurd (omega arith)
same_bytes_lem (x ∷ xs) (y ∷ ys) h =
    let t = and_parts (eqb x y) (same_bytes xs ys) h in
    let e = eqb-true x y t.0 in
    let r = same_bytes_lem xs ys t.1 in
    λ i. e i ∷ r i

pub bytes_same : (xs : List ℕ) → same_bytes xs xs ≡ true
unfolding same_bytes
bytes_same [] = refl
bytes_same (x ∷ xs) = and_from (eqb x x) (same_bytes xs xs) (eq-eqb x x refl) (bytes_same xs)

-- ### Opening undoes sealing

module _ (o : Outside) (k : Lawful o) (key header text : List ℕ) where
  pub seal_length : length (seal o key header text) ≡ length text + 16
  unfolding seal
  seal_length = omega (arith, length-append (o.cover key text) (o.tag key (header ++ o.cover key text)), k.cover_length key text, k.tag_length key (header ++ o.cover key text))

  pub unseal_seal : unseal o key header (seal o key header text) ≡ Some text
  unfolding seal unseal
  unseal_seal =
      let c : List ℕ = o.cover key text in
      let t : List ℕ = o.tag key (header ++ c) in
      let n : length c ≡ length (c ++ t) - 16 = omega (arith, length-append c t, k.tag_length key (header ++ c)) in
      let a = take_at c t (length (c ++ t) - 16) n in
      let b = drop_at c t (length (c ++ t) - 16) n in
      let same : same_bytes (tag_part (c ++ t)) (o.tag key (header ++ text_part (c ++ t))) ≡ true = rw (a, b) (bytes_same t) in
      cond-true (same_bytes (tag_part (c ++ t)) (o.tag key (header ++ text_part (c ++ t)))) _ _ same ∙ ap Some (ap (o.cover key) a ∙ k.cover_twice key text)

-- ### The tag's place

-- what opens has its tag
pub unsealed_tag : (o : Outside) (key header body text : List ℕ) → unseal o key header body ≡ Some text → tag_part body ≡ o.tag key (header ++ text_part body)
unfolding unseal
unsealed_tag o key header body text h = go (same_bytes (tag_part body) (o.tag key (header ++ text_part body))) refl h
  where
    go : (b : Bool) → same_bytes (tag_part body) (o.tag key (header ++ text_part body)) ≡ b → cond b (Some (o.cover key (text_part body))) None ≡ Some text →
        tag_part body ≡ o.tag key (header ++ text_part body)
    go true e r = same_bytes_lem (tag_part body) _ e
    go false e r = let z : ◌≡◌ {A = ℕ} 0 1 = cc in absurd (omega arith)

written : (o : Outside) (h : Held) (text : List ℕ) →
    let key : List ℕ = o.key_bytes h.sending in
    let before : List ℕ = next_header h (length text) ++ o.cover key text in
    message_bytes o h text ≡ before ++ o.tag key before
unfolding message_bytes seal
written o h text = sym (append_assoc (next_header h (length text)) (o.cover (o.key_bytes h.sending) text) _)

module _ (bytes : List ℕ) (w : Well bytes) where
  -- the header and the covered text are all before the tag
  before_is : take 47 bytes ++ text_part (drop 47 bytes) ≡ before_tag bytes
  before_is =
      let n : length bytes - 16 ≡ 47 + (length (drop 47 bytes) - 16) = omega (arith, length-drop 47 bytes, w.size) in
      sym (ap (λ i. take i bytes) n ∙ take-add 47 (length (drop 47 bytes) - 16) bytes)

  whole_is : bytes ≡ take 47 bytes ++ (text_part (drop 47 bytes) ++ tag_part (drop 47 bytes))
  whole_is = sym (ap (λ xs. take 47 bytes ++ xs) (take-append-drop (length (drop 47 bytes) - 16) (drop 47 bytes)) ∙ take-append-drop 47 bytes)

  opened_tag : (o : Outside) (key text : List ℕ) → text_under o key (parts_of bytes) ≡ Some text → bytes ≡ before_tag bytes ++ o.tag key (before_tag bytes)
  opened_tag o key text h =
      let t = unsealed_tag o key (take 47 bytes) (drop 47 bytes) text h in
      let a = append_assoc (take 47 bytes) (text_part (drop 47 bytes)) (tag_part (drop 47 bytes)) in
      whole_is ∙ (sym a ∙ λ i. before_is i ++ (t ∙ ap (o.tag key) before_is) i)

  well_inside : Inside bytes (parts_of bytes)
  well_inside = record {
    whole = whole_is;
    header_length = length-take-le 47 bytes (omega (arith, w.size));
    text_length =
        length-take-le (length (drop 47 bytes) - 16) (drop 47 bytes) (omega arith)
        ∙ omega (arith, length-drop 47 bytes, w.size, get_or-take 47 bytes 45 0 (omega arith), get_or-take 47 bytes 46 0 (omega arith));
    tag_length = omega (arith, length-drop (length (drop 47 bytes) - 16) (drop 47 bytes), length-drop 47 bytes, w.size);
  }

pub tagged : Tagged
tagged = record {
  tags = λ o. record {
    written = written o;
    opened = λ bytes key text p r h. let e = read_well bytes p r in opened_tag bytes (well-so bytes e.0) o key text (rw e.1 at h);
  };
  inside = λ bytes p r. let e = read_well bytes p r in rw e.1 (well_inside bytes (well-so bytes e.0));
}
