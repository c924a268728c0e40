-- What is written is read back: texts byte by byte, numbers digit by digit.
use Rattle.std.proofs.Common.{◌≡◌, ℕ, zero, suc, ◌+◌, ◌-◌, ◌*◌, ◌/◌, ◌%◌, ◌^◌, ◌<◌, Bool, true, false, cond, eqb, ltb, leb, ◌⊎◌, List, [], ◌∷◌, ◌++◌, Some, None, fold, Option, sym, refl, ap, ◌∙◌, inl, inr, append_assoc, append-nil, arith}
use Rattle.std.specs.List.{AllByRecursion as All}
use Rattle.std.proofs.lemmas.Fmt.{decimal_by_steps}
use Rattle.std.proofs.lemmas.List.Sums.{fold_push}
use Rattle.std.proofs.lemmas.Bool.{or_parts, cond-true, cond-false, lt-ltb, le-leb, and_from, cases_Bool}
use Rattle.notation.specs.declared.text.Escape.TheVariants.{Plain, Slash, Hex}
use Rattle.notation.specs.Escapes.{Scan, scan, escaped, escaped_byte, hidden, hex_digit, hex_value, after_digit, after_last, last_digit, ended}
use Rattle.notation.specs.Decimals.{digit_after, small, number_of}
use Rattle.notation.specs.Laws.{TextsReadBack, NumbersReadBack}

-- a hexadecimal digit is read as what it was written for
hex_back : (n : ℕ) → n < 16 → hex_value (hex_digit n) ≡ Some n
hex_back zero h = refl
hex_back (suc zero) h = refl
hex_back (suc (suc zero)) h = refl
hex_back (suc (suc (suc zero))) h = refl
hex_back (suc (suc (suc (suc zero)))) h = refl
hex_back (suc (suc (suc (suc (suc zero))))) h = refl
hex_back (suc (suc (suc (suc (suc (suc zero)))))) h = refl
hex_back (suc (suc (suc (suc (suc (suc (suc zero))))))) h = refl
hex_back (suc (suc (suc (suc (suc (suc (suc (suc zero)))))))) h = refl
hex_back (suc (suc (suc (suc (suc (suc (suc (suc (suc zero))))))))) h = refl
hex_back (suc (suc (suc (suc (suc (suc (suc (suc (suc (suc zero)))))))))) h = refl
hex_back (suc (suc (suc (suc (suc (suc (suc (suc (suc (suc (suc zero))))))))))) h = refl
hex_back (suc (suc (suc (suc (suc (suc (suc (suc (suc (suc (suc (suc zero)))))))))))) h = refl
hex_back (suc (suc (suc (suc (suc (suc (suc (suc (suc (suc (suc (suc (suc zero))))))))))))) h = refl
hex_back (suc (suc (suc (suc (suc (suc (suc (suc (suc (suc (suc (suc (suc (suc zero)))))))))))))) h = refl
hex_back (suc (suc (suc (suc (suc (suc (suc (suc (suc (suc (suc (suc (suc (suc (suc zero))))))))))))))) h = refl
hex_back (suc (suc (suc (suc (suc (suc (suc (suc (suc (suc (suc (suc (suc (suc (suc (suc n)))))))))))))))) h = absurd (omega arith)

-- two digits behind \x
escape-back : (b : ℕ) → b < 256 → (t rest : List ℕ) →
    fold scan (record { escape = Hex; text = t }) (hex_digit (b / 16) ∷ hex_digit (b % 16) ∷ rest) ≡ fold scan (record { escape = Plain; text = t ++ b ∷ [] }) rest
escape-back b h t rest =
    let high = hex_back (b / 16) (omega arith) in
    let low = hex_back (b % 16) (omega arith) in
    let value : (b / 16 * 16 + b % 16) % 256 ≡ b = omega arith in
    ap (λ (o : Option ℕ). fold scan (record { escape = after_digit o; text = t ++ [] }) (hex_digit (b % 16) ∷ rest)) high
    ∙ (ap (λ (o : Option ℕ). fold scan (record { escape = after_last o; text = t ++ [] ++ last_digit (b / 16) o }) rest) low
    ∙ (ap (λ (l : List ℕ). fold scan (record { escape = Plain; text = l ++ ((b / 16 * 16 + b % 16) % 256) ∷ [] }) rest) (append-nil t)
    ∙ ap (λ (x : ℕ). fold scan (record { escape = Plain; text = t ++ x ∷ [] }) rest) value))

byte-back : (b : ℕ) → b < 256 → (t rest : List ℕ) →
    fold scan (record { escape = Plain; text = t }) (escaped_byte b ++ rest) ≡ fold scan (record { escape = Plain; text = t ++ b ∷ [] }) rest
byte-back b h t rest = go (cases_Bool (hidden b))
  where
    go : (hidden b ≡ true) ⊎ (hidden b ≡ false) →
        fold scan (record { escape = Plain; text = t }) (escaped_byte b ++ rest) ≡ fold scan (record { escape = Plain; text = t ++ b ∷ [] }) rest
    go (inl e) =
        ap (λ (l : List ℕ). fold scan (record { escape = Plain; text = t }) (l ++ rest)) (cond-true (hidden b) _ _ e)
        ∙ (ap (λ (l : List ℕ). fold scan (record { escape = Hex; text = l ++ [] }) (hex_digit (b / 16) ∷ hex_digit (b % 16) ∷ rest)) (append-nil t)
        ∙ (ap (λ (l : List ℕ). fold scan (record { escape = Hex; text = l }) (hex_digit (b / 16) ∷ hex_digit (b % 16) ∷ rest)) (append-nil t) ∙ escape-back b h t rest))
    go (inr e) =
        let no = (or_parts (eqb b 127) (eqb b 92) (or_parts (ltb b 32) _ e).1).1 in
        ap (λ (l : List ℕ). fold scan (record { escape = Plain; text = t }) (l ++ rest)) (cond-false (hidden b) _ _ e)
        ∙ ap (λ (x : Bool). fold scan (record { escape = cond x Slash Plain; text = t ++ cond x [] (b ∷ []) }) rest) no

scan-back : (text t : List ℕ) → All (λ b. b < 256) text → fold scan (record { escape = Plain; text = t }) (escaped text) ≡ record { escape = Plain; text = t ++ text }
scan-back [] t h = λ i. record { escape = Plain; text = sym (append-nil t) i }
scan-back (b ∷ text) t h =
    byte-back b h.0 t (escaped text) ∙ (scan-back text (t ++ b ∷ []) h.1 ∙ λ i. record { escape = Plain; text = append_assoc t (b ∷ []) text i })

pub texts-read_back : TextsReadBack
texts-read_back text h = ap (λ (s : Scan). ended s.escape s.text) (scan-back text [] h)

-- one digit more
digit_back : (n : ℕ) → n < 2 ^ 32 → (m d : ℕ) → d < 10 → m * 10 + d ≡ n → digit_after (Some m) (48 + d) ≡ Some n
digit_back n h m d k e =
    let less : 48 + d - 48 ≡ d = omega arith in
    let value : m * 10 + (48 + d - 48) ≡ n = omega arith in
    cond-true _ (small (m * 10 + (48 + d - 48))) None (and_from (leb 48 (48 + d)) (leb (48 + d) 57) (le-leb 48 (48 + d) (omega arith)) (le-leb (48 + d) 57 (omega arith)))
    ∙ (ap small value ∙ cond-true (ltb n (2 ^ 32)) (Some n) None (lt-ltb n (2 ^ 32) h))

Reads : ℕ → List ℕ → Type 0
Reads n ds = n < 2 ^ 32 → (fold digit_after (Some 0) ds ≡ Some n) × (number_of ds ≡ fold digit_after (Some 0) ds)

reads_more : (ds : List ℕ) (d : ℕ) → number_of (ds ++ d ∷ []) ≡ fold digit_after (Some 0) (ds ++ d ∷ [])
reads_more [] d = refl
reads_more (x ∷ ds) d = refl

pub numbers-read_back : NumbersReadBack
unfolding Reads
numbers-read_back n h =
    let r = decimal_by_steps Reads
    (λ m k. λ l. (digit_back m l 0 m k (omega arith), refl))
    (λ m ds k ih. λ l. (
      fold_push digit_after (Some 0) ds (48 + m % 10) ∙ (ap (λ (o : Option ℕ). digit_after o (48 + m % 10)) (ih (omega arith)).0 ∙ digit_back m l (m / 10) (m % 10) (omega arith) (omega arith)),
      reads_more ds (48 + m % 10),
    ))
    n (omega arith) h in
    r.1 ∙ r.0
