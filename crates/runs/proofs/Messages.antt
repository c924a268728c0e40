-- Lists of messages: which are among some, and keys of which none comes twice.
use Rattle.std.proofs.Common.{◌≡◌, ℕ, zero, suc, ◌-◌, ◌<◌, true, false, eqb, ◌⊎◌, List, [], ◌∷◌, ◌++◌, length, get_or, sym, refl, ap, ◌∙◌, inl, inr, arith, length-append}
use lib.ListN.{get_or-append}
use Rattle.std.proofs.lemmas.Bool.{false≢true, or_cases, or_left, or_right, and_parts, and_from, eqb-true, eq-eqb, cases_lt}
use Rattle.std.proofs.lemmas.List.{get_or-append_right}
use Rattle.ratchet.specs.declared.types.Mark.{Mark}
use Rattle.ratchet.specs.declared.types.Message.{Message}
use Rattle.ratchet.specs.Same.{same_mark, same_message}
use Rattle.chain.specs.Secret.{Secret, shared}
use Rattle.runs.specs.Stock.{key_of}
use Rattle.runs.specs.World.{among}
use Rattle.runs.specs.Laws.{keys_of, NoneTwice}
use Rattle.runs.proofs.Recipes.{keys-back}

-- ### The tests of marks and messages

pub same-mark : (a b : Mark) → same_mark a b ≡ true → a ≡ b
same-mark a b h = let e = and_parts (eqb a.link b.link) _ h in let l = eqb-true a.link b.link e.0 in let p = eqb-true a.place b.place e.1 in λ i. record { link = l i; place = p i }

pub mark-same : (a b : Mark) → a ≡ b → same_mark a b ≡ true
mark-same a b e = and_from (eqb a.link b.link) _ (eq-eqb a.link b.link (ap (λ m. m.link) e)) (eq-eqb a.place b.place (ap (λ m. m.place) e))

pub same-message : (a b : Message) → same_message a b ≡ true → a ≡ b
same-message a b h =
    let e = and_parts (same_mark a.mark b.mark) _ h in
    let m = same-mark a.mark b.mark e.0 in
    let p = eqb-true a.before b.before e.1 in
    λ i. record { mark = m i; before = p i }

pub message-same : (a b : Message) → a ≡ b → same_message a b ≡ true
message-same a b e = and_from (same_mark a.mark b.mark) _ (mark-same a.mark b.mark (ap (λ m. m.mark) e)) (eq-eqb a.before b.before (ap (λ m. m.before) e))

-- ### Among some

pub among-before : (x m : Message) (xs : List Message) → among x xs ≡ true → among x (xs ++ m ∷ []) ≡ true
unfolding among
among-before x m [] h = absurd (false≢true h)
among-before x m (y ∷ xs) h = elim (or_cases (same_message y x) (among x xs) h)
    [ inl e ↦ or_left (same_message y x) _ e | inr k ↦ or_right (same_message y x) _ (among-before x m xs k) ]

pub among-last : (m : Message) (xs : List Message) → among m (xs ++ m ∷ []) ≡ true
unfolding among
among-last m [] = or_left (same_message m m) false (message-same m m refl)
among-last m (y ∷ xs) = or_right (same_message y m) _ (among-last m xs)

pub among_cases : (x m : Message) (xs : List Message) → among x (xs ++ m ∷ []) ≡ true → (among x xs ≡ true) ⊎ (m ≡ x)
unfolding among
among_cases x m [] h = elim (or_cases (same_message m x) false h) [ inl e ↦ inr (same-message m x e) | inr k ↦ absurd (false≢true k) ]
among_cases x m (y ∷ xs) h = elim (or_cases (same_message y x) _ h) [
  | inl e ↦ inl (or_left (same_message y x) (among x xs) e)
  | inr k ↦ elim (among_cases x m xs k) [ inl j ↦ inl (or_right (same_message y x) (among x xs) j) | inr e ↦ inr e ]
]

-- a key at a place is that of a message among them
pub key-among : (xs : List Message) (i : ℕ) → i < length (keys_of xs) → (m : Message) × (among m xs ≡ true) × (get_or (keys_of xs) i shared ≡ key_of m.mark)
unfolding among
key-among [] i h = absurd (omega arith)
key-among (x ∷ xs) zero h = (x, or_left (same_message x x) _ (message-same x x refl), refl)
key-among (x ∷ xs) (suc i) h = let t = key-among xs i (omega arith) in (t.0, or_right (same_message x t.0) _ t.1, t.2)

keys_of-append : (xs ys : List Message) → keys_of (xs ++ ys) ≡ keys_of xs ++ keys_of ys
keys_of-append [] ys = refl
keys_of-append (x ∷ xs) ys = ap (λ zs. key_of x.mark ∷ zs) (keys_of-append xs ys)

pub same_key : (a b : Message) → key_of a.mark ≡ key_of b.mark → a.mark ≡ b.mark
same_key a b e = let p = keys-back a.mark.link a.mark.place b.mark.link b.mark.place e in λ i. record { link = p.0 i; place = p.1 i }

-- ### None twice

pub none-twice_none : NoneTwice (keys_of [])
none-twice_none i j h k e = omega arith

-- two lists without a key in common, neither with one twice
pub none-twice_append : (xs ys : List Message) → NoneTwice (keys_of xs) → NoneTwice (keys_of ys) →
    ((x y : Message) → among x xs ≡ true → among y ys ≡ true → x.mark ≡ y.mark → ⊥) → NoneTwice (keys_of (xs ++ ys))
none-twice_append xs ys hx hy apart i j lt in' e =
    let a : List Secret = keys_of xs in
    let b : List Secret = keys_of ys in
    let both = keys_of-append xs ys in
    let size = ap length both ∙ length-append a b in
    let same = ap (λ zs. get_or zs i shared) (sym both) ∙ (e ∙ ap (λ zs. get_or zs j shared) both) in
    elim (cases_lt j (length a)) [
      | inl jl ↦ hx i j lt jl (sym (get_or-append a b shared i (omega arith)) ∙ (same ∙ get_or-append a b shared j jl))
      | inr jr ↦ elim (cases_lt i (length a)) [
        | inl il ↦
            let t = key-among xs i il in
            let u = key-among ys (j - length a) (omega arith) in
            apart t.0 u.0 t.1 u.1
            (same_key t.0 u.0 (sym t.2 ∙ (sym (get_or-append a b shared i il) ∙ (same ∙ (get_or-append_right a b (length a) j shared refl jr ∙ u.2)))))
        | inr ir ↦ hy (i - length a) (j - length a) (omega arith) (omega arith)
            (sym (get_or-append_right a b (length a) i shared refl ir) ∙ (same ∙ get_or-append_right a b (length a) j shared refl jr))
      ]
    ]

-- one more, whose mark none has
pub none-twice_more : (xs : List Message) (m : Message) → NoneTwice (keys_of xs) → ((x : Message) → among x xs ≡ true → x.mark ≡ m.mark → ⊥) → NoneTwice (keys_of (xs ++ m ∷ []))
unfolding among
none-twice_more xs m h fresh =
    none-twice_append xs (m ∷ []) h (λ i j lt in' e. omega arith)
    (λ x y a b e. elim (or_cases (same_message m y) false b) [ inl k ↦ fresh x a (e ∙ sym (ap (λ z. z.mark) (same-message m y k))) | inr k ↦ false≢true k ])
