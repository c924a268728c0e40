-- Adding to sets of marks.
use Rattle.std.proofs.Common.{◌≡◌, ℕ, ◌+◌, ◌<◌, ◌≤◌, Bool, true, false, Ordering, Less, Equal, Greater, ◌&&◌, ◌||◌, eqb, arith, List, [], ◌∷◌, ◌++◌, map, length, get_or, take, sym, refl, ap, ◌∙◌, subst, inl, inr}
use Rattle.std.proofs.lemmas.List.{take_more}
use Rattle.std.proofs.lemmas.Bool.{eqb-true, eq-eqb, and_parts, cases_Bool, or_left}
use Rattle.std.specs.List.{list_any}
use Rattle.std.specs.Ordering.{is_eq, match_ordering, ordering_then, nat_cmp}
use Rattle.std.proofs.lemmas.Grind.{common_steps}
use Rattle.std.specs.Bool.{Decides}
use Rattle.std.specs.BTreeMap.{is_at}
use Rattle.std.specs.BTreeSet.{insert_key}
use Rattle.ratchet.specs.declared.types.Mark.{Mark}
use Rattle.ratchet.specs.declared.sides.Side.{Side}
use Rattle.ratchet.specs.Same.{same_mark}
use Rattle.ratchet.specs.State.{State, state_of, has}
use Rattle.runs.proofs.Bools.{or_false, or_assoc, or_comm}
use Rattle.runs.proofs.Stocks.{key_read}
use Rattle.runs.specs.Rule.{any_read}
use Rattle.runs.specs.Stock.{key_of, stocks}
use Rattle.runs.specs.Working.{in_stock}
use Rattle.exposure.specs.Sets.{Adds, Aside, Held}
use Rattle.exposure.proofs.Starting.{any_none, any_more, any_all}

has-nil : (m : Mark) → has m [] ≡ false
unfolding has
has-nil m = refl

has_one : (m x : Mark) → has m (x ∷ []) ≡ same_mark x m
unfolding has
has_one m x = or_false (same_mark x m)

has-append : (m : Mark) (xs ys : List Mark) → has m (xs ++ ys) ≡ (has m xs || has m ys)
unfolding has
has-append m [] ys = refl
has-append m (x ∷ xs) ys = ap (λ b. same_mark x m || b) (has-append m xs ys) ∙ sym (or_assoc (same_mark x m) (has m xs) (has m ys))

same-is : (x m : Mark) → same_mark x m ≡ true → x ≡ m
same-is x m h =
    let p = and_parts (eqb x.link m.link) (eqb x.place m.place) h in
    λ i. record { link = eqb-true x.link m.link p.0 i; place = eqb-true x.place m.place p.1 i }

pub same-decides : (x m : Mark) → Decides (same_mark x m) (x ≡ m)
same-decides x m = (
  same-is x m,
  λ e. let l = eq-eqb x.link m.link (ap (λ (y : Mark). y.link) e) in let p = eq-eqb x.place m.place (ap (λ (y : Mark). y.place) e) in cc,
)

or_again : (a b : Bool) → ((a || b) || (a || false)) ≡ (a || b)
or_again true b = refl
or_again false b = or_false b

-- ### One mark

-- the order of marks: by link, then by place
abbrev pub mark_order : Mark → Mark → Ordering
mark_order a b = ordering_then (nat_cmp a.link b.link) (nat_cmp a.place b.place)

eq-cmp : (a b : ℕ) → is_eq (nat_cmp a b) ≡ eqb b a
eq-cmp a b = grind (arith, common_steps)

eq-then : (o p : Ordering) → is_eq (ordering_then o p) ≡ (is_eq o && is_eq p)
eq-then Less p = refl
eq-then Equal p = refl
eq-then Greater p = refl

pub order-apart : (a b : Mark) → is_eq (mark_order a b) ≡ same_mark b a
order-apart a b = let t = eq-then (nat_cmp a.link b.link) (nat_cmp a.place b.place) in let l = eq-cmp a.link b.link in let p = eq-cmp a.place b.place in cc

-- a set of marks is in an order that tells marks apart
module _ (cmp : Mark → Mark → Ordering) (apart : (k x : Mark) → is_eq (cmp k x) ≡ same_mark x k) where
  pub has-contains : (m : Mark) (ks : List Mark) → list_any (is_at (cmp m)) ks ≡ has m ks
  unfolding has
  has-contains m [] = refl
  has-contains m (k ∷ ks) = let a = apart m k in let r = has-contains m ks in cc

  has-insert : (m k : Mark) (ks : List Mark) → has m (insert_key cmp ks k) ≡ (has m ks || has m (k ∷ []))
  unfolding has
  has-insert m k [] = refl
  has-insert m k (x ∷ xs) = go (has-insert m k xs) (cmp k x) refl
    where
      go : has m (insert_key cmp xs k) ≡ (has m xs || has m (k ∷ [])) → (o : Ordering) → cmp k x ≡ o → has m (match_ordering o (k ∷ x ∷ xs) (x ∷ xs) (x ∷ insert_key cmp xs k)) ≡ ((same_mark x m || has m xs) || (same_mark k m || false))
      go h Less e = or_comm (same_mark k m) _ ∙ ap (λ b. (same_mark x m || has m xs) || b) (sym (or_false (same_mark k m)))
      go h Equal e =
          let same : x ≡ k = same-is x k (sym (apart k x) ∙ ap is_eq e) in
          subst (λ (y : Mark). (same_mark x m || has m xs) ≡ ((same_mark x m || has m xs) || (same_mark y m || false))) same (sym (or_again (same_mark x m) (has m xs)))
      go h Greater e =
          ap (λ b. same_mark x m || b) h
          ∙ (sym (or_assoc (same_mark x m) (has m xs) (has m (k ∷ []))) ∙ ap (λ b. (same_mark x m || has m xs) || b) (has_one m k ∙ sym (or_false (same_mark k m))))

  pub adds_there : (xs : List Mark) (x : Mark) → list_any (is_at (cmp x)) xs ≡ true → Adds xs (x ∷ []) xs
  adds_there xs x h m = elim (cases_Bool (same_mark x m)) [
    | inl t ↦ let e : has m xs ≡ true = subst (λ (y : Mark). has y xs ≡ true) (same-is x m t) (sym (has-contains x xs) ∙ h) in e ∙ sym (or_left (has m xs) (has m (x ∷ [])) e)
    | inr f ↦ sym (ap (λ b. has m xs || b) (has_one m x ∙ f) ∙ or_false (has m xs))
  ]

  pub adds_inserted : (xs ys : List Mark) (x : Mark) → ys ≡ insert_key cmp xs x → Adds xs (x ∷ []) ys
  adds_inserted xs ys x e m = ap (has m) e ∙ has-insert m x xs

-- ### Some marks, one after another

pub adds_none : (xs : List Mark) → Adds xs [] xs
adds_none xs m = sym (ap (λ b. has m xs || b) (has-nil m) ∙ or_false (has m xs))

pub adds_more : (xs ms ys zs : List Mark) (i : ℕ) (d : Mark) → i < length ms → Adds xs (take i ms) ys → Adds ys (get_or ms i d ∷ []) zs → Adds xs (take (i + 1) ms) zs
adds_more xs ms ys zs i d h old new m =
    let a = new m in
    let b = old m in
    let c = ap (has m) (take_more ms i d h) in
    let e = has-append m (take i ms) (get_or ms i d ∷ []) in
    let f = or_assoc (has m xs) (has m (take i ms)) (has m (get_or ms i d ∷ [])) in cc

-- ### The marks of all sides

pub aside_none : (xs : List Mark) → xs ≡ [] → Aside [] xs
aside_none xs e m = ap (has m) e ∙ (has-nil m ∙ sym (any_none (λ s. has m s.skipped)))

pub aside-more : (rs : List Side) (xs ys : List Mark) (k : ℕ) (x : Side) → x ≡ get_or rs k x → k < length rs → Aside (map state_of (take k rs)) xs →
    (ms : List Mark) → ms ≡ (state_of x).skipped → Adds xs ms ys → Aside (map state_of (take (k + 1) rs)) ys
aside-more rs xs ys k x is h old ms e new m =
    new m ∙ (ap (λ (l : List Mark). has m xs || has m l) e ∙ (ap (λ b. b || has m (state_of x).skipped) (old m) ∙ sym (any_more (λ s. has m s.skipped) rs k x is h)))

pub none_there : (xs : List Mark) (m : Mark) → has m [] ≡ true → has m xs ≡ true
none_there xs m h = let e = has-nil m in cc

-- what was added is in the set
pub there_now : (xs ms ys : List Mark) → Adds xs ms ys → (m : Mark) → has m ms ≡ true → has m ys ≡ true
there_now xs ms ys new m t = new m ∙ ap (λ b. has m xs || b) t ∙ or_comm (has m xs) true

-- and what was in it still is
pub still_there : (xs ms ys : List Mark) → Adds xs ms ys → (m : Mark) → has m xs ≡ true → has m ys ≡ true
still_there xs ms ys new m t = new m ∙ or_left (has m xs) (has m ms) t

pub aside-all : (rs : List Side) (xs : List Mark) (k : ℕ) → length rs ≤ k → Aside (map state_of (take k rs)) xs → Aside (map state_of rs) xs
aside-all rs xs k h old m = old m ∙ any_all (λ s. has m s.skipped) rs k h

pub held-by_aside : (rs : List State) (xs : List Mark) → Aside rs xs → Held rs xs
held-by_aside rs xs a m = a m ∙ sym (key_read rs m.link m.place)

-- ### What a set of the marks put aside says of one

pub aside-contains : (rs : List State) (ks : List Mark) → Aside rs ks → (m : Mark) → list_any (is_at (mark_order m)) ks ≡ any_read (λ s. has m s.skipped) rs
aside-contains rs ks a m = has-contains mark_order order-apart m ks ∙ a m

pub held-contains : (rs : List State) (ks : List Mark) → Held rs ks → (m : Mark) → list_any (is_at (mark_order m)) ks ≡ in_stock (key_of m) (stocks rs)
held-contains rs ks h m = has-contains mark_order order-apart m ks ∙ h m
