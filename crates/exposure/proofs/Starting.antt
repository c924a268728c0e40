-- From which place on a chain is known: one more side, one link after another.
use Rattle.std.proofs.Common.{◌≡◌, ℕ, zero, suc, ◌+◌, ◌<◌, ◌≤◌, Bool, true, false, ◌&&◌, ◌||◌, eqb, leb, List, [], ◌∷◌, ◌++◌, map, length, get_or, take, Some, None, fold, min, Decides, Option, sym, refl, ap, ap₂, ◌∙◌, inl, inr, add-one, arith}
use Rattle.std.specs.List.{cons_option, filter_map, list_any, reduce}
use Rattle.std.proofs.lemmas.Grind.{common_steps}
use Rattle.std.proofs.lemmas.List.{length_push, get_or_push, get_or_append_left, get_or_default, take_more, take_all}
use Rattle.std.proofs.lemmas.Bool.{cases_eq, cases_Bool, le-leb, eqb-true, ne_eqb, or_left}
use Rattle.std.proofs.lemmas.Bool.Decides.{Decides-at}
use Rattle.ratchet.specs.declared.types.Mark.{Mark}
use Rattle.ratchet.specs.declared.sides.Side.{Side}
use Rattle.ratchet.specs.State.{State, state_of}
use Rattle.runs.specs.Rule.{any_read, link_open}
use Rattle.chain.specs.Secret.{own, root_of, link_of, chain_at, Knows}
use Rattle.runs.specs.Stock.{key_of, stocks}
use Rattle.runs.specs.Working.{in_stock, works_out}
use Rattle.runs.proofs.Bools.{or_false, or_assoc, or_comm}
use Rattle.runs.proofs.Stocks.{own_read, root_read, key_read}
use Rattle.runs.proofs.Exposed.{works_key_by, works_chain, works_link, works_link_by, works_root_none, works_root_more}
use Rattle.runs.proofs.Works.{works_out-decides}
use Rattle.exposure.specs.Chains.{at_or_after, start_of, reaches, Starts}
use Rattle.exposure.proofs.Ors.{or_first, or_second}

-- ### All sides

any_push : (p : State → Bool) (xs : List Side) (x : Side) → any_read p (map state_of (xs ++ x ∷ [])) ≡ (any_read p (map state_of xs) || p (state_of x))
unfolding any_read
any_push p [] x = or_false (p (state_of x))
any_push p (y ∷ xs) x = ap (λ b. p (state_of y) || b) (any_push p xs x) ∙ sym (or_assoc (p (state_of y)) (any_read p (map state_of xs)) (p (state_of x)))

pub any_none : (p : State → Bool) → any_read p [] ≡ false
unfolding any_read
any_none p = refl

pub any_more : (p : State → Bool) (xs : List Side) (k : ℕ) (x : Side) → x ≡ get_or xs k x → k < length xs →
    any_read p (map state_of (take (k + 1) xs)) ≡ (any_read p (map state_of (take k xs)) || p (state_of x))
any_more p xs k x is h =
    ap (λ (l : List Side). any_read p (map state_of l)) (take_more xs k x h ∙ ap (λ (y : Side). take k xs ++ y ∷ []) (sym is)) ∙ any_push p (take k xs) x

pub any_all : (p : State → Bool) (xs : List Side) (k : ℕ) → length xs ≤ k → any_read p (map state_of (take k xs)) ≡ any_read p (map state_of xs)
any_all p xs k h = ap (λ (l : List Side). any_read p (map state_of l)) (take_all k xs h)

-- ### A link's chain

-- is the link below known; link 0 has none below it
unfoldable pub below_known : List State → ℕ → Bool
below_known rs zero = false
below_known rs (suc n) = works_out (stocks rs) (link_of n)

module _ (rs : List State) where
  pub below_none : below_known rs 0 ≡ false
  unfolding below_known
  below_none = refl

  pub below_more : (n : ℕ) → below_known rs (n + 1) ≡ works_out (stocks rs) (link_of n)
  unfolding below_known
  below_more n = rw add-one

  root_by_lem : (n : ℕ) → works_out (stocks rs) (root_of n) ≡ (in_stock (root_of n) (stocks rs) || below_known rs n)
  unfolding below_known
  root_by_lem zero = works_root_none rs ∙ (sym (root_read rs 0) ∙ sym (or_false (in_stock (root_of 0) (stocks rs))))
  root_by_lem (suc n) = works_root_more rs n ∙ ap (λ b. b || works_out (stocks rs) (link_of n)) (sym (root_read rs (suc n)))

  link_by_lem : (n : ℕ) → works_out (stocks rs) (link_of n) ≡ (works_out (stocks rs) (root_of n) && (in_stock (own n) (stocks rs) || in_stock (own (suc n)) (stocks rs)))
  link_by_lem n = let a = works_link_by rs n in let b = own_read rs n in let c = own_read rs (suc n) in cc

  -- one turn upward: what is known of the link below gives what is known of this one
  pub upward : (n : ℕ) (half below root next link : Bool) → half ≡ in_stock (own n) (stocks rs) → half ≡ in_stock (root_of n) (stocks rs) → below ≡ below_known rs n →
      root ≡ (half || below) → next ≡ in_stock (own (n + 1)) (stocks rs) → link ≡ (root && (half || next)) → link ≡ works_out (stocks rs) (link_of n)
  upward n half below root next link h r b e x l =
      let p = root_by_lem n in
      let q = link_by_lem n in
      let s : in_stock (own (n + 1)) (stocks rs) ≡ in_stock (own (suc n)) (stocks rs) = rw add-one in cc

  -- a chain is known from its first place if its link is known, else from where some side held it
  pub from_first : (n i : ℕ) (known : Bool) → known ≡ works_out (stocks rs) (link_of n) → known ≡ true → leb 0 i ≡ works_out (stocks rs) (chain_at n i)
  from_first n i known e t = le-leb 0 i (omega arith) ∙ sym (works_chain rs n i ∙ or_left (link_open rs n) _ (sym (works_link rs n) ∙ (sym e ∙ t)))

  pub from_held : (n i : ℕ) (known held : Bool) → known ≡ works_out (stocks rs) (link_of n) → known ≡ false → held ≡ any_read (reaches n i) rs →
      held ≡ works_out (stocks rs) (chain_at n i)
  from_held n i known held e f h = or_second known held (link_open rs n) _ (e ∙ works_link rs n) f h ∙ sym (works_chain rs n i)

-- ### The earliest place that some side held

min-leb : (p q i : ℕ) → leb (min p q) i ≡ (leb p i || leb q i)
min-leb p q i = grind (arith, common_steps)

fold-min : (ps : List ℕ) (p i : ℕ) → leb (fold min p ps) i ≡ (leb p i || list_any (λ q. leb q i) ps)
fold-min [] p i = sym (or_false (leb p i))
fold-min (q ∷ ps) p i =
    fold-min ps (min p q) i ∙ (ap (λ b. b || list_any (λ q. leb q i) ps) (min-leb p q i) ∙ or_assoc (leb p i) (leb q i) (list_any (λ q. leb q i) ps))

reduce-min : (ps : List ℕ) (i : ℕ) → at_or_after (reduce min ps) i ≡ list_any (λ q. leb q i) ps
reduce-min [] i = refl
reduce-min (p ∷ ps) i = fold-min ps p i

-- a side reaches a place if it held the chain from there or from before
start-reaches : (n i : ℕ) (s : State) → at_or_after (start_of n s) i ≡ reaches n i s
start-reaches n i s = elim (cases_Bool (eqb s.drawn (suc n))) [
  | inl t ↦
      let u : eqb s.drawn (suc (suc n)) ≡ false = ne_eqb s.drawn (suc (suc n)) (λ h. absurd (omega (arith, eqb-true s.drawn (suc n) t))) in
      rw (t, u) (sym (or_false (leb s.sent i)))
  | inr f ↦ rw f (elim (cases_Bool (eqb s.drawn (suc (suc n)))) [ inl t ↦ rw t | inr u ↦ rw u ])
]

any-cons : (i : ℕ) (o : Option ℕ) (ps : List ℕ) → list_any (λ q. leb q i) (cons_option o ps) ≡ (at_or_after o i || list_any (λ q. leb q i) ps)
any-cons i None ps = refl
any-cons i (Some p) ps = refl

any-start : (n i : ℕ) (xs : List Side) → list_any (λ q. leb q i) (filter_map (λ x. start_of n (state_of x)) xs) ≡ any_read (reaches n i) (map state_of xs)
unfolding any_read
any-start n i [] = refl
any-start n i (x ∷ xs) =
    any-cons i (start_of n (state_of x)) (filter_map (λ x. start_of n (state_of x)) xs)
    ∙ ap₂ (λ a b. a || b) (start-reaches n i (state_of x)) (any-start n i xs)

pub earliest-reaches : (n i : ℕ) (xs : List Side) (o : Option ℕ) → o ≡ reduce min (filter_map (λ x. start_of n (state_of x)) xs) → at_or_after o i ≡ any_read (reaches n i) (map state_of xs)
earliest-reaches n i xs o e =
    ap (λ (p : Option ℕ). at_or_after p i) e ∙ (reduce-min (filter_map (λ x. start_of n (state_of x)) xs) i ∙ any-start n i xs)

-- ### The table

module _ (rs : List State) where
  pub starts_none : (xs : List (Option ℕ)) → xs ≡ [] → Starts rs xs
  starts_none xs e n i h = absurd (omega (arith, ap length e))

  pub starts_more : (xs ys : List (Option ℕ)) (x : Option ℕ) (k : ℕ) → ys ≡ xs ++ x ∷ [] → k ≡ length xs → Starts rs xs →
      ((i : ℕ) → at_or_after x i ≡ works_out (stocks rs) (chain_at k i)) → Starts rs ys
  starts_more xs ys x k is e old new n i h = ap (λ (l : List (Option ℕ)). at_or_after (get_or l n None) i) is ∙ elim (cases_eq n k) [
    | inl f ↦ ap (λ (o : Option ℕ). at_or_after o i) (get_or_push xs x None n (sym (f ∙ e))) ∙ (new i ∙ ap (λ (j : ℕ). works_out (stocks rs) (chain_at j i)) (sym f))
    | inr ne ↦ let b : n < length xs = omega (arith, length_push xs x, ap length is) in ap (λ (o : Option ℕ). at_or_after o i) (get_or_append_left xs (x ∷ []) None n b) ∙ old n i b
  ]

  -- a key is known by its chain, or was held itself
  key_by_lem : (m : Mark) → works_out (stocks rs) (key_of m) ≡ (works_out (stocks rs) (chain_at m.link m.place) || in_stock (key_of m) (stocks rs))
  key_by_lem m =
      works_key_by rs m.link m.place
      ∙ (or_comm _ (works_out (stocks rs) (chain_at m.link m.place))
      ∙ ap (λ b. works_out (stocks rs) (chain_at m.link m.place) || b) (sym (key_read rs m.link m.place)))

  module _ (starts : List (Option ℕ)) (table : Starts rs starts) (m : Mark) (n : ℕ) (len : n ≡ length starts) (within : m.link < n) (o : Option ℕ) (at : o ≡ get_or starts m.link o)
      (r : Bool) (e : r ≡ at_or_after o m.place) where
    by_chain : r ≡ works_out (stocks rs) (chain_at m.link m.place)
    by_chain = e ∙ (ap (λ (x : Option ℕ). at_or_after x m.place) (at ∙ get_or_default starts m.link o None (omega arith)) ∙ table m.link m.place (omega arith))

    pub key_reached : r ≡ true → r ≡ works_out (stocks rs) (key_of m)
    key_reached t = or_first r _ _ by_chain t ∙ sym (key_by_lem m)

    pub key_held : (s : Bool) → r ≡ false → s ≡ in_stock (key_of m) (stocks rs) → s ≡ works_out (stocks rs) (key_of m)
    key_held s f h = or_second r s _ _ by_chain f h ∙ sym (key_by_lem m)

  pub known_decides : (m : Mark) (r : Bool) → r ≡ works_out (stocks rs) (key_of m) → Decides r (Knows (stocks rs) (key_of m))
  known_decides m r e = Decides-at r (works_out (stocks rs) (key_of m)) e (works_out-decides (stocks rs) (key_of m))
