-- The links that lie open, one after another upward.
use Rattle.std.proofs.Common.{◌≡◌, ℕ, zero, suc, ◌+◌, ◌<◌, Bool, false, ◌&&◌, ◌||◌, eqb, leb, List, [], ◌∷◌, ◌++◌, length, get_or, sym, refl, ap, ◌∙◌, inl, inr, add-one, arith}
use Rattle.std.proofs.lemmas.List.{length_push, get_or_push, get_or_append_left}
use Rattle.std.proofs.lemmas.Bool.{cases_eq}
use Rattle.ratchet.specs.declared.types.Mark.{Mark}
use Rattle.ratchet.specs.State.{State, has}
use Rattle.runs.specs.Rule.{any_read, read_at, root_open, link_open, sees}
use Rattle.runs.proofs.Bools.{or_false, or_assoc, any_same, any_or}
use Rattle.exposure.specs.Chains.{reaches}
use Rattle.exposure.specs.Links.{links_to, key_by}

-- does the link below lie open; link 0 has none below it
unfoldable pub below_open : List State → ℕ → Bool
below_open rs zero = false
below_open rs (suc n) = link_open rs n

module _ (rs : List State) where
  pub below_none : below_open rs 0 ≡ false
  unfolding below_open
  below_none = refl

  pub below_more : (n : ℕ) → below_open rs (n + 1) ≡ link_open rs n
  unfolding below_open
  below_more n = rw add-one

  pub root_by_lem : (n : ℕ) → root_open rs n ≡ (read_at rs n || below_open rs n)
  unfolding below_open root_open
  root_by_lem zero = sym (or_false (read_at rs 0))
  root_by_lem (suc n) = refl

  pub links_none : links_to rs 0 ≡ []
  unfolding links_to
  links_none = refl

  pub links_more : (n : ℕ) → links_to rs (n + 1) ≡ links_to rs n ++ link_open rs n ∷ []
  unfolding links_to
  links_more n = rw add-one

  -- one turn upward: the flags of the link below give those of this one
  pub upward : (n : ℕ) (drawn below root after link : Bool) → drawn ≡ read_at rs n → below ≡ below_open rs n → root ≡ (drawn || below) →
      after ≡ read_at rs (n + 1) → link ≡ (root && (drawn || after)) → link ≡ link_open rs n
  upward n drawn below root after link d b r a l =
      let e = root_by_lem n in
      let s : read_at rs (n + 1) ≡ read_at rs (suc n) = rw add-one in cc

  pub length_links : (n : ℕ) → length (links_to rs n) ≡ n
  unfolding links_to
  length_links zero = refl
  length_links (suc n) = length_push (links_to rs n) (link_open rs n) ∙ (rw add-one (ap suc (length_links n)))

  pub links_at : (n k : ℕ) (d : Bool) → k < n → get_or (links_to rs n) k d ≡ link_open rs k
  unfolding links_to
  links_at zero k d h = absurd (omega arith)
  links_at (suc n) k d h = elim (cases_eq k n) [
    | inl e ↦ get_or_push (links_to rs n) (link_open rs n) d k (length_links n ∙ sym e) ∙ ap (link_open rs) (sym e)
    | inr ne ↦ let b : k < n = omega arith in let l : k < length (links_to rs n) = rw (length_links n) b in get_or_append_left (links_to rs n) (link_open rs n ∷ []) d k l ∙ links_at n k d b
  ]

  -- what stands in a table of them
  pub in_table : (xs : List Bool) (n k : ℕ) (d r : Bool) → xs ≡ links_to rs n → k < n → r ≡ get_or xs k d → r ≡ link_open rs k
  in_table xs n k d r e h i = i ∙ (ap (λ (l : List Bool). get_or l k d) e ∙ links_at n k d h)

  pub table_length : (xs : List Bool) (n k : ℕ) → xs ≡ links_to rs n → k ≡ length xs → k ≡ n
  table_length xs n k e l = l ∙ (ap length e ∙ length_links n)

  -- a side was read that opens a key by its chain, or one that had it put aside
  pub seen_by : (m : Mark) → any_read (sees m.link m.place) rs ≡ (any_read (reaches m.link m.place) rs || any_read (λ s. has m s.skipped) rs)
  seen_by m = sym (any_or (reaches m.link m.place) (λ s. has m s.skipped) rs ∙ any_same _ _ (λ s. or_assoc (eqb s.drawn (suc m.link) && leb s.sent m.place) _ _) rs)

  pub seen_from : (m : Mark) (chain aside r : Bool) → chain ≡ any_read (reaches m.link m.place) rs → aside ≡ any_read (λ s. has m s.skipped) rs → r ≡ key_by chain aside →
      r ≡ any_read (sees m.link m.place) rs
  seen_from m chain aside r c a e = let s = seen_by m in cc
