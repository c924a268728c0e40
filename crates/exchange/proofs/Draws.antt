-- The draws of a box: which are in force, in which order, and the table that they make.
use Rattle.std.proofs.Common.{◌≡◌, ℕ, ◌+◌, ◌*◌, ◌/◌, ◌%◌, ◌<◌, eqb, List, [], ◌∷◌, ◌++◌, length, get_or, sym, refl, ap, ◌∙◌, inl, inr, arith, length-append}
use Rattle.std.proofs.lemmas.List.{get_or_append_left, get_or_push, length_push}
use Rattle.std.proofs.lemmas.Bool.{cases_lt, eq-eqb, ne_eqb, cond-true, cond-false}
use Rattle.runs.specs.declared.types.Who.{Who}
use Rattle.runs.specs.declared.types.Who.TheVariants.{First, Second}
use Rattle.exchange.specs.Held.{Ground, drawer, draw_of}
use Rattle.exchange.specs.Network.{Box, draw_by}
use Rattle.exchange.specs.Model.{draws_of}

-- ### In rising order

pub record Rising (ds : List ℕ) (made : ℕ) : Type 0 where
  pub rising : (i j : ℕ) → i < j → j < length ds → get_or ds i 0 < get_or ds j 0
  pub below : (i : ℕ) → i < length ds → get_or ds i 0 < made

pub rising-push : (ds : List ℕ) (made : ℕ) → Rising ds made → Rising (ds ++ made ∷ []) (made + 1)
rising-push ds made r = record {
  rising = λ i j l h. elim (cases_lt j (length ds)) [
    | inl u ↦
        let a = get_or_append_left ds (made ∷ []) 0 i (omega arith) in
        let b = get_or_append_left ds (made ∷ []) 0 j u in
        omega (arith, r.rising i j l u)
    | inr u ↦
        let n = length_push ds made in
        let a = get_or_append_left ds (made ∷ []) 0 i (omega arith) in
        let b = get_or_push ds made 0 j (omega arith) in
        omega (arith, r.below i (omega arith))
  ];
  below = λ i h. elim (cases_lt i (length ds)) [
    | inl u ↦ let a = get_or_append_left ds (made ∷ []) 0 i u in omega (arith, r.below i u)
    | inr u ↦ let n = length_push ds made in let a = get_or_push ds made 0 i (omega arith) in omega arith
  ];
}

pub rising-more : (ds : List ℕ) (made : ℕ) → Rising ds made → Rising ds (made + 1)
rising-more ds made r = record { rising = r.rising; below = λ i h. omega (arith, r.below i h) }

-- ### The table

-- whose keys are odd
abbrev pub parity : Who → ℕ
parity First = 1
parity Second = 0

pub drawer-is : (who : Who) (k : ℕ) → drawer (2 * k + parity who) ≡ who
drawer-is First k = cond-true (eqb ((2 * k + 1) % 2) 1) First Second (eq-eqb ((2 * k + 1) % 2) 1 (omega arith))
drawer-is Second k = cond-false (eqb ((2 * k + 0) % 2) 1) First Second (ne_eqb ((2 * k + 0) % 2) 1 (λ e. omega arith))

pub half_is : (who : Who) (k : ℕ) → (2 * k + parity who) / 2 ≡ k
half_is First k = omega arith
half_is Second k = omega arith

-- a table knows the draws of a side: its keys, one after another
abbrev pub Known : (ℕ → ℕ) → Who → List ℕ → Type 0
Known t who ds = (k : ℕ) → k < length ds → t (2 * k + parity who) ≡ get_or ds k 0

pub known-before : (t : ℕ → ℕ) (who : Who) (ds es : List ℕ) → Known t who (ds ++ es) → Known t who ds
known-before t who ds es h k l = h k (omega (arith, length-append ds es)) ∙ get_or_append_left ds es 0 k l

pub known-last : (t : ℕ → ℕ) (who : Who) (ds : List ℕ) (d : ℕ) → Known t who (ds ++ d ∷ []) → t (2 * length ds + parity who) ≡ d
known-last t who ds d h = h (length ds) (omega (arith, length_push ds d)) ∙ get_or_push ds d 0 (length ds) refl

-- so the key in force is the table's at its number
pub known-own : (g : Ground) (who : Who) (b : Box) (n : ℕ) → n ≡ 2 * length b.past + parity who → Known g.draws who (draws_of b) → draw_by who b.own ≡ draw_of g n
known-own g who b n e h =
    let a = sym (drawer-is who (length b.past)) ∙ ap drawer (sym e) in
    let c = sym (known-last g.draws who b.past b.own h) ∙ ap g.draws (sym e) in
    λ i. record { who = a i; nth = c i }
