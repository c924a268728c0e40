-- Rows one after another, and that their two words agree.
use Rattle.std.proofs.Common.{◌≡◌, ℕ, zero, suc, ◌+◌, ◌<◌, Bool, List, [], ◌∷◌, ◌++◌, length, get_or, take, sym, refl, ap, ◌∙◌, append_assoc, append-nil, add-zero, add-one, arith}
use Rattle.ratchet.specs.declared.types.Mark.{Mark}
use Rattle.ratchet.specs.State.{State}
use Rattle.runs.specs.Rule.{exposed}
use Rattle.runs.specs.Stock.{key_of, stocks}
use Rattle.runs.specs.Working.{works_out}
use Rattle.runs.proofs.Exposed.{exactly, works_key}
use Rattle.runs.proofs.Promises.{every-run}
use Rattle.runs.proofs.Works.{works_out-decides}
use Rattle.exposure.specs.Rows.{row_of, row_by, rows_from, rows_of, Agree}

pub agree : (rs : List State) → Agree rs
agree rs = record {
  laws = λ es e. every-run es;
  same = λ m. sym (works_key rs m.link m.place);
  by_rule = λ m. exactly rs m.link m.place;
  by_work = λ m. works_out-decides (stocks rs) (key_of m);
}

module _ (rs : List State) where
  pub rows_none : (n : ℕ) → rows_from rs n [] ≡ []
  unfolding rows_from
  rows_none n = refl

  rows_more : (n : ℕ) (ms : List Mark) (i : ℕ) (d : Mark) → i < length ms → rows_from rs n (take (i + 1) ms) ≡ rows_from rs n (take i ms) ++ row_by rs (n + i) (get_or ms i d)
  unfolding rows_from
  rows_more n [] i d h = absurd (omega arith)
  rows_more n (m ∷ ms) zero d h = append-nil (row_by rs n m) ∙ ap (λ (k : ℕ). row_by rs k m) (sym (add-zero n))
  rows_more n (m ∷ ms) (suc i) d h =
      let r = rows_more (suc n) ms i d (omega arith) in
      let s = rw add-one at r in
      let k : suc n + i ≡ n + suc i = omega arith in
      let j = append_assoc (row_by rs n m) (rows_from rs (suc n) (take i ms)) (row_by rs (n + suc i) (get_or ms i d)) in
      rw add-one (ap (λ (l : List ℕ). row_by rs n m ++ l) (s ∙ ap (λ (q : ℕ). rows_from rs (suc n) (take i ms) ++ row_by rs q (get_or ms i d)) k) ∙ sym j)

  -- one more row printed
  pub row_put : (out now next : List ℕ) (ms : List Mark) (i n : ℕ) (d : Mark) (a b : Bool) → i < length ms → now ≡ out ++ rows_of rs (take i ms) → n ≡ i →
      a ≡ exposed rs (get_or ms i d).link (get_or ms i d).place → b ≡ works_out (stocks rs) (key_of (get_or ms i d)) → next ≡ now ++ row_of (n + 1) (get_or ms i d) a b →
      next ≡ out ++ rows_of rs (take (i + 1) ms)
  row_put out now next ms i n d a b h was e x y is =
      let m = get_or ms i d in
      let k : n + 1 ≡ 1 + i = omega arith in
      let more = rows_more 1 ms i d h in
      let joined = append_assoc out (rows_of rs (take i ms)) (row_by rs (1 + i) m) in cc
