-- Keys that are drawn: their numbers, and a box that keeps one.
use Rattle.std.proofs.Common.{◌≡◌, ℕ, ◌+◌, ◌*◌, ◌/◌, ◌%◌, Bool, true, false, cond, eqb, Option, List, refl, ap, ◌∙◌, arith, eqb-true}
use borrow.Author.Tests.{eqb-false}
use Rattle.runs.specs.declared.types.Who.TheVariants.{First, Second}
use Rattle.std.specs.Option.{option_or}
use Rattle.keybox.specs.Box.{Keys, Scheme, Drawn, settled}
use Rattle.session.specs.Ours.{number_of, draw_of}
use Rattle.session.specs.Renews.{Draws}

-- a key and its draw go with each other
by_test : (b : Bool) (n k : ℕ) → (b ≡ true → 2 * n ≡ k) → (b ≡ false → 2 * n + 1 ≡ k) → number_of (record { who = cond b First Second; nth = n }) ≡ k
by_test true n k e f = omega (arith, e refl)
by_test false n k e f = f refl

pub number-draw : (k : ℕ) → number_of (draw_of k) ≡ k
number-draw k = by_test (eqb (k % 2) 0) (k / 2) k (λ e. omega (arith, eqb-true (k % 2) 0 e)) (λ e. let ne : k % 2 ≡ 0 → ⊥ = eqb-false (k % 2) 0 e in omega arith)

-- the key that was drawn is in force
pub in_force : (scheme : Scheme) (before drawn after : Keys) (half : List ℕ) (d : Drawn scheme before drawn half) → after ≡ settled drawn → Draws before after d.key
in_force scheme before drawn after half d e =
    let next = ap (λ (k : Keys). k.next) e in
    record {
      last = ap (λ (k : Keys). k.last) e ∙ ap (λ (f : Option ℕ). option_or f drawn.last) d.fresh;
      fresh = ap (λ (k : Keys). k.fresh) e;
      new = d.new;
      past = omega (arith, d.past, next);
    }
