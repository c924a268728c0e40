-- What `a || b` comes to in the code: the first if it holds, else the second.
use Rattle.std.proofs.Common.{◌≡◌, Bool, true, false, ◌||◌, sym, ap, ◌∙◌}
use Rattle.std.proofs.lemmas.Bool.{or_left}

pub or_first : (r a b : Bool) → r ≡ a → r ≡ true → r ≡ (a || b)
or_first r a b e t = t ∙ sym (or_left a b (sym e ∙ t))

pub or_second : (r s a b : Bool) → r ≡ a → r ≡ false → s ≡ b → s ≡ (a || b)
or_second r s a b e f g = g ∙ sym (ap (λ x. x || b) (sym e ∙ f))
