-- The key drawn is the one that gives the joint secret.
use Rattle.std.proofs.Common.{ℕ, Option, sym, ap, ◌∙◌}
use Rattle.std.proofs.lemmas.Option.{MatchOption-at_some}
use Rattle.keybox.specs.Box.{given}
use Rattle.keybox.proofs.renewal.renew.Goals as goal

pub returns : goal.returns
returns g c =
    let drawn = MatchOption-at_some _ _ c.in_ok-half.half c.in_ok-half.ensures.ok_part c.draw.ensures in
    record {
      drawn = drawn;
      gives = sym (ap (λ (k : Option ℕ). given g.B.KeyBox.scheme k c.args.theirs.now.0) drawn.fresh) ∙ sym c.in-Some.ensures;
    }
