-- The joint secret is that of the key in force.
use Rattle.std.proofs.Common.{ℕ, None, Option, sym, refl, ap, ◌∙◌}
use Rattle.keybox.specs.Box.{given}
use Rattle.session.proofs.NewLinks.{nothing, text_new_lem}
use Rattle.session.proofs.new_link.open_new.Goals as goal

pub returns-in_err-size-clause-begins : goal.returns-in_err-size-clause-begins
returns-in_err-size-clause-begins g c = λ k e. nothing _ _ _ c.from_residual-in_err-size.ensures (λ slots.
    text_new_lem g.B.KeyBox.scheme k c.args.session.now slots c.args.message.now _ _ _ _ None
    (sym (c.in_ok-joint.ensures ∙ ap (λ (l : Option ℕ). given g.B.KeyBox.scheme l c.args.message.now.header.half.0) e)) c.link.ensures.chain_is refl c.key_at.ensures.key
    (c.in_err-size.ensures.opens g.B.KeyBox.scheme))
