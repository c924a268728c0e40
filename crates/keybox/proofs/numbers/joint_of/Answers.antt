-- Not taken, or joined in the order of the sides.
use Rattle.std.proofs.Common.{◌≡◌, arith}
use Rattle.runs.specs.declared.types.Who.TheVariants.{First, Second}
use Rattle.keybox.specs.Numbers.{key_of, number_half}
use Rattle.keybox.proofs.Named.{joined-first, joined-second, refuses}
use Rattle.keybox.proofs.numbers.joint_of.Goals as goal

pub returns-in-First-eq1 : goal.returns-in-First-eq1
returns-in-First-eq1 c =
    let mine : c.half_of-own.result.0 ≡ number_half (key_of First c.args.draw) = cc in
    let e = joined-first c.args.draw c.args.theirs.now.0 c.half_of-own.result.0 c.beside.result.0 c.in-First-eq1.is-1 mine c.beside.ensures in
    cc

pub returns-in-Second-eq0 : goal.returns-in-Second-eq0
returns-in-Second-eq0 c =
    let mine : c.half_of-own.result.0 ≡ number_half (key_of Second c.args.draw) = cc in
    let e = joined-second c.args.draw c.args.theirs.now.0 c.half_of-own.result.0 c.beside-in-Second-eq0.result.0 c.in-Second-eq0.is-1 mine c.beside-in-Second-eq0.ensures in
    cc

pub returns-in_default : goal.returns-in_default
returns-in_default c = let e = refuses First c.args.draw c.args.theirs.now.0 (λ z. c.in_default.is-1.1 (omega arith)) in cc

pub returns-in_default-2 : goal.returns-in_default-2
returns-in_default-2 c = let e = refuses Second c.args.draw c.args.theirs.now.0 (λ z. c.in_default.is-1.1 (omega arith)) in cc
