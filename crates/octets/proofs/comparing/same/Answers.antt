-- The fold gathers from each pair.
use Rattle.std.proofs.Common.{rules}
use Rattle.std.proofs.lemmas.Fn.{fold_over, fronts}
use Rattle.std.proofs.lemmas.Iterator.{zips, YieldsList-from_slice, YieldsList-from_zip}
use Rattle.octets.proofs.Compared.{Agree, agree-none, agree-more, agree-all}
use Rattle.octets.proofs.comparing.same.Goals as goal

pub returns-then-a-b : goal.returns-then-a-b
returns-then-a-b c =
    agree-all c.fold-differences.result c.args.a.now c.args.b.now c.if-a-b.true
    (fold_over (zips fronts fronts) (λ p. (p.0.now, p.1.now)) _ Agree _ (λ ps g x more f' so_far call. (agree-more ps g x.0.now x.1.now more (search rules) so_far, search rules))
    _ _ _ _ (YieldsList-from_zip (YieldsList-from_slice c.args.a.now cc) (YieldsList-from_slice c.args.b.now cc)).runs agree-none c.fold-differences.ensures.ran)
