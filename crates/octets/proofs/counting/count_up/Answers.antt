-- Each byte is the one counted to.
use Rattle.std.proofs.Common.{rules, ◌+◌, ◌*◌, ◌%◌, ◌^◌}
use Rattle.octets.proofs.Made.{made}
use Rattle.octets.proofs.counting.count_up.Goals as goal

pub returns : goal.returns
returns g c =
    made _ _ (λ i. (c.args.first + c.args.step * i) % 2 ^ 8) (λ i y q call. search rules) c.from_fn.result g.row.N c.from_fn.ensures.items
