-- Each word is the sum at its place.
use Rattle.std.proofs.Common.{rules, get_or, ◌∙◌, arith}
use Rattle.octets.proofs.Made.{made}
use Rattle.digest.specs.Sha256.{◌⊞◌, sums}
use Rattle.digest.proofs.Bytes.{add_elements}
use Rattle.digest.proofs.block.add_words.Goals as goal

pub returns : goal.returns
unfolding sums
returns c =
    let x = c.args.x in
    let y = c.args.y in
    made _ _ (λ i. get_or x i 0 ⊞ get_or y i 0) (λ i z q call. search rules) c.from_fn.result 8 c.from_fn.ensures.items ∙ add_elements x y (omega arith) (omega arith)
