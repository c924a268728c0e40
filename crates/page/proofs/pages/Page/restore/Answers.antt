-- The first slots are those that were filled.
use Rattle.std.proofs.Common.{◌≡◌, ◌-◌, length, take, map, ap, ◌∙◌, arith}
use Rattle.std.proofs.lemmas.List.{take_rest, length-take-le}
use Rattle.session.specs.Views.{key_in}
use Rattle.page.specs.Parts.{keys_in}
use Rattle.page.proofs.Restored.{restored_front}
use Rattle.page.proofs.pages.Page.restore.Goals as goal

pub returns-clause-keys : goal.returns-clause-keys
returns-clause-keys c =
    let page = c.args.self.now in
    let few = page.few in
    let long : length (take page.count c.args.slots.now) ≡ page.count = length-take-le page.count c.args.slots.now (omega arith) in
    let behind = take_rest page.bytes.now 147 in
    ap (map key_in) (restored_front c.args.slots.now c.fill.new.slots c.clear.new.slots page.count (512 - page.count) (omega arith))
    ∙ (c.fill.ensures ∙ (λ i. keys_in (long i) (behind i)))
