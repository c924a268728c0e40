-- Each call of the closure answers the key of its slot.
use Rattle.std.proofs.Common.{◌≡◌, [], get_or, rules, ◌∙◌}
use Rattle.std.proofs.lemmas.List.{get_or_default}
use Rattle.session.proofs.Copies.{copied}
use Rattle.session.proofs.copying.copy_keys.Goals as goal

pub returns : goal.returns
returns c = copied _ c.args.slots.now c.from_fn.result _ (λ i y q d l h. (let is : y ≡ get_or c.args.slots.now i (record { 0 = [] }) = search rules in is ∙ get_or_default c.args.slots.now i (record { 0 = [] }) d l, search rules)) 512 c.told-slots c.from_fn.ensures.items
