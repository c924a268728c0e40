use Rattle.std.proofs.Common.{◌≡◌, Bool, ◌||◌, List, [], ◌∷◌, vec_items, sym, refl, ap, ◌∙◌, rules}
use Rattle.std.specs.List.{list_any}
use Rattle.std.proofs.lemmas.Iterator.{YieldsList-from_slice}
use Rattle.std.proofs.lemmas.Iterator.Search.{any_from_yields_List}
use borrow.Author.Tests.{tests}
use Rattle.ratchet.specs.declared.types.Message.{Message}
use Rattle.ratchet.specs.Same.{same_message}
use Rattle.runs.specs.World.{among}
use Rattle.stage.proofs.device.Device.has_left.Goals as goal

among-any : (m : Message) (xs : List Message) → among m xs ≡ list_any (λ x. same_message x m) xs
unfolding among
among-any m [] = refl
among-any m (x ∷ xs) = ap (λ (b : Bool). same_message x m || b) (among-any m xs)

pub returns : goal.returns
returns c =
    let m = c.args.message in
    let xs = vec_items c.args.self.now.left in
    any_from_yields_List (λ (x : Message). same_message x m) _ _ c.any.result c.any.ensures.ran (YieldsList-from_slice xs cc) (λ x b q k. search (rules, tests)) ∙ sym (among-any m xs)
