use Rattle.std.proofs.Common.{◌≡◌, ℕ, ◌≤◌, cond, eqb, length, Some, None, unwrap_or, Option, ap, ◌∙◌, rules, arith}
use lib.Dec.{ltb}
use Rattle.std.specs.List.{position_or_len}
use Rattle.std.proofs.lemmas.Grind.{common_steps}
use Rattle.std.proofs.lemmas.List.Sums.{prefix_len-le-length}
use Rattle.std.proofs.lemmas.Iterator.{YieldsList-from_slice}
use Rattle.std.proofs.lemmas.Iterator.Search.{position_from_yields_List}
use borrow.Author.Tests.{tests}
use Rattle.notation.proofs.words.space.Goals as goal

-- the place that was found, or else the end
place_or_end : (p n : ℕ) → p ≤ n → unwrap_or (cond (ltb p n) (Some p) None) n ≡ p
place_or_end p n h = grind (arith, common_steps)

pub returns-clause-value : goal.returns-clause-value
returns-clause-value c =
    let line = c.args.line.now in
    let found = position_from_yields_List (λ b. eqb b 32) _ _ c.position.result c.position.ensures.ran (YieldsList-from_slice line cc) (λ x b q k. search (rules, tests)) in
    c.unwrap_or.ensures ∙ (ap (λ (r : Option ℕ). unwrap_or r (length line)) found
    ∙ place_or_end (position_or_len (λ b. eqb b 32) line) (length line) (prefix_len-le-length _ line))
