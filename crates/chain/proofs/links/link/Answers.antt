-- 64 bytes are never refused, and the first 32 and the others are the root and the chain.
use Rattle.std.proofs.Common.{◌≡◌, ℕ, ◌<◌, ◌≤◌, List, take, drop, Ok, Err, Result, ap, ◌∙◌, arith, length-drop, MatchResult}
use Rattle.std.proofs.lemmas.List.{take_all}
use Rattle.digest.specs.Hkdf.{most}
use Rattle.digest.specs.declared.expand.TooLong.{TooLong}
use Rattle.chain.proofs.Recipes.{linked}
use Rattle.chain.specs.Bytes.{mix_bytes}
use Rattle.chain.proofs.links.link.Goals as goal

never-refused : (r : Result (Unit {0}) TooLong) (out made before : List ℕ) →
    MatchResult r (λ _. (64 ≤ most) × (out ≡ made)) (λ _. (most < 64) × (out ≡ before)) → out ≡ made
never-refused (Ok _) out made before h = h.1
never-refused (Err _) out made before h = absurd (omega (arith, h.0))

pub returns : goal.returns
returns c =
    let made : c.hkdf.new.out ≡ mix_bytes c.args.root.now.0 c.args.joint.now.0 = never-refused c.hkdf.result _ _ _ c.hkdf.ensures in
    linked c.args.root.now.0 c.args.joint.now.0 _ _
    (c.work_into_first.ensures ∙ c.part_at-first.ensures ∙ ap (λ (x : List ℕ). take 32 x) made)
    (c.part_at-last.ensures ∙ take_all 32 (drop 32 c.hkdf.new.out) (omega (arith, length-drop 32 c.hkdf.new.out)) ∙ ap (λ (x : List ℕ). drop 32 x) made)
