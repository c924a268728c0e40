-- Extract, then expand.
use Rattle.std.proofs.Common.{ℕ, List, length, sym, ap, ◌∙◌, arith}
use Rattle.std.proofs.lemmas.Bool.{eqb-true}
use Rattle.digest.specs.Hkdf.{expanded, extracted, hkdf_sha_256}
use Rattle.digest.proofs.Joined.{expanded-none}
use Rattle.digest.proofs.expand.hkdf.Goals as goal

pub returns-then-is_empty : goal.returns-then-is_empty
unfolding hkdf_sha_256
returns-then-is_empty c = (omega arith, expanded-none (extracted c.args.salt.now c.args.input.now) c.args.info.now c.args.out.now (eqb-true (length c.args.out.now) 0 (sym c.is_empty.ensures ∙ c.if-is_empty.true)))

pub returns : goal.returns
unfolding hkdf_sha_256 extracted
returns c = (
  omega arith,
  c.work_into_first.ensures ∙ (c.expand_key.ensures ∙ ap (λ (k : List ℕ). expanded k c.args.info.now (length c.args.out.now)) c.hmac-key.ensures),
)
