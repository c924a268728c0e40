-- Each turn works out the next block and writes what of it finds room.
use Rattle.std.proofs.Common.{◌≡◌, ℕ, ◌+◌, List, length, take, sym, refl, ap, ◌∙◌, arith}
use native.Mathlib.Nat.{sub-zero}
use Rattle.digest.specs.Hkdf.{hkdf_t}
use Rattle.digest.proofs.Joined.{hkdf_t-more, hkdf_t-none, hkdf_t-whole, put_all, put_more, put_none}
use Rattle.digest.proofs.expand.expand_key.Goals as goal

pub loop-i-init : goal.loop-i-init
loop-i-init c =
    (put_none c.args.key.now c.args.info.now (length c.args.out.now), sym (hkdf_t-none c.args.key.now c.args.info.now), refl)

pub loop-i-preserved : goal.loop-i-preserved
loop-i-preserved c =
    let key : List ℕ = c.args.key.now in
    let info : List ℕ = c.args.info.now in
    let i : ℕ = c.loop-i.i in
    let next : List ℕ = c.next_block-next.result in
    let before = ap (λ (n : ℕ). take n c.loop-i.block) (sub-zero c.min-before.result ∙ c.min-before.ensures) ∙ c.loop-i.invariant.1 in
    let same : next ≡ hkdf_t key info (i + 1) = hkdf_t-more key info _ next i _ before refl (c.next_block-next.ensures key c.begin.ensures) in
    let cut = ap (λ (n : ℕ). take n next) (sub-zero c.min-size.result ∙ c.min-size.ensures) in (
      put_more key info c.loop-i.out next _ _ i (length c.args.out.now) (omega arith) c.loop-i.invariant.0 same cut c.put.ensures (omega arith),
      hkdf_t-whole key info next i same,
      omega arith,
    )

pub returns : goal.returns
returns c = c.work_into_first.ensures ∙ put_all c.args.key.now c.args.info.now c.loop-i.out c.loop-i.i (length c.args.out.now) (omega arith) (omega arith) c.loop-i.invariant.0
