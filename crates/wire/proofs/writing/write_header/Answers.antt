-- The six parts make the header, and it is read back.
use Rattle.std.proofs.Common.{ℕ, List, ◌++◌, replicate, ap, ◌∙◌, arith}
use Rattle.wire.specs.Layout.{reading}
use Rattle.wire.specs.Laws.{Writable}
use Rattle.wire.proofs.Lawful.{put_together, back}
use Rattle.wire.proofs.writing.write_header.Goals as goal

pub returns-clause-bytes : goal.returns-clause-bytes
returns-clause-bytes c =
    put_together c.args.header.now (omega arith) (replicate 47 0)
    c.put.new.items c.put-2.new.items c.put-3.new.items c.put-4.new.items c.put-5.new.items c.put-6.new.items
    c.to_be_bytes.result c.to_be_bytes-2.result c.to_be_bytes-3.result c.to_be_bytes-4.result
    c.to_be_bytes.ensures c.to_be_bytes-2.ensures c.to_be_bytes-3.ensures c.to_be_bytes-4.ensures
    (omega arith) (omega arith) (omega arith) (omega arith) (omega arith) (omega arith)
    c.put.ensures c.put-2.ensures c.put-3.ensures c.put-4.ensures c.put-5.ensures c.put-6.ensures

pub returns-clause-back : goal.returns-clause-back
returns-clause-back c =
    let w : Writable c.args.header.now = record { link = omega arith; place = omega arith; before = omega arith; half = omega arith; text = omega arith } in
    λ behind long short. ap (λ (x : List ℕ). reading (x ++ behind)) (returns-clause-bytes c) ∙ back c.args.header.now behind w long short
