use Rattle.std.proofs.Common.{◌-◌, length, arith}
use Rattle.seal.specs.Sealing.{sealed}
use Rattle.seal_vectors.proofs.Headed.{put_back, headed}
use Rattle.seal_vectors.proofs.message.write.Goals as goal

pub returns-in_default : goal.returns-in_default
returns-in_default c = put_back c.args.message.now c.seal.new.out 47 (length c.args.message.now - 47) c.in_default.ensures.output

pub returns : goal.returns
returns c =
    headed c.args.message.now c.seal.new.out c.copy_from_slice.new.self c.args.header.now (sealed c.args.key.now.0 c.args.header.now c.args.text.now) c.in-Ok.size (omega arith) c.copy_from_slice.ensures.after c.in-Ok.ensures.output
