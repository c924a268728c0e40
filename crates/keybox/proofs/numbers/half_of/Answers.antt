-- The side and the draw, in their places among zeros.
use Rattle.std.proofs.Common.{◌∙◌}
use Rattle.keybox.proofs.Named.{half-put}
use Rattle.keybox.proofs.numbers.half_of.Goals as goal

pub returns : goal.returns
returns c = half-put c.args.who c.args.draw c.copy_from_slice.new.self (c.copy_from_slice.ensures.after ∙ c.to_be_bytes.ensures)
