-- The counts and the keys in use, one behind another.
use Rattle.std.proofs.Common.{rules}
use Rattle.session.specs.Views.{held_of}
use Rattle.page.proofs.Puts.{front-put}
use Rattle.page.proofs.writing.put_front.Goals as goal

pub returns : goal.returns
returns c = λ slots.
    front-put (held_of c.args.session.now slots) c.args.out.now _ _ _ _ _ (search rules) (search rules) (search rules) (search rules)
    c.put_counts.ensures c.put.ensures c.put-2.ensures c.put-3.ensures c.put-4.ensures
