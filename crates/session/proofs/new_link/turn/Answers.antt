-- The key drawn comes into force, and the keys of the old link and then of the new one are put aside.
use Rattle.std.proofs.Common.{refl}
use Rattle.session.proofs.Draws.{in_force}
use Rattle.session.proofs.NewLinks.{both_keys, both_rest}
use Rattle.session.proofs.new_link.turn.Goals as goal

pub returns-in-Ok : goal.returns-in-Ok
returns-in-Ok g c =
    let made = c.in-Ok.ensures in
    let s = c.args.session in
    let slots = c.args.slots.now in (
      refl,
      record {
        key = made.drawn.key;
        draws = in_force g.B.KeyBox.scheme _ _ _ _ made.drawn c.keep.ensures;
        joint = c.in-Ok.onward.0;
        gives = made.gives;
        half = made.drawn.half_is;
        root = c.link.ensures.root_is;
        sending = c.link.ensures.chain_is;
        taking = refl;
        turned = refl;
        put = λ scheme. both_keys slots c.put_along.new.slots c.put_along-in-Ok.new.slots s.side.count c.args.left _ _ _ (c.put_along.ensures.keys scheme) (c.put_along-in-Ok.ensures.keys scheme);
        rest = both_rest slots c.put_along.new.slots c.put_along-in-Ok.new.slots s.side.count c.args.left _ c.put_along.ensures.rest c.put_along-in-Ok.ensures.rest;
      },
    )
