-- Link, place and key, one behind another.
use Rattle.std.proofs.Common.{◌≡◌, ◌+◌, ◌++◌, length, take, drop, sym, refl, ◌∙◌, arith, take-append-drop}
use Rattle.std.proofs.lemmas.List.{length-take-le}
use Rattle.exchange.specs.Wire.{four_bytes}
use Rattle.page.specs.Layout.{entry_bytes}
use Rattle.page.proofs.Puts.{put_next, grouped, length-behind}
use Rattle.page.proofs.putting.put_entry.Goals as goal

pub returns : goal.returns
unfolding entry_bytes
returns c =
    let was = c.args.out.now in
    let at = c.args.at in
    let front = take at was in
    let link = four_bytes c.args.mark.link in
    let place = four_bytes c.args.mark.place in
    let key = c.args.key.now.0 in
    let long : length front ≡ at = length-take-le at was (omega arith) in
    let one = put_next was was _ front _ link at (at + 4) c.to_be_bytes.ensures long refl (sym (take-append-drop at was)) c.put.ensures in
    let size = length-behind front link at 4 long refl in
    let two = put_next was _ _ _ _ place (at + 4) (at + 8) c.to_be_bytes-2.ensures size (omega arith) one c.put-2.ensures in
    let size2 = length-behind (front ++ link) place (at + 4) 4 size refl in
    let three = put_next was _ _ _ _ key (at + 8) (at + 40) refl (size2 ∙ omega arith) (omega arith) two c.put-3.ensures in
    three ∙ grouped front link place key (drop (at + 40) was)
