use Rattle.std.proofs.Common.{◌≡◌, ◌*◌, ◌≤◌, map, take, length}
use Rattle.session.specs.Views.{key_in}
use Rattle.page.specs.Layout.{aside_bytes}
use Rattle.page.proofs.putting.put_aside.Given as goal

abbrev pub invariant-loop-mark : goal.invariant-loop-mark
invariant-loop-mark l = record {
  here : l.at ≡ 40 * length l.yielded;
  so_far : take l.at l.out ≡ aside_bytes (take (length l.yielded) l.marks) (map key_in (take (length l.yielded) l.keys));
  within : length l.yielded ≤ length l.marks;
}
