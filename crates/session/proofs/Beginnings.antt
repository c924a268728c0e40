-- A session that begins holds nothing aside.
use Rattle.std.proofs.Common.{◌≡◌, ℕ, List, [], map, length, take, Some, Option, sym, ap, ◌∙◌, arith}
use Rattle.std.proofs.lemmas.List.{length-take-le}
use Rattle.seal.specs.declared.keys.MessageKey.{MessageKey}
use Rattle.ratchet.specs.declared.sides.Side.{Side}
use Rattle.ratchet.specs.State.{State, state_of, begun}
use Rattle.chain.specs.Bytes as links
use Rattle.keybox.specs.Box.{Keys, Scheme, Drawn, settled}
use Rattle.exchange.specs.Held.{Held, blank}
use Rattle.exchange.specs.Exchanges as exchange
use Rattle.session.specs.declared.sessions.Session.{Session}
use Rattle.session.specs.Ours.{ours, draw_of}
use Rattle.session.specs.Views.{held_of, key_in}
use Rattle.session.specs.Starts.{Starts}
use Rattle.session.proofs.Draws.{number-draw, in_force}

pub none-aside : (side : Side) (n : ℕ) → length side.marks ≡ 512 → state_of side ≡ begun n → side.count ≡ 0
none-aside side n size e =
    let few = side.few in
    let none : take side.count side.marks ≡ [] = ap (λ (s : State). s.skipped) e in
    omega (arith, ap length none, length-take-le side.count side.marks (omega arith))

module _ (scheme : Scheme) (key : ℕ) (s : Session) (secret : List ℕ) (slots : List MessageKey)
    (size : length s.side.marks ≡ 512) (half : s.half.0 ≡ scheme.half_of key) (taking : s.taking.0 ≡ blank) where
  same_half : s.half.0 ≡ (ours scheme).half (draw_of key)
  same_half = half ∙ ap scheme.half_of (sym (number-draw key))

  pub second_holds : state_of s.side ≡ begun 0 → s.root.0 ≡ secret → s.sending.0 ≡ blank → exchange.begin_second (ours scheme) (draw_of key) secret ≡ held_of s slots
  second_holds state root sending =
      let h = same_half in
      let keys = ap (λ (n : ℕ). map key_in (take n slots)) (none-aside s.side 0 size state) in
      cc

  pub first_holds : (theirs joint : List ℕ) → state_of s.side ≡ begun 1 → scheme.joint_of key theirs ≡ Some joint → s.root.0 ≡ links.root_bytes (links.mix_bytes secret joint) →
      s.sending.0 ≡ links.chain_bytes (links.mix_bytes secret joint) → exchange.begin_first (ours scheme) (draw_of key) theirs secret ≡ Some (held_of s slots)
  first_holds theirs joint state gives root sending =
      let h = same_half in
      let keys = ap (λ (n : ℕ). map key_in (take n slots)) (none-aside s.side 1 size state) in
      let begins : List ℕ → Option Held = λ j. Some (record { state = begun 1; root = links.root_bytes (links.mix_bytes secret j); sending = links.chain_bytes (links.mix_bytes secret j); taking = blank; half = (ours scheme).half (draw_of key); keys = [] }) in
      let held : begins joint ≡ Some (held_of s slots) = cc in
      ap (λ (x : Option (List ℕ)). exchange.and_then x begins) (ap (λ (n : ℕ). scheme.joint_of n theirs) (number-draw key) ∙ gives) ∙ held

-- with a key that was drawn and kept
module _ {B : Type 0} (keys : B → Keys) (scheme : Scheme) (box box' : B) (drawn : Keys) (s : Session) (d : Drawn scheme (keys box) drawn s.half.0) (kept : keys box' ≡ settled drawn)
    (size : length s.side.marks ≡ 512) (taking : s.taking.0 ≡ blank) where
  pub starts_second : (secret : List ℕ) → state_of s.side ≡ begun 0 → s.root.0 ≡ secret → s.sending.0 ≡ blank →
      Starts keys (λ draw. Some (exchange.begin_second (ours scheme) draw secret)) s box box'
  starts_second secret state root sending = record {
    key = d.key;
    draws = in_force scheme (keys box) drawn (keys box') s.half.0 d kept;
    held = λ slots. ap (λ (h : Held). Some h) (second_holds scheme d.key s secret slots size d.half_is taking state root sending);
    empty = none-aside s.side 0 size state;
  }

  pub starts_first : (secret theirs joint : List ℕ) → state_of s.side ≡ begun 1 → scheme.joint_of d.key theirs ≡ Some joint → s.root.0 ≡ links.root_bytes (links.mix_bytes secret joint) →
      s.sending.0 ≡ links.chain_bytes (links.mix_bytes secret joint) → Starts keys (λ draw. exchange.begin_first (ours scheme) draw theirs secret) s box box'
  starts_first secret theirs joint state gives root sending = record {
    key = d.key;
    draws = in_force scheme (keys box) drawn (keys box') s.half.0 d kept;
    held = λ slots. first_holds scheme d.key s secret slots size d.half_is taking theirs joint state gives root sending;
    empty = none-aside s.side 1 size state;
  }
