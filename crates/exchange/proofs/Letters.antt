-- Letters: which are on the net, and what those are that a side sealed.
use Rattle.std.proofs.Common.{◌≡◌, ℕ, zero, suc, ◌-◌, ◌^◌, ◌<◌, ◌≤◌, true, List, [], ◌∷◌, ◌++◌, length, get_or, Some, sym, refl, ap, ◌∙◌, subst, inl, inr, arith}
use Rattle.std.specs.List.{ContainsAt as Has}
use Rattle.std.proofs.lemmas.Bool.{false≢true, or_cases, or_left, or_right, cases_order}
use Rattle.std.proofs.lemmas.List.{length-map}
use Rattle.ratchet.specs.declared.types.Message.{Message}
use Rattle.ratchet.specs.Same.{same_message}
use Rattle.ratchet.specs.State.{State}
use Rattle.ratchet.specs.Steps.{message}
use Rattle.runs.specs.World.{among}
use Rattle.chain.specs.Secret.{shared}
use Rattle.runs.specs.Stock.{key_of}
use Rattle.runs.specs.Laws.{keys_of, NoneTwice}
use Rattle.runs.proofs.Messages.{same-message, message-same}
use Rattle.exchange.specs.Outside.{Outside, Lawful, same_bytes, seal}
use Rattle.exchange.specs.Wire.{Parts, parts_of, header_bytes, read_message, Writable}
use Rattle.exchange.specs.Held.{Ground, draw_of, key_bytes_of, hold}
use Rattle.exchange.specs.Exchanges.{message_bytes}
use Rattle.exchange.specs.Network.{Letter}
use Rattle.exchange.specs.Model.{messages, on_net}
use Rattle.exchange.proofs.Wires.{round, read_well}
use Rattle.exchange.proofs.Tags.{same_bytes_lem, seal_length}
use Rattle.exchange.proofs.Holds.{sends_key}
use Rattle.exchange.proofs.Opening.{half_for, header_for, body_for, parts_for}

-- ### Lists of letters

has_first : (x : Letter) (xs : List Letter) → Has (x ∷ xs) x
has_first x xs = (0, omega arith, λ d. refl)

has-later : (x y : Letter) (xs : List Letter) → Has xs y → Has (x ∷ xs) y
has-later x y xs h = (suc h.0, omega (arith, h.1), λ d. h.2 d)

-- bytes that are on the net are those of some letter
pub on_net_lem : (bytes : List ℕ) (ls : List Letter) → on_net bytes ls ≡ true → (l : Letter) × Has ls l × (l.bytes ≡ bytes)
unfolding on_net
on_net_lem bytes [] h = absurd (false≢true h)
on_net_lem bytes (x ∷ xs) h = elim (or_cases (same_bytes x.bytes bytes) (on_net bytes xs) h) [
  | inl e ↦ (x, has_first x xs, same_bytes_lem x.bytes bytes e)
  | inr k ↦ let r = on_net_lem bytes xs k in (r.0, has-later x r.0 xs r.1, r.2)
]

among-at : (ls : List Letter) (k : ℕ) (l : Letter) → k < length ls → ((d : Letter) → get_or ls k d ≡ l) → among l.message (messages ls) ≡ true
unfolding among
among-at [] k l h e = absurd (omega arith)
among-at (x ∷ xs) zero l h e = or_left (same_message x.message l.message) _ (message-same x.message l.message (ap (λ (y : Letter). y.message) (e x)))
among-at (x ∷ xs) (suc k) l h e = or_right (same_message x.message l.message) _ (among-at xs k l (omega arith) e)

pub has-among : (ls : List Letter) (l : Letter) → Has ls l → among l.message (messages ls) ≡ true
has-among ls l h = among-at ls h.0 l h.1 h.2

pub among-has : (m : Message) (ls : List Letter) → among m (messages ls) ≡ true → (l : Letter) × Has ls l × (l.message ≡ m)
unfolding among
among-has m [] h = absurd (false≢true h)
among-has m (x ∷ xs) h = elim (or_cases (same_message x.message m) (among m (messages xs)) h) [
  | inl e ↦ (x, has_first x xs, same-message x.message m e)
  | inr k ↦ let r = among-has m xs k in (r.0, has-later x r.0 xs r.1, r.2)
]

-- letters with different keys are told apart by what their headers say
key-at : (ls : List Letter) (i : ℕ) (l : Letter) → i < length ls → ((d : Letter) → get_or ls i d ≡ l) → get_or (keys_of (messages ls)) i shared ≡ key_of l.message.mark
key-at [] i l h e = absurd (omega arith)
key-at (x ∷ xs) zero l h e = ap (λ (y : Letter). key_of y.message.mark) (e x)
key-at (x ∷ xs) (suc i) l h e = key-at xs i l (omega arith) e

pub told-apart : (ls : List Letter) → NoneTwice (keys_of (messages ls)) → (l l' : Letter) → Has ls l → Has ls l' → l.message ≡ l'.message → l ≡ l'
told-apart ls once l l' a b e =
    let n : length (keys_of (messages ls)) ≡ length ls = length-map (messages ls) (λ (m : Message). key_of m.mark) ∙ length-map ls (λ (x : Letter). x.message) in
    let x = key-at ls a.0 l a.1 a.2 in
    let y = key-at ls b.0 l' b.1 b.2 in
    let k = ap (λ (m : Message). key_of m.mark) e in
    elim (cases_order a.0 b.0) [
      | inl i ↦ sym (a.2 l) ∙ (ap (λ j. get_or ls j l) i ∙ b.2 l)
      | inr d ↦ elim d [
        | inl u ↦ absurd (once a.0 b.0 u (omega (arith, b.1)) (x ∙ (k ∙ sym y)))
        | inr u ↦ absurd (once b.0 a.0 u (omega (arith, a.1)) (y ∙ (sym k ∙ sym x)))
      ]
    ]

-- ### What a side sealed

-- its numbers can be written, and its bytes are those that the model's key and the sender's half make
pub record Proper (o : Outside) (g : Ground) (l : Letter) : Type 0 where
  pub short : length l.text ≤ 1000
  pub link : l.message.mark.link < 2 ^ 32
  pub place : l.message.mark.place < 2 ^ 32
  pub before : l.message.before < 2 ^ 32
  pub bytes : l.bytes ≡ header_for o g l.message l.text ++ body_for o g l.message l.text

module _ (o : Outside) (k : Lawful o) (g : Ground) where
  -- so it is read as what it was
  pub proper_read : (l : Letter) → Proper o g l → read_message l.bytes ≡ Some (parts_for o g l.message l.text)
  proper_read l h =
      let m : Message = l.message in
      let body : List ℕ = body_for o g m l.text in
      let size = seal_length o k (key_bytes_of o g m.mark) (header_for o g m l.text) l.text in
      let w : Writable m (half_for o g m) body = record {
        link = h.link;
        place = h.place;
        before = h.before;
        half_length = k.half_length (draw_of g (suc m.mark.link));
        tagged = omega (arith, size);
        short = omega (arith, size, h.short);
      } in
      let n : length body - 16 ≡ length l.text = omega (arith, size) in
      let P : ℕ → Type 0 = λ i.
      read_message (header_bytes m (half_for o g m) i ++ body) ≡ Some (record { header = header_bytes m (half_for o g m) i; message = m; half = half_for o g m; body = body }) in
      ap read_message h.bytes ∙ subst P n (round m (half_for o g m) body w).back

  pub proper_message : (l : Letter) → Proper o g l → (parts_of l.bytes).message ≡ l.message
  proper_message l h = ap (λ (p : Parts). p.message) (sym (read_well l.bytes _ (proper_read l h)).1)

-- the next message of a side that holds what the model says
pub next-bytes : (o : Outside) (g : Ground) (s : State) (text : List ℕ) → 0 < s.drawn →
    message_bytes o (hold o g s) text ≡ header_for o g (message s) text ++ body_for o g (message s) text
unfolding message_bytes
next-bytes o g s text d =
    let e : s.drawn ≡ suc (s.drawn - 1) = omega arith in
    let half = ap (λ n. o.half (draw_of g n)) e in
    let key = sends_key o g s d in
    λ i. header_bytes (message s) (half i) (length text) ++ seal o (key i) (header_bytes (message s) (half i) (length text)) text
