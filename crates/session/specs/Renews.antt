-- What taking the first message of a new link comes to, and what it leaves of the key box.
-- Assumes nothing.
use Rattle.std.specs.Prelude.{◌≡◌, ℕ, ◌+◌, ◌<◌, ◌≤◌, true, false, List, ◌++◌, map, take, drop, Some, None, Option}
use Rattle.seal.specs.declared.keys.MessageKey.{MessageKey}
use Rattle.ratchet.specs.Numbers.{number}
use Rattle.ratchet.specs.declared.sides.Side.{Side}
use Rattle.chain.specs.Bytes as links
use Rattle.keybox.specs.Box.{Keys, Scheme}
use Rattle.keybox.specs.Renewal.{Unmade}
use Rattle.keybox.specs.declared.errors.KeyError.{KeyError}
use Rattle.wire.specs.declared.header.Header.{Header}
use Rattle.exchange.specs.Outside.{Draw, Outside}
use Rattle.exchange.specs.Held.{Held}
use Rattle.exchange.specs.Exchanges as exchange
use Rattle.session.specs.declared.sessions.Session.{Session}
use Rattle.session.specs.declared.answers.Taken.{Taken}
use Rattle.session.specs.declared.answers.Taken.TheVariants.{Opened, Refused, NoKey}
use Rattle.session.specs.declared.begun.Begun.{Begun}
use Rattle.session.specs.declared.incoming.Incoming.{Incoming}
use Rattle.session.specs.Ours.{AnyBox, ours, draw_of}
use Rattle.session.specs.Views.{held_of, key_in}
use Rattle.session.specs.Takes.{Opens, Stays, parts_of}

-- a link begun with the key in force: its parts, and the text of the message at its place
pub record Begins (scheme : Scheme) (own : ℕ) (s : Session) (m : Incoming) (text : List ℕ) (b : Begun) : Type 0 where
  pub joint : List ℕ
  pub gives : scheme.joint_of own m.header.half.0 ≡ Some joint
  pub root : b.root.0 ≡ links.root_bytes (links.mix_bytes s.root.0 joint)
  pub chain : b.chain.0 ≡ links.chain_bytes (links.mix_bytes s.root.0 joint)
  pub next : b.next.0 ≡ links.next_bytes (links.chain_along m.header.message.mark.place b.chain.0)
  pub short : b.size ≤ 1000
  pub opens : AnyBox (λ o. exchange.text_under o (links.key_bytes (links.chain_along m.header.message.mark.place b.chain.0)) (parts_of m) ≡ Some (take b.size text))

-- a key was drawn, none that was drawn before, and is in force
pub record Draws (before after : Keys) (key : ℕ) : Type 0 where
  pub last : after.last ≡ Some key
  pub fresh : after.fresh ≡ None
  pub new : before.next ≤ key
  pub past : key < after.next

module _ {B : Type 0} (keys : B → Keys) where
  -- none was to be had, and the box is as it was; or one that doesn't go with the half that came was forgotten
  abbrev pub Unrenewed : (before after : B) → Type 0
  Unrenewed before after = (why : KeyError) × Unmade keys before after why

  -- the side turned to a new link: the next one is made with the key drawn; so many keys of the old link and of the new one are put aside
  pub record Turns (scheme : Scheme) (s t : Session) (side : Side) (b : Begun) (h : Header) (left : ℕ) (before after : List MessageKey) (box box' : B) : Type 0 where
    pub key : ℕ
    pub draws : Draws (keys box) (keys box') key
    pub joint : List ℕ
    pub gives : scheme.joint_of key h.half.0 ≡ Some joint
    pub half : t.half.0 ≡ scheme.half_of key
    pub root : t.root.0 ≡ links.root_bytes (links.mix_bytes b.root.0 joint)
    pub sending : t.sending.0 ≡ links.chain_bytes (links.mix_bytes b.root.0 joint)
    pub taking : t.taking.0 ≡ b.next.0
    pub turned : t.side ≡ side
    pub put : AnyBox (λ o. map key_in (take (s.side.count + left + h.message.mark.place) after) ≡ map key_in (take s.side.count before) ++ exchange.keys_along o left s.taking.0 ++ exchange.keys_along o h.message.mark.place b.chain.0)
    pub rest : drop (s.side.count + left + h.message.mark.place) after ≡ drop (s.side.count + left + h.message.mark.place) before

  abbrev pub Turning : (scheme : Scheme) (s : Session) (side : Side) (b : Begun) (h : Header) (left : ℕ) (before after : List MessageKey) (box box' : B) → Taken → Type 0
  Turning scheme s side b h left before after box box' (Opened t size) = (size ≡ b.size) × Turns scheme s t side b h left before after box box'
  Turning scheme s side b h left before after box box' (Refused t why) = ⊥
  Turning scheme s side b h left before after box box' (NoKey t) = (t ≡ s) × (after ≡ before) × Unrenewed box box'

  -- opened: with the keys at hand, or with a key drawn for it
  pub data Opening (answer : Option Draw → exchange.Taken) (s t : Session) (before after : List MessageKey) (text : List ℕ) (size : ℕ) (box box' : B) : Type 0 where
    stayed : box' ≡ box → ((fresh : Option Draw) → Opens (answer fresh) false s t before after text size) → Opening answer s t before after text size box box'
    drew : (key : ℕ) → Draws (keys box) (keys box') key → Opens (answer (Some (draw_of key))) true s t before after text size → Opening answer s t before after text size box box'

  -- what a call comes to, given the answer for each key that the box may give
  abbrev pub Taking : (answer : Option Draw → exchange.Taken) (s : Session) (before after : List MessageKey) (text : List ℕ) (box box' : B) → Taken → Type 0
  Taking answer s before after text box box' (Opened t size) = Opening answer s t before after text size box box'
  Taking answer s before after text box box' (Refused t why) = (box' ≡ box) × ((fresh : Option Draw) → Stays (answer fresh) (exchange.kept_out (number why)) s t before after)
  Taking answer s before after text box box' (NoKey t) = Unrenewed box box' × Stays (answer None) exchange.no_key s t before after

  -- a step of the exchange, with the key that is in force
  abbrev pub Answers : Scheme → (step : Outside → (own : Draw) → Option Draw → Held → exchange.Taken) (s : Session) (before after : List MessageKey) (text : List ℕ) (box box' : B) → Taken → Type 0
  Answers scheme step s before after text box box' r =
      (k : ℕ) → (keys box).last ≡ Some k → Taking (λ fresh. step (ours scheme) (draw_of k) fresh (held_of s before)) s before after text box box' r

  -- what holds of each answer, whatever the box holds: a refusal leaves the session, its slots and the box as they were
  abbrev pub Leaves : (s : Session) (before after : List MessageKey) (box box' : B) → Taken → Type 0
  Leaves s before after box box' (Opened t size) = size ≤ 1000
  Leaves s before after box box' (Refused t why) = (t ≡ s) × (after ≡ before) × (box' ≡ box)
  Leaves s before after box box' (NoKey t) = (t ≡ s) × (after ≡ before) × Unrenewed box box'

-- the text stands at the front of the output, which otherwise is as it was; without a text all of it is
abbrev pub Outputs : (before after : List ℕ) → Taken → Type 0
Outputs before after (Opened t size) = drop size after ≡ drop size before
Outputs before after (Refused t why) = after ≡ before
Outputs before after (NoKey t) = after ≡ before

-- the front is that of the text
abbrev pub Fronts : (text out : List ℕ) → Taken → Type 0
Fronts text out (Opened t size) = take size out ≡ take size text
Fronts text out (Refused t why) = Unit {0}
Fronts text out (NoKey t) = Unit {0}

-- a text is not too long
abbrev pub Short : Taken → Type 0
Short (Opened t size) = size ≤ 1000
Short (Refused t why) = Unit {0}
Short (NoKey t) = Unit {0}
