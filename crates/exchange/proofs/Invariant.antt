-- What holds of the world after every run on bytes, and how a step of one side keeps it.
use Rattle.std.proofs.Common.{◌≡◌, ℕ, ◌+◌, ◌*◌, ◌^◌, ◌<◌, List, [], ◌++◌, length, sym, refl, subst}
use Rattle.std.specs.List.{ContainsAt as Has, AllByRecursion as All}
use Rattle.std.proofs.ByRecursion.{All-push}
use Rattle.std.proofs.lemmas.List.{append-nil}
use Rattle.ratchet.specs.State.{State}
use Rattle.runs.specs.declared.types.Who.{Who}
use Rattle.runs.specs.declared.types.Who.TheVariants.{First, Second}
use Rattle.runs.specs.World.{other}
use Rattle.exchange.specs.Outside.{Outside}
use Rattle.exchange.specs.Held.{Ground, draw_of, hold}
use Rattle.exchange.specs.Network.{Letter, Party, Reading, World, reads, party, with_party, own_of, step}
use Rattle.exchange.specs.Model.{draws_of}
use Rattle.exchange.specs.Promise.{read_as}
use Rattle.exchange.proofs.Draws.{Rising, parity, Known, known-before, known-own}
use Rattle.exchange.proofs.Letters.{Proper}

-- ### One side

-- its counts can be written
pub record Counted (s : State) : Type 0 where
  pub drawn : s.drawn < 2 ^ 32
  pub sent : s.sent < 2 ^ 32
  pub before : s.before < 2 ^ 32

-- apart from bytes: its draws go with the number of its last key, what is handed out was opened, and what left was sealed
pub record Own (who : Who) (p : Party) : Type 0 where
  pub counted : Counted p.held.state
  pub count : p.held.state.drawn ≡ 2 * length p.box.past + parity who
  pub rising : Rising (draws_of p.box) p.box.made
  pub handed : (l : Letter) → Has p.handed l → Has p.opened l
  pub left : (l : Letter) → Has p.left l → Has p.sealed l

-- its bytes, given a table of draws
pub record Bytes (o : Outside) (g : Ground) (p : Party) : Type 0 where
  pub held : p.held ≡ hold o g p.held.state
  pub proper : (l : Letter) → Has p.sealed l → Proper o g l

-- ### The world

-- the table knows the draws that are or were in force
pub record Agrees (secret : List ℕ) (g : Ground) (w : World) : Type 0 where
  pub begins : g.secret ≡ secret
  pub known : (who : Who) → Known g.draws who (draws_of (party who w).box)

pub record Inv (o : Outside) (secret : List ℕ) (w : World) : Type 0 where
  pub own : (who : Who) → Own who (party who w)
  pub opened : (who : Who) (l : Letter) → Has (party who w).opened l → Has (party (other who) w).left l
  pub bytes : (g : Ground) → Agrees secret g w → (who : Who) → Bytes o g (party who w)
  pub readings : (g : Ground) → Agrees secret g w → All (λ (r : Reading). r ≡ read_as o g r.held.state) w.readings

-- ### Whichever side it is

each : (who : Who) (q : Party) (w : World) (R : Who → Party → Type 0) → R who q → R (other who) (party (other who) w) → (x : Who) → R x (party x (with_party who q w))
each First q w R a b First = a
each First q w R a b Second = b
each Second q w R a b First = b
each Second q w R a b Second = a

between : (who : Who) (q : Party) (w : World) (R : Party → Party → Type 0) → R q (party (other who) w) → R (party (other who) w) q →
    (x : Who) → R (party x (with_party who q w)) (party (other x) (with_party who q w))
between First q w R a b First = a
between First q w R a b Second = b
between Second q w R a b First = b
between Second q w R a b Second = a

back : (who : Who) (q : Party) (w : World) (R : Who → Party → Type 0) → (R who q → R who (party who w)) → (x : Who) → R x (party x (with_party who q w)) → R x (party x w)
back First q w R f First r = f r
back First q w R f Second r = r
back Second q w R f First r = r
back Second q w R f Second r = f r

same : (who : Who) (q : Party) (w : World) (R : Party → Type 0) → R (party who (with_party who q w)) → R q
same First q w R r = r
same Second q w R r = r

same-readings : (who : Who) (q : Party) (w : World) → (with_party who q w).readings ≡ w.readings
same-readings First q w = refl
same-readings Second q w = refl

pub other-twice : (who : Who) → other (other who) ≡ who
other-twice First = refl
other-twice Second = refl

-- ### A step of one side

pub record Moves (o : Outside) (secret : List ℕ) (w : World) (who : Who) (q : Party) : Type 0 where
  pub own : Own who q
  pub opened : (l : Letter) → Has q.opened l → Has (party (other who) w).left l
  pub left : (l : Letter) → Has (party who w).left l → Has q.left l
  pub grows : (ds : List ℕ) × (draws_of q.box ≡ draws_of (party who w).box ++ ds)
  pub bytes : (g : Ground) → Agrees secret g w → Known g.draws who (draws_of q.box) → Bytes o g q

module _ (o : Outside) (secret : List ℕ) (w : World) (v : Inv o secret w) where
  pub moves_nothing : (who : Who) → Moves o secret w who (party who w)
  moves_nothing who = record {
    own = v.own who;
    opened = v.opened who;
    left = λ l h. h;
    grows = ([], sym (append-nil (draws_of (party who w).box)));
    bytes = λ g a k. v.bytes g a who;
  }

  module _ (who : Who) (q : Party) (m : Moves o secret w who q) where
    -- a table of the world after it is one of the world before it
    pub agrees_before : (g : Ground) → Agrees secret g (with_party who q w) → Agrees secret g w
    agrees_before g a = record {
      begins = a.begins;
      known = λ x. back who q w (λ y p. Known g.draws y (draws_of p.box))
          (λ k. known-before g.draws who (draws_of (party who w).box) m.grows.0 (let P : List ℕ → Type 0 = Known g.draws who in subst P m.grows.1 k)) x (a.known x);
    }

    pub moved : Inv o secret (with_party who q w)
    moved = record {
      own = each who q w Own m.own (v.own (other who));
      opened = between who q w (λ a b. (l : Letter) → Has a.opened l → Has b.left l) m.opened
          (λ l h. m.left l (let P : Who → Type 0 = λ x. Has (party x w).left l in subst P (other-twice who) (v.opened (other who) l h)));
      bytes = λ g a. each who q w (λ x p. Bytes o g p)
          (m.bytes g (agrees_before g a) (same who q w (λ p. Known g.draws who (draws_of p.box)) (a.known who))) (v.bytes g (agrees_before g a) (other who));
      readings = λ g a. rw (same-readings who q w) (v.readings g (agrees_before g a));
    }

  -- ### A side is read

  read_party : (x who : Who) → party x (step o (reads who) w) ≡ party x w
  read_party First who = refl
  read_party Second who = refl

  read_agrees : (who : Who) (g : Ground) → Agrees secret g (step o (reads who) w) → Agrees secret g w
  read_agrees who g a = record { begins = a.begins; known = λ x. rw (read_party x who) at (a.known x) }

  pub own_known : (g : Ground) → Agrees secret g w → (who : Who) → own_of who w ≡ draw_of g (party who w).held.state.drawn
  own_known g a who = known-own g who (party who w).box (party who w).held.state.drawn (v.own who).count (a.known who)

  pub read_moved : (who : Who) → Inv o secret (step o (reads who) w)
  read_moved who = record {
    own = λ x. rw (read_party x who) (v.own x);
    opened = λ x. rw (read_party x who, read_party (other x) who) (v.opened x);
    bytes = λ g a x. rw (read_party x who) (v.bytes g (read_agrees who g a) x);
    readings = λ g a.
        let b = read_agrees who g a in
        All-push _ w.readings (record { held = (party who w).held; own = own_of who w }) (v.readings g b)
        (λ i. record { held = (v.bytes g b who).held i; own = own_known g b who i });
  }
