-- When bytes are read as a page, when they are not, and the laws of both.
use Rattle.std.proofs.Common.{◌≡◌, ℕ, ◌-◌, List, map, take, drop, replicate, Some, None, Ok, Err, Option, Result, sym, refl, ap, ◌∙◌, subst}
use Rattle.std.specs.Result.{IsErrAnd}
use Rattle.seal.specs.declared.keys.MessageKey.{MessageKey}
use Rattle.ratchet.specs.State.{State, state_of}
use Rattle.runs.specs.declared.types.Who.{Who}
use Rattle.exchange.specs.Held.{Held, blank}
use Rattle.session.specs.declared.sessions.Session.{Session}
use Rattle.session.specs.Views.{key_in, held_of}
use Rattle.page.specs.declared.pages.Page.{Page}
use Rattle.page.specs.declared.refusal.BadPage.{BadPage}
use Rattle.page.specs.Kept.{IsBytes}
use Rattle.page.specs.Layout.{page_bytes}
use Rattle.page.specs.Valid.{Sound, Valid}
use Rattle.page.specs.Parts.{keys_in, state_in, held_in, Whole, Says}
use Rattle.page.specs.Reading.{Reads, Restored, Restoring, PageLaws}
use Rattle.page.proofs.Canonical.{page_back, valid_back}
use Rattle.page.proofs.Written.{page_long, held_read, whole_read}

-- what the tests of counts, chains and marks are about
abbrev SoundIn : Who → Held → Type 0
SoundIn who h = Sound who h.state h.sending h.taking

-- ### By the tests

pub not-whole : (who : Who) (b : List ℕ) → (Whole b → ⊥) → Reads who b None
not-whole who b never = λ h v e. never (subst Whole (sym e) (whole_read who h v))

pub not_sound : (who : Who) (b : List ℕ) → (Sound who (state_in b) (take 32 (drop 81 b)) (take 32 (drop 113 b)) → ⊥) → Reads who b None
not_sound who b never = λ h v e.
    let same : held_in b ≡ h = ap held_in e ∙ held_read who h v in
    never (subst (SoundIn who) (sym same) v.sound)

pub is_page : (who : Who) (b : List ℕ) (h : Held) → IsBytes b → Whole b → Sound who (state_in b) (take 32 (drop 81 b)) (take 32 (drop 113 b)) → held_in b ≡ h → Reads who b (Some h)
is_page who b h fit w sound same =
    (subst (Valid who) same (valid_back b fit w who sound), page_back b fit w ∙ ap page_bytes same)

pub unread : (who : Who) (b : List ℕ) (slots : List MessageKey) (r : Result Session BadPage) (P : BadPage → Type 0) → IsErrAnd r P → Reads who b None → Restoring who b slots slots r
unread who b slots (Ok s) P e none = absurd e
unread who b slots (Err why) P e none = record { page = none; slots = refl }

-- a session that holds what a page says
module _ (who : Who) (b : List ℕ) (page : Page) (same : page.bytes.now ≡ b) (s : Session) (says : Says page.bytes.now s) where
  those : Says b s
  those = subst (λ (x : List ℕ). Says x s) same says

  abbrev Sounds : State → (sending taking : List ℕ) → Type 0
  Sounds state sending taking = Sound who state sending taking

  pub not-sound : (Sound who (state_of s.side) s.sending.0 s.taking.0 → ⊥) → Reads who b None
  not-sound never = let e = those in not_sound who b (λ sound. never
      (subst (λ (x : State). Sounds x s.sending.0 s.taking.0) (sym e.state)
      (subst (λ (x : List ℕ). Sounds (state_in b) x s.taking.0) (sym e.sending) (subst (λ (x : List ℕ). Sounds (state_in b) (take 32 (drop 81 b)) x) (sym e.taking) sound))))

  pub page_read : (slots : List MessageKey) → IsBytes b → Whole b → Sound who (state_of s.side) s.sending.0 s.taking.0 →
      map key_in (take page.count slots) ≡ keys_in page.count (drop 147 page.bytes.now) → drop page.count slots ≡ replicate (512 - page.count) (record { 0 = blank }) → Restored who b s slots
  page_read slots fit whole sound keys rest =
      let e = those in
      let counted = page.counted in
      let state = e.state in
      let count = e.count in
      let root = e.root in
      let sending = e.sending in
      let taking = e.taking in
      let half = e.half in
      let held : held_in b ≡ held_of s slots = cc in
      record {
        page = is_page who b (held_of s slots) fit whole
            (subst (λ (x : State). Sounds x (take 32 (drop 81 b)) (take 32 (drop 113 b))) e.state
            (subst (λ (x : List ℕ). Sounds (state_of s.side) x (take 32 (drop 113 b))) e.sending (subst (λ (x : List ℕ). Sounds (state_of s.side) s.sending.0 x) e.taking sound)))
            held;
        wiped = let n : page.count ≡ s.side.count = cc in cc;
      }

-- ### The laws

-- a page says one side only
only : (who : Who) (h k : Held) → Valid who h → Valid who k → page_bytes h ≡ page_bytes k → k ≡ h
only who h k v w e = sym (held_read who k w) ∙ (ap held_in (sym e) ∙ held_read who h v)

back : (who : Who) (h : Held) (answer : Option Held) → Valid who h → Reads who (page_bytes h) answer → answer ≡ Some h
back who h None v none = absurd (none h v refl)
back who h (Some k) v is = ap Some (only who h k v is.0 is.1)

one : (who : Who) (bytes : List ℕ) (a b : Option Held) → Reads who bytes a → Reads who bytes b → a ≡ b
one who bytes None None r s = refl
one who bytes None (Some k) r s = absurd (r k s.0 s.1)
one who bytes (Some h) None r s = absurd (s h r.0 r.1)
one who bytes (Some h) (Some k) r s = ap Some (only who k h s.0 r.0 (sym s.1 ∙ r.1))

pub page-laws : PageLaws
page-laws = record { size = λ who h v. page_long who h v; back = back; one = one }
