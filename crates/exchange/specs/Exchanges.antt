-- The steps of a side, on bytes: beginning, sending a text, and taking any bytes. The tests and the counting are the bookkeeping's.
-- Assumes nothing.
use Rattle.std.specs.Prelude.{ℕ, zero, suc, ◌+◌, Bool, true, false, cond, List, [], ◌∷◌, ◌++◌, length, is_some, Some, None, Option}
use Rattle.ratchet.specs.declared.types.Mark.{Mark}
use Rattle.ratchet.specs.Same.{same_mark}
use Rattle.ratchet.specs.State.{begun, has}
use Rattle.ratchet.specs.Steps as book
use Rattle.exchange.specs.Outside.{Draw, Outside, seal, unseal}
use Rattle.exchange.specs.Wire.{Parts, header_bytes, read_message}
use Rattle.exchange.specs.Held.{Held, blank, root_part, chain_part}

-- what comes of an answer, if there is one
abbrev pub and_then : {A B : Type 0} → Option A → (A → Option B) → Option B
and_then None f = None
and_then (Some x) f = f x

-- ### Chains

-- a chain's value so many places on
unfoldable pub walked : Outside → ℕ → List ℕ → List ℕ
walked o zero c = c
walked o (suc i) c = o.next_bytes (walked o i c)

-- the keys of so many places from a chain's value on
unfoldable pub keys_along : Outside → ℕ → List ℕ → List (List ℕ)
keys_along o zero c = []
keys_along o (suc i) c = keys_along o i c ++ o.key_bytes (walked o i c) ∷ []

-- ### Beginning

-- the second side holds the first secret as its root
abbrev pub begin_second : Outside → (own : Draw) → (secret : List ℕ) → Held
begin_second o own secret = record { state = begun 0; root = secret; sending = blank; taking = blank; half = o.half own; keys = [] }

-- the first makes link 0 with the public half of the second's key
abbrev pub begin_first : Outside → (own : Draw) → (half secret : List ℕ) → Option Held
begin_first o own half secret = and_then (o.joint own half) (λ j.
    let link : List ℕ = o.link_bytes secret j in
    Some (record { state = begun 1; root = root_part link; sending = chain_part link; taking = blank; half = o.half own; keys = [] }))

-- ### Sending

-- the side after it and the message's bytes, or the number of the refusal
pub data Sent : Type 0 where
  sent : Held → (bytes : List ℕ) → Sent
  refused : ℕ → Sent

-- the header of the side's next message, with its own half
abbrev pub next_header : Held → (text_length : ℕ) → List ℕ
next_header h n = header_bytes (book.message h.state) h.half n

-- the whole message: the header, and the text sealed under the key of the next place
unfoldable pub message_bytes : Outside → Held → (text : List ℕ) → List ℕ
message_bytes o h text = next_header h (length text) ++ seal o (o.key_bytes h.sending) (next_header h (length text)) text

-- the chain goes one place on, so that the key is in it no more
abbrev pub sent_on : Outside → Held → Held
sent_on o h = record { state = book.sends h.state; root = h.root; sending = o.next_bytes h.sending; taking = h.taking; half = h.half; keys = h.keys }

abbrev pub send_as : book.Answer → Held → (bytes : List ℕ) → Sent
send_as (book.kept s) h bytes = sent h bytes
send_as (book.refused n) h bytes = refused n

-- refused by 1, 2 and 6
abbrev pub send_text : Outside → Held → (text : List ℕ) → Sent
send_text o h text = send_as (book.send (length text) h.state) (sent_on o h) (message_bytes o h text)

-- ### Taking

-- opened: the side after it, the text, and whether a key was drawn for it, which then is in force; or the number of the refusal;
-- or the box has no further key that goes with the half that came
pub data Taken : Type 0 where
  opened : Held → (text : List ℕ) → (drew : Bool) → Taken
  kept_out : ℕ → Taken
  no_key : Taken

-- the text of a message, under a key
abbrev pub text_under : Outside → (key : List ℕ) → Parts → Option (List ℕ)
text_under o key p = unseal o key p.header p.body

-- by what the bookkeeping answers; it keeps nothing that doesn't open
abbrev pub take_as : book.Answer → Option (List ℕ) → Held → Taken
take_as (book.refused n) text h = kept_out n
take_as (book.kept s) None h = kept_out 5
take_as (book.kept s) (Some text) h = opened h text false

-- in turn: the key along the chain; those passed over are put aside
abbrev pub text_in_turn : Outside → Held → Parts → Option (List ℕ)
text_in_turn o h p = text_under o (o.key_bytes (walked o (book.passed h.state p.message) h.taking)) p

abbrev pub held_in_turn : Outside → Held → Parts → Held
held_in_turn o h p =
    let n : ℕ = book.passed h.state p.message in
    record {
      state = book.advanced h.state p.message;
      root = h.root;
      sending = h.sending;
      taking = walked o (n + 1) h.taking;
      half = h.half;
      keys = h.keys ++ keys_along o n h.taking;
    }

abbrev pub take_in_turn : Outside → Held → Parts → Taken
take_in_turn o h p =
    let text : Option (List ℕ) = text_in_turn o h p in
    take_as (book.take_in_turn (is_some text) h.state p.message) text (held_in_turn o h p)

-- put aside: the key from there, and it is there no more
unfoldable pub key_aside : Mark → List Mark → List (List ℕ) → List ℕ
key_aside m [] ks = []
key_aside m (x ∷ xs) [] = []
key_aside m (x ∷ xs) (k ∷ ks) = cond (same_mark x m) k (key_aside m xs ks)

unfoldable pub keys_without : Mark → List Mark → List (List ℕ) → List (List ℕ)
keys_without m [] ks = []
keys_without m (x ∷ xs) [] = []
keys_without m (x ∷ xs) (k ∷ ks) = cond (same_mark x m) ks (k ∷ keys_without m xs ks)

abbrev pub text_recalled : Outside → Held → Parts → Option (List ℕ)
text_recalled o h p = text_under o (key_aside p.message.mark h.state.skipped h.keys) p

abbrev pub held_recalled : Held → Parts → Held
held_recalled h p = record {
  state = book.recalled h.state p.message;
  root = h.root;
  sending = h.sending;
  taking = h.taking;
  half = h.half;
  keys = keys_without p.message.mark h.state.skipped h.keys;
}

abbrev pub take_recalled : Outside → Held → Parts → Taken
take_recalled o h p =
    let text : Option (List ℕ) = text_recalled o h p in
    take_as (book.take_recalled (is_some text) h.state p.message) text (held_recalled h p)

-- a new link: its bytes from the joint secret of the side's own last key with the half that came; a half that the box can't answer for opens nothing
abbrev pub text_new : Outside → (own : Draw) → Held → Parts → Option (List ℕ)
text_new o own h p = and_then (o.joint own p.half) (λ j.
    text_under o (o.key_bytes (walked o p.message.mark.place (chain_part (o.link_bytes h.root j)))) p)

-- what is left of the old link and what the new one passes over is put aside; with the fresh key, and the same half, the next link is made, to send on
abbrev pub held_new : Outside → (fresh : Draw) → Held → Parts → (joint nextJoint : List ℕ) → Held
held_new o fresh h p j k =
    let n : ℕ = p.message.mark.place in
    let link : List ℕ = o.link_bytes h.root j in
    let onward : List ℕ = o.link_bytes (root_part link) k in
    record {
      state = book.turned h.state p.message;
      root = root_part onward;
      sending = chain_part onward;
      taking = walked o (n + 1) (chain_part link);
      half = o.half fresh;
      keys = h.keys ++ keys_along o (book.left h.state p.message) h.taking ++ keys_along o n (chain_part link);
    }

-- where the box gives a fresh key, and answers for the half with both
abbrev pub renewed : Outside → (own : Draw) → (fresh : Option Draw) → Held → Parts → Option Held
renewed o own fresh h p =
    and_then fresh (λ d. and_then (o.joint own p.half) (λ j. and_then (o.joint d p.half) (λ k. Some (held_new o d h p j k))))

abbrev pub renew_as : book.Answer → Option (List ℕ) → Option Held → Taken
renew_as (book.refused n) text h = kept_out n
renew_as (book.kept s) None h = kept_out 5
renew_as (book.kept s) (Some text) None = no_key
renew_as (book.kept s) (Some text) (Some h) = opened h text true

abbrev pub take_new : Outside → (own : Draw) → (fresh : Option Draw) → Held → Parts → Taken
take_new o own fresh h p =
    let text : Option (List ℕ) = text_new o own h p in
    renew_as (book.take_new (is_some text) h.state p.message) text (renewed o own fresh h p)

-- the same tests as in the bookkeeping: 3 if it has no place
abbrev pub take_message : Outside → (own : Draw) → (fresh : Option Draw) → Held → Parts → Taken
take_message o own fresh h p =
    cond (book.in_turn h.state p.message) (take_in_turn o h p)
    (cond (has p.message.mark h.state.skipped) (take_recalled o h p)
    (cond (book.is_new h.state p.message) (take_new o own fresh h p) (kept_out 3)))

-- 1 if the bytes are no message. own: the key in force in the side's box; fresh: the key that the box gives if it is asked for another, if it has one
abbrev pub take_read : Outside → (own : Draw) → (fresh : Option Draw) → Held → Option Parts → Taken
take_read o own fresh h None = kept_out 1
take_read o own fresh h (Some p) = take_message o own fresh h p

abbrev pub take_bytes : Outside → (own : Draw) → (fresh : Option Draw) → Held → (bytes : List ℕ) → Taken
take_bytes o own fresh h bytes = take_read o own fresh h (read_message bytes)

-- ### The tag's word

-- the text of a message under the key that the side works out for it, if it opens
abbrev pub text_of : Outside → (own : Draw) → Held → Parts → Option (List ℕ)
text_of o own h p =
    cond (book.in_turn h.state p.message) (text_in_turn o h p)
    (cond (has p.message.mark h.state.skipped) (text_recalled o h p)
    (cond (book.is_new h.state p.message) (text_new o own h p) None))
