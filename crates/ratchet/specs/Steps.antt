-- The steps of a side: sending, and taking a message.
-- Assumes nothing.
use Rattle.std.specs.Prelude.{ℕ, ◌+◌, ◌-◌, ◌^◌, Bool, true, cond, ◌&&◌, ◌++◌, length, ◌==◌, nat_le, nat_lt}
use Rattle.ratchet.specs.declared.types.Message.{Message}
use Rattle.ratchet.specs.State.{State, has, without, places}

-- what a step comes to: the side after it, or the number of the refusal
pub data Answer : Type 0 where
  kept : State → Answer
  refused : ℕ → Answer

-- is a link, place or count one that can be written: 4 bytes
abbrev pub fits : ℕ → Bool
fits n = nat_lt n (2 ^ 32)

-- ### Sending

abbrev pub sends : State → State
sends s = record { drawn = s.drawn; sent = s.sent + 1; taken = s.taken; before = s.before; skipped = s.skipped }

-- the message that a side sends next; it sends on the link below its last key
abbrev pub message : State → Message
message s = record { mark = record { link = s.drawn - 1; place = s.sent }; before = s.before }

-- 1: the text is too long; 2: there is no link to send on; 6: the count would pass what can be written
abbrev pub send : (text_length : ℕ) → State → Answer
send n s =
    cond (nat_lt 1000 n) (refused 1)
    (cond (s.drawn == 0) (refused 2)
    (cond (fits (s.sent + 1)) (kept (sends s)) (refused 6)))

-- ### Taking

-- it is on the link that the side takes on, two below its last key, at the next place or after
abbrev pub in_turn : State → Message → Bool
in_turn s m = m.mark.link + 2 == s.drawn && nat_le s.taken m.mark.place

-- how many places it then passes over
abbrev pub passed : State → Message → ℕ
passed s m = m.mark.place - s.taken

abbrev pub advanced : State → Message → State
advanced s m =
    record {
      drawn = s.drawn;
      sent = s.sent;
      taken = m.mark.place + 1;
      before = s.before;
      skipped = s.skipped ++ places m.mark.link s.taken (passed s m);
    }

-- its key was put aside, and is taken from there
abbrev pub recalled : State → Message → State
recalled s m = record { drawn = s.drawn; sent = s.sent; taken = s.taken; before = s.before; skipped = without m.mark s.skipped }

-- it is on the link of the side's own last key's number: the other has drawn a key
abbrev pub is_new : State → Message → Bool
is_new s m = m.mark.link == s.drawn

-- how many places of the old link are then left; with fewer than two keys drawn there is no old link
abbrev pub left : State → Message → ℕ
left s m = cond (nat_le 2 s.drawn) (m.before - s.taken) 0

-- what is left of the old link and what the new one passes over is put aside, and the side draws its next key at once
abbrev pub turned : State → Message → State
turned s m =
    record {
      drawn = s.drawn + 2;
      sent = 0;
      taken = m.mark.place + 1;
      before = s.sent;
      skipped = s.skipped ++ places (s.drawn - 2) s.taken (left s m) ++ places m.mark.link 0 m.mark.place;
    }

-- may so many places of one link be passed over
abbrev pub short : ℕ → Bool
short n = nat_le n 256

-- may so many keys be put aside at a time
abbrev pub room_for : ℕ → Bool
room_for n = nat_le n 512

-- the order of the refusals of a message that has its place: 4 for the limits, 5 if it doesn't open, 6 for the counts
abbrev pub checked : (within opens countable : Bool) → State → Answer
checked within opens countable s = cond within (cond opens (cond countable (kept s) (refused 6)) (refused 5)) (refused 4)

abbrev pub take_in_turn : Bool → State → Message → Answer
take_in_turn opens s m =
    checked (short (passed s m) && room_for (length s.skipped + passed s m)) opens (fits (m.mark.place + 1)) (advanced s m)

abbrev pub take_recalled : Bool → State → Message → Answer
take_recalled opens s m = checked true opens true (recalled s m)

abbrev pub take_new : Bool → State → Message → Answer
take_new opens s m =
    checked (short (left s m) && (short m.mark.place && room_for (length s.skipped + left s m + m.mark.place))) opens
    (fits (s.drawn + 2)) (turned s m)

-- 3: it has no place
abbrev pub take : Bool → State → Message → Answer
take opens s m =
    cond (in_turn s m) (take_in_turn opens s m)
    (cond (has m.mark s.skipped) (take_recalled opens s m)
    (cond (is_new s m) (take_new opens s m) (refused 3)))
