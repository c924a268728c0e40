-- Whether two marks, or two messages, are the same.
-- Assumes nothing.
use Rattle.std.specs.Prelude.{Bool, ◌&&◌, ◌==◌}
use Rattle.ratchet.specs.declared.types.Mark.{Mark}
use Rattle.ratchet.specs.declared.types.Message.{Message}

abbrev pub same_mark : Mark → Mark → Bool
same_mark a b = a.link == b.link && a.place == b.place

abbrev pub same_message : Message → Message → Bool
same_message a b = same_mark a.mark b.mark && a.before == b.before

-- what stands past the end of a list of messages
abbrev pub no_message : Message
no_message = record { mark = record { link = 0; place = 0 }; before = 0 }
