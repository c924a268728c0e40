-- What is wrong with a line, in words.
-- Assumes nothing.
use Rattle.std.specs.Prelude.{ℕ, List, ◌++◌, codes, decimal}
use Rattle.stage.specs.declared.types.NoDelivery.TheVariants.{NoSuchMessage, NoSuchBit, NeverLeft}
use Rattle.stage.specs.declared.types.BadStop.TheVariants.{NoSuchWrite, Past, SetAlready}
use Rattle.script.specs.declared.play.BadLine.{BadLine}
use Rattle.script.specs.declared.play.BadLine.TheVariants.{NoCommand, BadText, Delivery, Stop}
use Rattle.script.specs.declared.rehearsal.BadScript.{BadScript}

abbrev pub reason_of : BadLine → List ℕ
reason_of NoCommand = codes "not a command"
reason_of BadText = codes "a bad escape in the text"
reason_of (Delivery NoSuchMessage) = codes "there is no such message"
reason_of (Delivery NoSuchBit) = codes "the message has no such bit"
reason_of (Delivery NeverLeft) = codes "the message never left"
reason_of (Stop NoSuchWrite) = codes "writes are counted from 1"
reason_of (Stop Past) = codes "that write has been"
reason_of (Stop SetAlready) = codes "a stop is set for that write already"

-- `line K: why`
abbrev pub bad_script_text : BadScript → List ℕ
bad_script_text bad = codes "line " ++ (decimal bad.line ++ (codes ": " ++ reason_of bad.why))
