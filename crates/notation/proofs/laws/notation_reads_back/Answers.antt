use Rattle.notation.proofs.Back.{texts-read_back, numbers-read_back}
use Rattle.notation.proofs.laws.notation_reads_back.Goals as goal

pub returns : goal.returns
returns c = record { texts = texts-read_back; numbers = numbers-read_back }
