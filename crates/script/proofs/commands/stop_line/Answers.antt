use Rattle.std.proofs.Common.{◌∙◌, ap₂}
use Rattle.std.specs.Option.{option_or}
use Rattle.script.proofs.commands.stop_line.Goals as goal

pub returns : goal.returns
returns c = c.or.ensures ∙ ap₂ option_or c.stop_either-first.ensures c.stop_either.ensures
