-- What a player is once the device of one side, lent from it, was changed.
-- Assumes nothing.
use Rattle.std.specs.Borrow.{Lends, MutBor, Fml}
use Rattle.runs.specs.declared.types.Who.{Who}
use Rattle.runs.specs.declared.types.Who.TheVariants.{First, Second}
use Rattle.stage.specs.declared.device.Device.{Device}
use Rattle.stage.specs.declared.player.Player.{Player}
use Rattle.stage.specs.contracts.device.Device as device_type
use Rattle.stage.specs.contracts.player.Player as player_type

-- the player with another device for one of the two
abbrev pub with_device : Who → Device → Player → Player
with_device First d p = record p { first = d }
with_device Second d p = record p { second = d }

-- the player ends with the device that was left behind the reference
abbrev pub LendsDevice : MutBor Player → Who → MutBor Device → Fml
LendsDevice p who r = Lends player_type.the_row device_type.the_row p r (λ d. with_device who d p.now)
