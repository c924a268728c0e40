-- What the state of an HMAC in parts holds of the key and of the message so far.
use Rattle.std.specs.Prelude.{ℕ, List, ◌++◌}
use Rattle.digest.specs.Hmac.{block_key, xored}
use Rattle.digest.specs.Streaming.{Holds}
use Rattle.digest.specs.declared.mac.Mac.{Mac}

pub record Macs (x : Mac) (k m : List ℕ) : Type 0 where
  pub inner : Holds x.inner (xored 0x36 (block_key k) ++ m)
  pub outer : Holds x.outer (xored 0x5c (block_key k))
