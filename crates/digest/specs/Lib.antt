-- What the contracts cite: the three standards, and what the states of the code hold.
pub mod Hkdf
pub mod Hmac
pub mod Keyed
pub mod Sha256
pub mod Streaming
pub mod Work
