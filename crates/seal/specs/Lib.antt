-- What the contracts of this crate cite.
pub mod Answers
pub mod ChaCha20
pub mod Sealing
pub mod Streaming
