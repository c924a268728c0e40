-- What the contracts of this crate cite: recipes of secrets, their bytes, and what the calls come to.
pub mod Secret
pub mod Bytes
pub mod Answers
