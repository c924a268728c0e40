-- Lemmas that several proofs share; Made and Places have those that other crates need.
mod Compared
pub mod Made
pub mod Places
