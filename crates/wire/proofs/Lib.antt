-- Lemmas that several proofs share.
pub mod Lawful
