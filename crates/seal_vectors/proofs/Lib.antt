-- Lemmas that several proofs share.
mod Headed
