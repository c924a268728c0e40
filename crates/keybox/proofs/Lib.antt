-- Lemmas that several proofs share.
mod Named
