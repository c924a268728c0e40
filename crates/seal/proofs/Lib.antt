-- Lemmas that several proofs share; Lengths and Streams have those that other crates need.
pub mod Lengths
mod Sealings
mod Serials
pub mod Streams
mod Zips
