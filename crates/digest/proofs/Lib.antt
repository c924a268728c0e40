-- The lemmas of the proofs; Lengths has those that other crates need.
pub mod Absorbed
pub mod Alone
pub mod Buffers
pub mod Bytes
pub mod Joined
pub mod Keyed
pub mod Lengths
pub mod Lists
pub mod Padded
pub mod Rotations
pub mod Schedule
pub mod Short
pub mod Streamed
