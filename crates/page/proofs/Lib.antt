-- Lemmas that several proofs share; Readings and Always have those that other crates need.
mod Puts
mod Entries
mod Numbers
mod Parsed
mod Restored
mod Marks
mod Canonical
mod Written
pub mod Readings
mod Keeping
pub mod Always
