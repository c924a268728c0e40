-- What the contracts of this crate cite: the page as bytes, which sides are valid, and the laws of writing and reading.
pub mod Layout
pub mod Valid
pub mod Parts
pub mod Reading
pub mod Kept
