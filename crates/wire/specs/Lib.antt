-- What the contracts of this crate cite: the layout of a message, and the laws of reading it.
pub mod Layout
pub mod Laws
