-- What the contracts of this crate cite: what a box answers, and a box of numbers.
pub mod Box
pub mod Numbers
pub mod Renewal
