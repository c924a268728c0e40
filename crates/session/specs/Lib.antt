-- What the contracts of this crate cite: the functions of the outside as we have them, what a session holds, and what its calls come to.
pub mod Ours
pub mod Views
pub mod Sends
pub mod Takes
pub mod Renews
pub mod Starts
pub mod Lawful
