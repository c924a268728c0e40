pub mod Finds
pub mod Sought
pub mod TakenOut
pub mod Put
mod Kept
