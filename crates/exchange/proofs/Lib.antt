pub mod Wires
pub mod Tags
pub mod Recipes
pub mod Holds
pub mod Sizes
pub mod Opening
pub mod Draws
pub mod Letters
pub mod Modelled
pub mod Invariant
pub mod Moving
pub mod Exchanged
pub mod Beginning
pub mod Boxes
pub mod Pins
pub mod Promises
mod Computed
