-- Lemmas that several proofs share.
mod Written
mod Posted
mod Texts
mod Chains
mod Slots
mod InTurn
mod Aside
mod FromSlot
mod Draws
mod NewLinks
mod Dispatch
mod Beginnings
mod Kept
pub mod Copies
