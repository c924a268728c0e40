-- Lemmas that several proofs share; Along and Recipes have those that other crates need.
pub mod Along
pub mod Recipes
