pub mod Texts
mod Back
