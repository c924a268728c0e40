pub mod Sets
pub mod Links
pub mod Chains
pub mod Rows
