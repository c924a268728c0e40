pub mod Escapes
pub mod Decimals
pub mod Words
pub mod Laws
pub mod Faults
