pub mod World
pub mod Rule
pub mod Cases
pub mod Stock
pub mod Working
pub mod Laws
pub mod Names
