pub mod Plan
pub mod Devices
pub mod Players
pub mod Lending
