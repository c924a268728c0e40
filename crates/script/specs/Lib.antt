pub mod Commands
pub mod Output
pub mod Played
pub mod Reasons
pub mod Views
pub mod Whole
