pub mod Numbers
pub mod Blank
pub mod Same
pub mod State
pub mod Steps
pub mod Answers
