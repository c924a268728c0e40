mod Among
mod Ors
mod Upward
mod Starting
mod Adding
mod Rowing
