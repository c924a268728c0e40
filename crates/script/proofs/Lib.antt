mod Lines
mod Runs
