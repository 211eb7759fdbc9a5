pub mod Comes
pub mod Spread
pub mod Sheet
pub mod Steps
pub mod Holder
pub mod Runs
