pub mod Answer
pub mod Exports
pub mod Back
pub mod Sizes
