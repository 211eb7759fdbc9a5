pub mod Field
pub mod Frame
pub mod Places
pub mod Shapes
pub mod Sentences
pub mod ByLines
pub mod Cases
pub mod Lines
