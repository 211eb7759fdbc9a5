pub mod Form
pub mod Walk
pub mod Sentences
pub mod Tables
pub mod Sign
