pub mod PlaceLaws
pub mod ReaderTheorems
