pub mod Counting
pub mod Scanning
pub mod Choosing
mod Freeing
pub mod Bounding
