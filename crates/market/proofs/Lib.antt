pub mod Found
pub mod Designations
pub mod Moving
pub mod Mapped
pub mod Runs
pub mod Sliding
pub mod Covered
