pub mod Orders
pub mod Refusal
pub mod Cover
pub mod Choice
pub mod Products
