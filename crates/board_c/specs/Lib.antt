pub mod Codes
pub mod Called
