pub mod Chosen
pub mod Passing
pub mod Single
