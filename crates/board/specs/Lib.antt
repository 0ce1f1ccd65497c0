pub mod Turns
pub mod Jobs
pub mod Cores
pub mod Boards
