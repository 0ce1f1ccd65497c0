pub mod Tables
pub mod Texts
pub mod Piles
pub mod Sleeping
pub mod Cases
pub mod Figures
pub mod Premises
pub mod Boards
