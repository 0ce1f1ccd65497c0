pub mod Meaning
pub mod Effects
pub mod Counting
pub mod Boundaries
pub mod Warming
pub mod Topping
