pub mod Ordered
pub mod Queueing
pub mod Fronts
pub mod Keeping
pub mod Acts
pub mod Making
