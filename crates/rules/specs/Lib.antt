pub mod Views
pub mod Steps
pub mod Logs
pub mod Plans
pub mod Promises
pub mod Exact
pub mod Printed
