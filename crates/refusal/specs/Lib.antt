pub mod Records
pub mod Printed
pub mod Explained
