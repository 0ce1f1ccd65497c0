pub mod Pages
pub mod Quoting
