pub mod Steps
pub mod Reading
pub mod Fault
pub mod Number
pub mod Field
pub mod Text
