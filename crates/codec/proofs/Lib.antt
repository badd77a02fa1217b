pub mod Steps
pub mod Numbers
pub mod Spans
pub mod Fields
