-- What contracts cite: what a watch polls and keeps, its calls, and what a list of calls comes to.
pub mod Polling
pub mod Steps
pub mod Watching
pub mod Running
