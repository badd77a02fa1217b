pub mod Fault
pub mod Records
pub mod Card
pub mod File
pub mod Rule
pub mod Draft
pub mod Text
