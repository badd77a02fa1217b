-- What contracts cite: the tables that fitting fills, what it leaves for a state and for a draft, what is read off the nodes, and plans.
pub mod Tables
pub mod States
pub mod Fits
pub mod Reading
pub mod Plans
