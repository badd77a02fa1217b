-- What contracts cite: sets of small numbers, cells and the events that they cover, and the laws of both.
pub mod Sets
pub mod Cells
pub mod Laws
