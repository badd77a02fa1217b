-- What contracts cite: the program's output, byte by byte.
pub mod Text
pub mod Cards
pub mod Output
pub mod Prints
