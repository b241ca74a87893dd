-- Laws on bytes in a buffer, and on a whole reply in it.
pub mod Stores
pub mod Whole
