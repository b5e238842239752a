-- The text, to be read in this order: what is written; how such a text is read; the contracts; rows of known texts; what the
-- functions below `write` promise each other.
pub mod Wcnf
pub mod Format
pub mod Contract
pub mod Table
pub mod Steps
