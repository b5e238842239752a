-- The encoding, to be read in this order: what a MaxSAT solver is asked, then what a hall becomes, then rows of known halls.
pub mod Weighted
pub mod Rails
pub mod Table
