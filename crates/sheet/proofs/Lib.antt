-- Laws, in the order in which the functions need them; then what the contract of `read` gives.
pub mod Items
pub mod Runs
pub mod Whole
pub mod Placing
pub mod Standing
pub mod Putting
pub mod Decoding
pub mod Coded
pub mod Codes
pub mod Only
