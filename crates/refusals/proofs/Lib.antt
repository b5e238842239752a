-- Laws, in the order in which the functions need them; then what the contracts give.
pub mod ToldNumbers
pub mod Widened
pub mod Faults
pub mod Only
