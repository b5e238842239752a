-- Laws, in the order in which the functions need them; then what the contracts give.
pub mod Under
pub mod Numbers
pub mod Claim
pub mod Handed
pub mod Calls
pub mod Only
