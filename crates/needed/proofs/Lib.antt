-- Laws, in the order in which the functions need them; then what the contract of `read` gives its caller.
pub mod Stamping
pub mod Moving
pub mod Leaving
pub mod Needing
pub mod Lying
pub mod Only
pub mod RuleCodes
