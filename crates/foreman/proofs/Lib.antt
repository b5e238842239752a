-- The rows of known output; laws, in the order in which the functions need them; that the contract leaves no choice.
pub mod AnswerTable
pub mod Devices
pub mod Lines
pub mod Lists
pub mod Texts
pub mod Only
