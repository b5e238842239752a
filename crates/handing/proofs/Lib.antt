-- The rows of known output; the contracts, case by case; that they leave no choice, and that 41 is never printed.
pub mod AnswerTable
pub mod Asked
pub mod HandedText
pub mod Only
