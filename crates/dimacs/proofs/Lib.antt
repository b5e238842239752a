-- The theorems, in the order of the argument. AnswerTable stands apart: it computes the table of known files.
pub mod AnswerTable
-- what is read of a text, from its comments to its last number, and why
pub mod Lined
pub mod Limits
pub mod Comments
pub mod Places
pub mod Heading
pub mod Stepping
pub mod OneNumber
pub mod SoFar
pub mod Stages
pub mod Behind
pub mod Numbers
pub mod Verdicts
-- what follows
pub mod Answers
pub mod Only
pub mod WrittenBack
-- what the functions do, step by step
pub mod LeadEnds
pub mod HeaderWords
pub mod CountsRead
pub mod Scanning
pub mod Putting
pub mod Filling
pub mod FileRead
