-- Laws, in the order in which the functions need them; then what the contracts give. AnswerTable stands apart: it computes the tables
-- of known texts and files.
pub mod AnswerTable
pub mod Prints
pub mod Found
pub mod Replies
pub mod RepliesFile
pub mod Only
