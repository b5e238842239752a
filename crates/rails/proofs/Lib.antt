-- The theorems of the encoding. ClauseTable stands apart: it computes the table of known clauses.
pub mod ClauseTable
pub mod AnyClauses
pub mod PlanSettings
pub mod Encoding
pub mod LeastWeight
pub mod Sizes
