-- The theorems of the text. TextTable stands apart: it computes the rows of known texts. What reads back: TokensBack, WordsBack,
-- WrittenBack. What the code writes: TotalsKept, WrittenLines, WrittenSize, WrittenText, WrittenOnly.
pub mod TextTable
pub mod TokensBack
pub mod TotalsKept
pub mod WordsBack
pub mod WrittenBack
pub mod WrittenLines
pub mod WrittenSize
pub mod WrittenText
pub mod WrittenOnly
