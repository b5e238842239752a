-- A word with its sign split off, as the code has it. Definitions only.
use Rattle.std.specs.Prelude.{ℤ, pos, negsuc}
use Rattle.refusals.specs.declared.Split.{Split}
use Rattle.refusals.specs.declared.Split.TheVariants.{Up, Down}

-- `negsuc n` is -n - 1
abbrev pub split_of : ℤ → Split
split_of (pos n) = Up n
split_of (negsuc n) = Down n
