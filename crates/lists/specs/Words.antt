-- Words as rows of known answers write them: + 3 and - 3. Definitions only.
use Rattle.std.specs.Prelude.{ℕ, zero, suc, ℤ, pos, negsuc}

abbrev pub + : ℕ → ℤ
+ v = pos v

-- -0 is the word 0
abbrev pub - : ℕ → ℤ
- zero = pos 0
- (suc v) = negsuc v
