-- The WCNF text of a hall, in both editions. 02, request 4.
--
-- In order: the line of a clause; the lines of clauses; the first line of the edition before 2022; the text of clauses, and of a
-- hall; what is written for a sheet, with its refusals. Definitions only; how such a text is read is Format.
use Rattle.std.specs.Prelude.{Bool, true, false, List, [], ◌∷◌, ◌++◌, ℕ, length, ℤ, pos, ltb}
use Rattle.lists.specs.Bytes.{bytes}
use Rattle.hall.specs.Hall.{Rule, Hall}
use Rattle.hall.specs.Ranges.{words_of, entry_words}
use Rattle.hall.specs.Reading.{Fault, Read, bad, got, decode}
use Rattle.typed.specs.Printing.{digits_of, printed_word}
use Rattle.printing.specs.Lines.{line}
use Rattle.rails.specs.Weighted.{Clause, hard, soft, top}
use Rattle.rails.specs.Rails.{clauses, variables}
use Rattle.wcnf.specs.declared.Edition.{Edition}
use Rattle.wcnf.specs.declared.Edition.TheVariants.{Since2022, Before2022}

-- "One blank separates tokens, 0 ends a clause, byte 10 every line"; a literal is its variable's number from 1, behind a minus
-- where it is denied
abbrev pub clause_line : (start : List ℕ) → Rule → List ℕ
clause_line start c = line start printed_word (words_of entry_words c ++ (pos 0 ∷ []))

-- what starts a hard clause is the same for all; "A soft clause starts with its weight."
abbrev pub line_of : (start : List ℕ) → Clause → List ℕ
line_of start (hard c) = clause_line start c
line_of start (soft w c) = clause_line (digits_of w) c

unfoldable pub clause_lines : (start : List ℕ) → List Clause → List ℕ
clause_lines start [] = []
clause_lines start (c ∷ cs) = line_of start c ++ clause_lines start cs

-- "a line `p wcnf`, 2n, the number of clauses and the top weight, the sum of soft weights plus 1"
abbrev pub first_line : ℕ → List Clause → List ℕ
first_line v cs = line (bytes "p wcnf") digits_of (v ∷ length cs ∷ top cs ∷ [])

-- "before 2022 with a line `p wcnf` ..; from 2022 without header, each hard clause starting with `h`"; the top weight "also
-- starts each hard clause"
abbrev pub text_of : Edition → (variables : ℕ) → List Clause → List ℕ
text_of Since2022 v cs = clause_lines (bytes "h") cs
text_of Before2022 v cs = first_line v cs ++ clause_lines (digits_of (top cs)) cs

unfoldable pub wcnf : Edition → Hall → List ℕ
wcnf edition h = text_of edition (variables h) (clauses h)

-- ── what is written for a sheet ──
-- "Refusals: the sheet's but 16, then 41 for a text room too short, its place the length needed"
pub data Writing : Type 0 where
  text : List ℕ → Writing
  bad_sheet : Fault → (place : ℕ) → Writing
  short_room : (needed : ℕ) → Writing

abbrev pub writing_by : (short : Bool) → List ℕ → Writing
writing_by true t = short_room (length t)
writing_by false t = text t

abbrev pub writing_read : Edition → (room : ℕ) → Read Hall → Writing
writing_read edition room (bad f place) = bad_sheet f place
writing_read edition room (got h j) = writing_by (ltb room (length (wcnf edition h))) (wcnf edition h)

-- for a text room of so many bytes; a plan room of 200 bytes is never too short, so that 16 is not given
unfoldable pub writing : Edition → List ℤ → (room : ℕ) → Writing
writing edition ws room = writing_read edition room (decode 200 ws)
