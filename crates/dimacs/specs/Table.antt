-- Files with known answers. 02, request 2: a row for each sentence of the request and for each border of its refusals.
--
-- In order: what a row says and what the definitions say for it; files that are accepted; 31; 21 and 22; 12 and 18; 14 and 19; 24; 32
-- and 33. A text of more than 60,000 bytes and a sheet of more than 16,384 words are no rows: for these 23 and 24 are theorems
-- (proofs/Verdicts). Definitions only; that the rows are right is proofs/AnswerTable.
use Rattle.std.specs.Prelude.{List, [], ◌∷◌, ◌++◌, ℕ, length, replicate, ℤ}
use Prim.Native.String.{String}
use Rattle.lists.specs.Bytes.{bytes}
use Rattle.lists.specs.Words.{+, -}
use Rattle.dimacs.specs.File.{read_file}
use Rattle.dimacs.specs.Contract.{filed_of, numbers_of, room_after}

-- the paper's numbers for the answer, and the room afterwards
pub record Effect : Type 0 where
  pub told : List ℕ
  pub room : List ℤ

pub record Row : Type 0 where
  pub text : List ℕ
  pub before : List ℤ
  pub expected : Effect

-- what the definitions say for a row
unfoldable pub effect : Row → Effect
effect r = record {
  told = numbers_of (filed_of (read_file r.text (length r.before)));
  room = room_after (read_file r.text (length r.before)) r.before;
}

-- a text, a room of so many words that are all 99, the numbers told, and the room afterwards
abbrev pub row : String → ℕ → List ℕ → List ℤ → Row
row text room told after = record { text = bytes text; before = replicate room (+ 99); expected = record { told = told; room = after } }

-- a refusal: the room is unchanged
abbrev pub refusal : String → ℕ → List ℕ → Row
refusal text room told = row text room told (replicate room (+ 99))

-- accepted: 0 and w, and the sheet in front of the room, every cost 1
unfoldable pub accepted_files : List Row
accepted_files =
    -- a file as it is usually written; a room that is longer
    row "c two clauses\np cnf 3 2\n1 -3 0\n2 3 -1 0\n" 14 (0 ∷ 12 ∷ []) (+ 3 ∷ + 1 ∷ + 1 ∷ + 1 ∷ + 2 ∷ + 2 ∷ + 1 ∷ - 3 ∷ + 3 ∷ + 2 ∷ + 3 ∷ - 1 ∷ + 99 ∷ + 99 ∷ [])
    -- 0 variables and 0 clauses; nothing but an empty clause; variables and no clause
    ∷ row "p cnf 0 0\n" 3 (0 ∷ 2 ∷ []) (+ 0 ∷ + 0 ∷ + 99 ∷ [])
    ∷ row "p cnf 0 1 0\n" 3 (0 ∷ 3 ∷ []) (+ 0 ∷ + 1 ∷ + 0 ∷ [])
    ∷ row "p cnf 2 0\n" 5 (0 ∷ 4 ∷ []) (+ 2 ∷ + 1 ∷ + 1 ∷ + 0 ∷ + 99 ∷ [])
    -- no line end at the end; a room of exactly w words
    ∷ row "p cnf 1 1 1 0" 5 (0 ∷ 5 ∷ []) (+ 1 ∷ + 1 ∷ + 1 ∷ + 1 ∷ + 1 ∷ [])
    -- an empty clause between others; `-0` and `00` close a clause, and entries have leading zeros
    ∷ row "p cnf 2 3\n1 0\n0\n2 0\n" 9 (0 ∷ 9 ∷ []) (+ 2 ∷ + 1 ∷ + 1 ∷ + 3 ∷ + 1 ∷ + 1 ∷ + 0 ∷ + 1 ∷ + 2 ∷ [])
    ∷ row "p cnf 2 2 01 -0 -002 00" 8 (0 ∷ 8 ∷ []) (+ 2 ∷ + 1 ∷ + 1 ∷ + 2 ∷ + 1 ∷ + 1 ∷ + 1 ∷ - 2 ∷ [])
    -- several clauses on a line; a clause over several lines; blank lines; a header over two lines, and over four
    ∷ row "p cnf 2 2\n1 0 -2 0\n" 8 (0 ∷ 8 ∷ []) (+ 2 ∷ + 1 ∷ + 1 ∷ + 2 ∷ + 1 ∷ + 1 ∷ + 1 ∷ - 2 ∷ [])
    ∷ row "p cnf 2 1\n\n1\n\n-2\n0\n\n" 7 (0 ∷ 7 ∷ []) (+ 2 ∷ + 1 ∷ + 1 ∷ + 1 ∷ + 2 ∷ + 1 ∷ - 2 ∷ [])
    ∷ row "p\ncnf 1 1\n1 0\n" 5 (0 ∷ 5 ∷ []) (+ 1 ∷ + 1 ∷ + 1 ∷ + 1 ∷ + 1 ∷ [])
    ∷ row "p\r\ncnf\r\n1\r\n1 1 0" 5 (0 ∷ 5 ∷ []) (+ 1 ∷ + 1 ∷ + 1 ∷ + 1 ∷ + 1 ∷ [])
    -- line ends of bytes 13 and 10; tabs; blanks before `p` and at the end
    ∷ row "c a\r\np cnf 1 1\r\n-1 0\r\n" 5 (0 ∷ 5 ∷ []) (+ 1 ∷ + 1 ∷ + 1 ∷ + 1 ∷ - 1 ∷ [])
    ∷ row "\tp\tcnf\t1\t1\t-1\t0\t" 5 (0 ∷ 5 ∷ []) (+ 1 ∷ + 1 ∷ + 1 ∷ + 1 ∷ - 1 ∷ [])
    ∷ row "  \n p  cnf  1  1  1  0  \n" 5 (0 ∷ 5 ∷ []) (+ 1 ∷ + 1 ∷ + 1 ∷ + 1 ∷ + 1 ∷ [])
    -- comments: none of their bytes matters but 10; empty ones; `cnf ..` at the start of a line is one; blank lines between them
    ∷ row "c %p cnf 9 9 ÿ\np cnf 0 0" 2 (0 ∷ 2 ∷ []) (+ 0 ∷ + 0 ∷ [])
    ∷ row "c\nc\np cnf 0 0" 2 (0 ∷ 2 ∷ []) (+ 0 ∷ + 0 ∷ [])
    ∷ row "cnf 1 1\np cnf 0 0" 2 (0 ∷ 2 ∷ []) (+ 0 ∷ + 0 ∷ [])
    ∷ row " \nc a\n\nc b\n p cnf 0 0" 2 (0 ∷ 2 ∷ []) (+ 0 ∷ + 0 ∷ [])
    -- the same entry twice, and with both signs
    ∷ row "p cnf 1 1 1 1 -1 0" 7 (0 ∷ 7 ∷ []) (+ 1 ∷ + 1 ∷ + 1 ∷ + 3 ∷ + 1 ∷ + 1 ∷ - 1 ∷ [])
    -- a clause of 32 entries
    ∷ row "p cnf 1 1 1 1 1 1 1 1 1 1 1 1 1 1 1 1 1 1 1 1 1 1 1 1 1 1 1 1 1 1 1 1 1 1 0" 36 (0 ∷ 36 ∷ []) (+ 1 ∷ + 1 ∷ + 1 ∷ + 32 ∷ replicate 32 (+ 1))
    ∷ []

-- 31: "where `p` or `cnf` should stand and doesn't, or the text ends before a count"
unfoldable pub header_files : List Row
header_files =
    -- the text ends before `p`: an empty one; blanks; a comment, without its line end and with it; a byte 13 does not end one
    refusal "" 2 (31 ∷ 0 ∷ [])
    ∷ refusal " \n" 2 (31 ∷ 2 ∷ [])
    ∷ refusal "c" 2 (31 ∷ 1 ∷ [])
    ∷ refusal "c\n" 2 (31 ∷ 2 ∷ [])
    ∷ refusal "c a\nc b" 2 (31 ∷ 7 ∷ [])
    ∷ refusal "c a\rp cnf 0 0" 2 (31 ∷ 13 ∷ [])
    -- another token than `p`: `c` behind a blank and behind a tab; a large letter; `p` and more; a percent sign; a number
    ∷ refusal " c a\np cnf 0 0" 2 (31 ∷ 1 ∷ [])
    ∷ refusal "c\n\tc\np cnf 0 0" 2 (31 ∷ 3 ∷ [])
    ∷ refusal "P cnf 0 0" 2 (31 ∷ 0 ∷ [])
    ∷ refusal "pcnf 0 0" 2 (31 ∷ 0 ∷ [])
    ∷ refusal "% 0" 2 (31 ∷ 0 ∷ [])
    ∷ refusal "1 0" 2 (31 ∷ 0 ∷ [])
    -- the text ends before `cnf`
    ∷ refusal "p" 2 (31 ∷ 1 ∷ [])
    ∷ refusal "p\n" 2 (31 ∷ 2 ∷ [])
    -- another token than `cnf`: a comment, which may stand only before `p`; other letters; `cnf` and more; a part of it; a number
    ∷ refusal "p\nc a\ncnf 0 0" 2 (31 ∷ 2 ∷ [])
    ∷ refusal "p CNF 0 0" 2 (31 ∷ 2 ∷ [])
    ∷ refusal "p wcnf 0 0" 2 (31 ∷ 2 ∷ [])
    ∷ refusal "p cnfx 0 0" 2 (31 ∷ 2 ∷ [])
    ∷ refusal "p cnf0 0" 2 (31 ∷ 2 ∷ [])
    ∷ refusal "p cn 0 0" 2 (31 ∷ 2 ∷ [])
    ∷ refusal "p 1 1" 2 (31 ∷ 2 ∷ [])
    -- the text ends before the number of variables; before the number of clauses
    ∷ refusal "p cnf" 2 (31 ∷ 5 ∷ [])
    ∷ refusal "p cnf \n" 2 (31 ∷ 7 ∷ [])
    ∷ refusal "p cnf 1" 2 (31 ∷ 7 ∷ [])
    ∷ refusal "p cnf 1 " 2 (31 ∷ 8 ∷ [])
    ∷ []

-- 21 and 22: "for any later token"
unfoldable pub number_files : List Row
number_files =
    -- a count: a wrong byte, at its front and behind a digit; a minus alone; a comment behind `p cnf`
    refusal "p cnf x 1" 2 (21 ∷ 6 ∷ [])
    ∷ refusal "p cnf 1x 1" 2 (21 ∷ 7 ∷ [])
    ∷ refusal "p cnf 1 x" 2 (21 ∷ 8 ∷ [])
    ∷ refusal "p cnf -" 2 (21 ∷ 7 ∷ [])
    ∷ refusal "p cnf\nc a\n0 0" 2 (21 ∷ 6 ∷ [])
    -- an entry: a wrong byte; a minus alone, at the end and before a blank; a comment between clauses
    ∷ refusal "p cnf 1 1 x 0" 5 (21 ∷ 10 ∷ [])
    ∷ refusal "p cnf 1 1 1x 0" 5 (21 ∷ 11 ∷ [])
    ∷ refusal "p cnf 1 1 -" 5 (21 ∷ 11 ∷ [])
    ∷ refusal "p cnf 1 1 - 1 0" 5 (21 ∷ 11 ∷ [])
    ∷ refusal "p cnf 1 1\nc a\n1 0" 5 (21 ∷ 10 ∷ [])
    -- a percent sign behind the last clause, as some files have it; a minus there
    ∷ refusal "p cnf 1 1 1 0\n%\n0\n" 5 (21 ∷ 14 ∷ [])
    ∷ refusal "p cnf 1 1 1 0 -" 5 (21 ∷ 15 ∷ [])
    -- more than ten digits, or a value outside: a count; an entry; a 0; a number behind the last clause
    ∷ refusal "p cnf 99999999999 1" 2 (22 ∷ 6 ∷ [])
    ∷ refusal "p cnf 1 2147483648" 2 (22 ∷ 8 ∷ [])
    ∷ refusal "p cnf 1 1 -2147483649 0" 5 (22 ∷ 10 ∷ [])
    ∷ refusal "p cnf 1 1 1 00000000000" 5 (22 ∷ 12 ∷ [])
    ∷ refusal "p cnf 1 1 1 0 99999999999" 5 (22 ∷ 14 ∷ [])
    -- 21 before 22
    ∷ refusal "p cnf 1 1 99999999999x" 5 (21 ∷ 21 ∷ [])
    ∷ []

-- 12 and 18: "for the counts"
unfoldable pub count_files : List Row
count_files =
    -- more than 200 variables; fewer than 0; the largest number of a word
    refusal "p cnf 201 1" 2 (12 ∷ 6 ∷ [])
    ∷ refusal "p cnf -1 0" 2 (12 ∷ 6 ∷ [])
    ∷ refusal "p cnf 2147483647 0" 2 (12 ∷ 6 ∷ [])
    -- exactly 200 variables
    ∷ row "p cnf 200 0" 202 (0 ∷ 202 ∷ []) (+ 200 ∷ (replicate 200 (+ 1) ++ (+ 0 ∷ [])))
    -- more than 2,000 clauses; fewer than 0; exactly 2,000, of which one is missing
    ∷ refusal "p cnf 1 2001" 3 (18 ∷ 8 ∷ [])
    ∷ refusal "p cnf 1 -1" 3 (18 ∷ 8 ∷ [])
    ∷ refusal "p cnf 1 2000" 3 (32 ∷ 12 ∷ [])
    -- 12 and 18 before 24
    ∷ refusal "p cnf 201 1" 0 (12 ∷ 6 ∷ [])
    ∷ refusal "p cnf 1 2001" 2 (18 ∷ 8 ∷ [])
    ∷ []

-- 14, and 19 "at an entry too many, with the clause's number"
unfoldable pub entry_files : List Row
entry_files =
    -- an entry above the number of variables; below; where there is none; in the second clause
    refusal "p cnf 1 1 2 0" 5 (14 ∷ 10 ∷ [])
    ∷ refusal "p cnf 1 1 -2 0" 5 (14 ∷ 10 ∷ [])
    ∷ refusal "p cnf 0 1 1 0" 5 (14 ∷ 10 ∷ [])
    ∷ refusal "p cnf 2 2 2 0 1 -3 0" 9 (14 ∷ 16 ∷ [])
    -- the 33rd entry of the first clause; of the second, behind an empty one
    ∷ refusal "p cnf 1 1 1 1 1 1 1 1 1 1 1 1 1 1 1 1 1 1 1 1 1 1 1 1 1 1 1 1 1 1 1 1 1 1 1 0" 40 (19 ∷ 74 ∷ 1 ∷ [])
    ∷ refusal "p cnf 1 2 0 1 1 1 1 1 1 1 1 1 1 1 1 1 1 1 1 1 1 1 1 1 1 1 1 1 1 1 1 1 1 1 1 -1 0" 40 (19 ∷ 76 ∷ 2 ∷ [])
    -- 14 before 19; 19 before 24; 14 before 24
    ∷ refusal "p cnf 1 1 1 1 1 1 1 1 1 1 1 1 1 1 1 1 1 1 1 1 1 1 1 1 1 1 1 1 1 1 1 1 1 1 2 0" 40 (14 ∷ 74 ∷ [])
    ∷ refusal "p cnf 1 1 1 1 1 1 1 1 1 1 1 1 1 1 1 1 1 1 1 1 1 1 1 1 1 1 1 1 1 1 1 1 1 1 1 0" 36 (19 ∷ 74 ∷ 1 ∷ [])
    ∷ refusal "p cnf 1 1 2 0" 3 (14 ∷ 10 ∷ [])
    ∷ []

-- 24: "where the sheet so far needs more words than the room has"
unfoldable pub room_files : List Row
room_files =
    -- the number of variables needs 1 + n words, and the number of clauses one
    refusal "p cnf 0 0" 0 (24 ∷ 6 ∷ [])
    ∷ refusal "p cnf 2 0" 2 (24 ∷ 6 ∷ [])
    ∷ refusal "p cnf 2 0" 3 (24 ∷ 8 ∷ [])
    -- a clause's first entry needs two, and each later one needs one
    ∷ refusal "p cnf 2 1 1 2 0" 4 (24 ∷ 10 ∷ [])
    ∷ refusal "p cnf 2 1 1 2 0" 5 (24 ∷ 10 ∷ [])
    ∷ refusal "p cnf 2 1 1 2 0" 6 (24 ∷ 12 ∷ [])
    ∷ row "p cnf 2 1 1 2 0" 7 (0 ∷ 7 ∷ []) (+ 2 ∷ + 1 ∷ + 1 ∷ + 1 ∷ + 2 ∷ + 1 ∷ + 2 ∷ [])
    -- the 0 of an empty clause needs one, at the front and behind another clause; that of a clause with entries needs none
    ∷ refusal "p cnf 0 1 0" 2 (24 ∷ 10 ∷ [])
    ∷ refusal "p cnf 1 2 1 0 0" 5 (24 ∷ 14 ∷ [])
    ∷ refusal "p cnf 1 2 1 0" 5 (32 ∷ 13 ∷ [])
    -- the first entry of the second clause
    ∷ refusal "p cnf 1 2 1 0 -1 0" 6 (24 ∷ 14 ∷ [])
    -- at the same token 21, 22 and 33 come before it; at a later one they do not
    ∷ refusal "p cnf 1 1 1x" 3 (21 ∷ 11 ∷ [])
    ∷ refusal "p cnf 1 1 2147483648" 3 (22 ∷ 10 ∷ [])
    ∷ refusal "p cnf 1 1 1 0 1" 5 (33 ∷ 14 ∷ [])
    ∷ refusal "p cnf 1 1 1 x" 3 (24 ∷ 10 ∷ [])
    -- a room of no words: 31 comes first where the header does not stand
    ∷ refusal "p cnf" 0 (31 ∷ 5 ∷ [])
    ∷ refusal "p x" 0 (31 ∷ 2 ∷ [])
    ∷ []

-- 32 and 33: "at the end 32 for a clause missing or not closed", "33 after the last clause declared"
unfoldable pub end_files : List Row
end_files =
    -- a clause is missing: the only one; the second
    refusal "p cnf 1 1" 5 (32 ∷ 9 ∷ [])
    ∷ refusal "p cnf 1 2 1 0\n" 5 (32 ∷ 14 ∷ [])
    -- a clause is not closed: the only one; the second; its 0 stands in a longer number
    ∷ refusal "p cnf 1 1 1" 5 (32 ∷ 11 ∷ [])
    ∷ refusal "p cnf 1 2 1 0 -1\n" 7 (32 ∷ 17 ∷ [])
    ∷ refusal "p cnf 10 1 10" 20 (32 ∷ 13 ∷ [])
    -- a number behind the last clause: an entry; one that is no device; a 0; where no clause is declared
    ∷ refusal "p cnf 1 1 1 0 1" 9 (33 ∷ 14 ∷ [])
    ∷ refusal "p cnf 1 1 1 0 2" 9 (33 ∷ 14 ∷ [])
    ∷ refusal "p cnf 1 1 1 0\n0\n" 9 (33 ∷ 14 ∷ [])
    ∷ refusal "p cnf 1 0 0" 9 (33 ∷ 10 ∷ [])
    ∷ refusal "p cnf 0 0 1" 9 (33 ∷ 10 ∷ [])
    -- more entries than a clause may have do not matter behind the last one; 21 and 22 come before 33 at the same token
    ∷ refusal "p cnf 1 1 1 1 1 1 1 1 1 1 1 1 1 1 1 1 1 1 1 1 1 1 1 1 1 1 1 1 1 1 1 1 1 1 0 1" 36 (33 ∷ 76 ∷ [])
    ∷ refusal "p cnf 1 0 1x" 9 (21 ∷ 11 ∷ [])
    ∷ refusal "p cnf 1 0 2147483648" 9 (22 ∷ 10 ∷ [])
    ∷ []
