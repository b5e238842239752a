-- What `maxsat` prints: the text of a sheet in an edition, or a refusal as `leastplan` prints it. 02, request 4.
--
-- In order: what was written; the words of a sheet; a text that was read; the whole, from the text that was typed. Definitions
-- only.
use Rattle.std.specs.Prelude.{List, [], ◌∷◌, ℕ, ℤ}
use Rattle.hall.specs.Reading.{refusal_numbers}
use Rattle.typed.specs.Text as text
use Rattle.printing.specs.Lines.{refused_line}
use Rattle.wcnf.specs.Wcnf as wcnf
use Rattle.wcnf.specs.declared.Edition.{Edition}

-- the text as it is, with no line around it; 41 is never printed (proofs/Only)
abbrev pub handed_writing : wcnf.Writing → List ℕ
handed_writing (wcnf.text t) = t
handed_writing (wcnf.bad_sheet fault place) = refused_line (refusal_numbers fault place)
handed_writing (wcnf.short_room needed) = refused_line (41 ∷ needed ∷ [])

-- for a room of 100,000 bytes
unfoldable pub handed_sheet : Edition → List ℤ → List ℕ
handed_sheet edition words = handed_writing (wcnf.writing edition words 100000)

abbrev pub handed_reading : Edition → text.Read (List ℤ) → List ℕ
handed_reading edition (text.refused mistake place) = refused_line (text.mistake_code mistake ∷ place ∷ [])
handed_reading edition (text.got words) = handed_sheet edition words

-- "fed like `leastplan`": with a room of 16,384 words
unfoldable pub handed_for : Edition → List ℕ → List ℕ
handed_for edition typed = handed_reading edition (text.read_text typed 16384)
