-- The ranges of the table, and the sheet of a hall. 01, "The hall sheet".
--
-- In order: a hall within every range; the words of a hall; the sheets that are accepted. Definitions only.
use Rattle.std.specs.Prelude.{◌≡◌, List, [], ◌∷◌, ◌++◌, ℕ, suc, ◌≤◌, ◌<◌, length, ℤ, pos, negsuc}
use Rattle.lists.specs.Lists.{Each}
use Rattle.hall.specs.Hall.{Entry, at1, at0, device, Rule, Hall}

-- "width of a rule | 0 to 32", "size of an entry without its sign | 1 to n" (devices are numbered from 0 here)
pub record RuleInRange (n : ℕ) (r : Rule) : Type 0 where
  pub width : length r ≤ 32
  pub named : Each (λ e. device e < n) r

-- "devices | 0 to 200", "a cost | 0 to 1,000,000,000", "rules | 0 to 2,000"
pub record HallInRange (h : Hall) : Type 0 where
  pub devices : length h.costs ≤ 200
  pub cheap : Each (λ c. c ≤ 1000000000) h.costs
  pub count : length h.rules ≤ 2000
  pub good : Each (RuleInRange (length h.costs)) h.rules

-- the words of a list, item after item
unfoldable pub words_of : {A : Type 0} → (A → List ℤ) → List A → List ℤ
words_of f [] = []
words_of f (a ∷ l) = f a ++ words_of f l

abbrev pub number_words : ℕ → List ℤ
number_words n = pos n ∷ []

-- +v is `pos v`; -v is `negsuc (v - 1)`
abbrev pub entry_words : Entry → List ℤ
entry_words (at1 v) = pos (suc v) ∷ []
entry_words (at0 v) = negsuc v ∷ []

-- "each its width and then that many entries"
unfoldable pub rule_words : Rule → List ℤ
rule_words r = pos (length r) ∷ words_of entry_words r

-- "1. the device count n, then n costs, device 1 first; 2. the rule count m, then m rules"
unfoldable pub words : Hall → List ℤ
words h = pos (length h.costs) ∷ (words_of number_words h.costs ++ (pos (length h.rules) ∷ words_of rule_words h.rules))

-- the sheets that are accepted, for a plan room of so many bytes: the sheet of a hall within every range, not too long, and the
-- room holds a mark for each device
pub record SheetOf (h : Hall) (ws : List ℤ) (room : ℕ) : Type 0 where
  pub sheet : ws ≡ words h
  pub ranges : HallInRange h
  pub short : length ws ≤ 16384
  pub fits : length h.costs ≤ room
