-- The rules of a good sheet, from a place on, and what is written of them into the arrays.
--
-- In order: the codes and starts of so many rules, word by word; where a good sheet's rules stand, and the place that the
-- arrays have for them; what writing them leaves. Definitions only.
use Rattle.std.specs.Prelude.{◌≡◌, List, [], ◌∷◌, ◌++◌, ℕ, zero, suc, ◌+◌, ◌≤◌, ◌<◌, length, drop, ℤ}
use Rattle.std.proofs.lemmas.List.Edits.{sets}
use Rattle.hall.specs.Hall.{Rule}
use Rattle.lists.specs.Lists.{Each}
use Rattle.hall.specs.Ranges.{RuleInRange, words_of, rule_words}
use Rattle.sheet.specs.Word.{value_at, codes_from}

-- the codes of so many rules of n devices, the first of which has its width at a place
unfoldable pub codes_in : ℕ → List ℤ → ℕ → ℕ → List ℕ
codes_in n ws at zero = []
codes_in n ws at (suc left) = codes_from n ws (at + 1) (value_at ws at) ++ codes_in n ws (at + 1 + value_at ws at) left

-- their starts, where the first one's is `first`, and the end of the last
unfoldable pub starts_in : List ℤ → ℕ → ℕ → ℕ → List ℕ
starts_in ws at first zero = first ∷ []
starts_in ws at first (suc left) = first ∷ starts_in ws (at + 1 + value_at ws at) (first + value_at ws at) left

-- from a place on the sheet is m rules within the ranges, and nothing else
pub record RulesStand (n : ℕ) (ws : List ℤ) (at m : ℕ) : Type 0 where
  pub rules : List Rule
  pub sheet : drop at ws ≡ words_of rule_words rules
  pub number : length rules ≡ m
  pub good : Each (RuleInRange n) rules
  pub devices : n ≤ 200
  pub count : m ≤ 2000
  pub short : length ws ≤ 16384
  pub inside : at ≤ length ws

-- the arrays have place for what a sheet of m rules says of them: no more codes than words, and one start more than rules
pub record RulesRoom (ws : List ℤ) (m : ℕ) (codes starts : List ℕ) : Type 0 where
  pub codes_room : length ws ≤ length codes
  pub starts_room : m < length starts

-- so many entries of one of n devices, from a place on, have room from a code's place on
pub record CodesRoom (at width n first : ℕ) (codes : List ℕ) : Type 0 where
  pub devices : n ≤ 200
  pub short : at + width ≤ 16384
  pub room : first + width ≤ length codes

-- the arrays after the rules were written
pub record RulesPut (n : ℕ) (ws : List ℤ) (at m : ℕ) (codes starts codes' starts' : List ℕ) : Type 0 where
  pub codes_are : codes' ≡ sets codes 0 (codes_in n ws at m)
  pub starts_are : starts' ≡ sets starts 0 (starts_in ws at 0 m)
