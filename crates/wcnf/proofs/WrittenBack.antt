-- What we write reads back as exactly the clauses of the hall, in both editions. 02, request 4.
--
-- In order, for any clauses whose soft weights are at least 1: the line of a clause in front of other text (`clause_back`); the
-- lines of all clauses (`clauses_back`); the first line of the edition before 2022 (`first_back`, `header_back`); a whole text,
-- whose number of variables is the largest that is named (`text_back`). For a hall: the largest that is named is its last
-- (`largest_is`); the theorem (`reads_back`). Not here: that tokens and words are read back (TokensBack, WordsBack). Assumes
-- nothing.
use mathlib.Core.Path.{◌≡◌, refl, ◌∙◌, ap}
use mathlib.Core.Bool.{false}
use mathlib.Core.List.{List, [], ◌∷◌, ◌++◌, map}
use mathlib.Core.Option.{Option, some}
use Prim.Native.Nat.{ℕ, zero, suc, ◌+◌, ◌≤◌, ◌<◌}
use native.Mathlib.Omega.{arith}
use lib.ListN.{length}
use borrow.Author.Tests.{eq-eqb, le-leb}
use Rattle.lists.specs.Lists.{Each}
use Rattle.lists.specs.Bytes.{bytes}
use Rattle.hall.specs.Hall.{device, Rule, Hall}
use Rattle.hall.specs.Ranges.{HallInRange}
use Rattle.typed.specs.Printing.{digits_of, printed_word}
use Rattle.printing.specs.Lines.{spaced}
use Rattle.rails.specs.Weighted.{Clause, hard, soft, literals, soft_weights, top}
use Rattle.rails.specs.Rails.{variable, not_both, clauses, variables}
use Rattle.rails.proofs.Sizes.{WeightTo, soft_weights_fit, NamesBelow, variables_named, largest_named}
use Rattle.wcnf.specs.declared.Edition.{Edition}
use Rattle.wcnf.specs.declared.Edition.TheVariants.{Since2022, Before2022}
use Rattle.wcnf.specs.Wcnf.{clause_line, clause_lines, first_line, text_of, wcnf}
use Rattle.wcnf.specs.Format.{pieces, is_comment, lines_of, telling, same, clauses_of, largest_in, largest, header, read_wcnf}
use Rattle.wcnf.proofs.TokensBack.{IsToken, line_back, items_tokens, items_line}
use Rattle.wcnf.proofs.WordsBack.{numbers_back, number_token, number_plain, word_token, clause_words, literals_back, Starts, starts_since, starts_before}

-- ── clauses ──
clause_back : (start : List ℕ → Option (Rule → Clause)) (t : List ℕ) (kind : Rule → Clause) (c : Rule) (rest : List ℕ) (cs : List Clause)
    → IsToken t → is_comment t ≡ false → start t ≡ some kind → clauses_of start (telling rest) ≡ some cs
    → clauses_of start (telling (clause_line t c ++ rest)) ≡ some (kind c ∷ cs)
unfolding clauses_of
clause_back start t kind c rest cs i plain s r =
    ap (λ (l : List ℕ). clauses_of start (telling (l ++ rest))) (items_line t printed_word (clause_words c))
    ∙ ap (clauses_of start) (line_back t _ rest i plain (items_tokens printed_word word_token (clause_words c)))
    ∙ rw (s, literals_back c, r) refl

clauses_back : {most : ℕ} {word : List ℕ} {start : List ℕ → Option (Rule → Clause)} → Starts most word start → (cs : List Clause) → Each (WeightTo most) cs
    → clauses_of start (telling (clause_lines word cs)) ≡ some cs
unfolding clause_lines pieces lines_of clauses_of
clauses_back s [] fit = refl
clauses_back {word} {start} s (hard c ∷ cs) fit = clause_back start word hard c _ cs s.token s.plain s.as_hard (clauses_back s cs fit.1)
clauses_back {start} s (soft w c ∷ cs) fit =
    clause_back start _ (soft w) c _ cs (number_token w) (number_plain w) (s.as_soft w fit.0.0 fit.0.1) (clauses_back s cs fit.1)

-- ── the first line ──
first_back : (v : ℕ) (cs : List Clause) (rest : List ℕ)
    → telling (first_line v cs ++ rest) ≡ (bytes "p" ∷ bytes "wcnf" ∷ map digits_of (v ∷ length cs ∷ top cs ∷ [])) ∷ telling rest
unfolding spaced
first_back v cs rest =
    let numbers = v ∷ length cs ∷ top cs ∷ [] in
    let p : IsToken (bytes "p") = record { some = omega arith; above = (omega arith, tt) } in
    let wcnf : IsToken (bytes "wcnf") = record { some = omega arith; above = (omega arith, (omega arith, (omega arith, (omega arith, tt)))) } in
    ap (λ (l : List ℕ). telling (l ++ rest)) (items_line (bytes "p wcnf") digits_of numbers)
    ∙ line_back (bytes "p") (bytes "wcnf" ∷ map digits_of numbers) rest p refl (wcnf, items_tokens digits_of number_token numbers)

header_back : (v m t : ℕ) → header (bytes "p" ∷ bytes "wcnf" ∷ map digits_of (v ∷ m ∷ t ∷ [])) ≡ some (record { variables = v; count = m; top = t })
unfolding same
header_back v m t = rw (numbers_back (v ∷ m ∷ t ∷ [])) refl

-- ── a text ──
pub text_back : (edition : Edition) (v : ℕ) (cs : List Clause) → Each (WeightTo (soft_weights cs)) cs → largest cs ≡ v
    → read_wcnf edition (text_of edition v cs) ≡ some (record { variables = v; clauses = cs })
unfolding read_wcnf
text_back Since2022 v cs fit l = rw (clauses_back (starts_since (soft_weights cs)) cs fit, l) refl
text_back Before2022 v cs fit l =
    rw (
      first_back v cs (clause_lines (digits_of (top cs)) cs),
      header_back v (length cs) (top cs),
      clauses_back (starts_before (soft_weights cs)) cs fit,
      eq-eqb (length cs) (length cs) refl,
      le-leb (largest cs) v (omega arith),
    )
    refl

-- ── of a hall ──
literals_most : (n : ℕ) (es : Rule) → Each (λ e. device e < n) es → largest_in es ≤ n
unfolding largest_in
literals_most n [] each = omega arith
literals_most n (e ∷ es) each = omega (arith, each.0, literals_most n es each.1)

largest_most : (n : ℕ) (cs : List Clause) → Each (NamesBelow n) cs → largest cs ≤ n
unfolding largest
largest_most n [] each = omega arith
largest_most n (c ∷ cs) each = omega (arith, literals_most n (literals c) each.0, largest_most n cs each.1)

largest_least : (before : List Clause) (c : Clause) (after : List Clause) → largest_in (literals c) ≤ largest (before ++ (c ∷ after))
unfolding largest
largest_least [] c after = omega arith
largest_least (b ∷ before) c after = omega (arith, largest_least before c after)

last_pair : (k : ℕ) → suc k + suc k ≤ largest_in (not_both k)
unfolding largest_in variable
last_pair k = omega arith

largest_is : (h : Hall) → HallInRange h → largest (clauses h) ≡ variables h
largest_is h ranges = go (length h.costs) refl
  where
    most : largest (clauses h) ≤ variables h
    most = largest_most (variables h) (clauses h) (variables_named h ranges)

    go : (n : ℕ) → n ≡ length h.costs → largest (clauses h) ≡ variables h
    go zero e = omega (arith, most)
    go (suc k) e =
        let f = largest_named h k e in
        let last : largest_in (not_both k) ≤ largest (clauses h) = rw f.2 (largest_least f.0 (hard (not_both k)) f.1) in
        omega (arith, most, last, last_pair k)

-- the claim of the request on bytes: what is written for a hall says its variables and its clauses, no more and no fewer
pub reads_back : (edition : Edition) (h : Hall) → HallInRange h → read_wcnf edition (wcnf edition h) ≡ some (record { variables = variables h; clauses = clauses h })
unfolding wcnf
reads_back edition h ranges = text_back edition (variables h) (clauses h) (soft_weights_fit h) (largest_is h ranges)
