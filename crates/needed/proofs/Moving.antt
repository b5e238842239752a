-- Moving codes down.
--
-- The codes of so many entries are those that stand there (`codes_taken`), so that storing them elsewhere is to copy them (`moves`);
-- stores leave what lies behind them (`sets_behind`). Assumes nothing.
use mathlib.Core.Path.{◌≡◌, refl, sym, ◌∙◌, ap}
use mathlib.Core.List.{List, [], ◌∷◌}
use Prim.Native.Nat.{ℕ, zero, suc, ◌+◌, ◌-◌, ◌≤◌, ◌<◌}
use native.Mathlib.Numerals.{add-one}
use native.Mathlib.Omega.{arith}
use lib.ListN.{length, get_or, take, drop, set}
use lib.Seq.{drop-cons, get_or-set_other, sets, sets-eq}
use Rattle.std.specs.List.{copy_within}
use Rattle.sheet.specs.Coded.{entries_of, entry_codes}
use Rattle.sheet.proofs.Standing.{codes_length}
use Rattle.sheet.proofs.Codes.{code_back, entries_length}
use Rattle.needed.specs.Leaving.{Movable, Moves}

codes_taken : (codes : List ℕ) (at left : ℕ) → at + left ≤ length codes → entry_codes (entries_of codes at left) ≡ take left (drop at codes)
unfolding entries_of entry_codes
codes_taken codes at zero l = refl
codes_taken codes at (suc left) l =
    let here : at < length codes = omega arith in
    rw (code_back (get_or codes at 0), drop-cons codes at 0 here, ← add-one at)
    (ap (λ (cs : List ℕ). get_or codes at 0 ∷ cs) (codes_taken codes (at + 1) left (omega arith)))

pub moves : {codes : List ℕ} {from end to : ℕ} → Movable codes from end to → Moves codes from end to (to + (end - from)) (copy_within codes from end to)
moves {codes} {from} {end} {to} s =
    let u = s.upto in
    let w = s.within in
    let d = s.down in
    let taken = codes_taken codes from (end - from) (omega arith) in
    let many : length (entry_codes (entries_of codes from (end - from))) ≡ end - from = codes_length _ ∙ entries_length codes from (end - from) in
    record { behind = refl; moved = sym (sets-eq (entry_codes (entries_of codes from (end - from))) codes to (omega arith) ∙ rw (many, taken)) }

-- stores before a place leave it as it was
pub sets_behind : (codes : List ℕ) (k : ℕ) (vs : List ℕ) (i : ℕ) → k + length vs ≤ i → get_or (sets codes k vs) i 0 ≡ get_or codes i 0
sets_behind codes k [] i l = refl
sets_behind codes k (v ∷ vs) i l = sets_behind (set codes k v) (suc k) vs i (omega arith) ∙ get_or-set_other codes k i v 0 (λ (e : i ≡ k). omega arith)
