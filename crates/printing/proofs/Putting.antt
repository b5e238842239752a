-- Bytes put on a page: a copy into its room, one run behind another, a number, and the numbers of a line.
--
-- In order: how many bytes of two runs have place (`stored_then`); stores behind a room's end are left out (`sets_behind`); a copy, byte
-- by byte (`copy_more`, `copy_end`); one run of stores behind another (`stores_then`), and so on a page (`puts_then`, `puts_more`); nothing
-- put (`puts_nothing`); a number behind what stands in front of it (`number_puts`); items behind blanks, one list behind another
-- (`spaced_append`), and so no number (`numbers_none`) and one more (`numbers_more`). Assumes nothing.
use mathlib.Core.Path.{◌≡◌, refl, sym, ◌∙◌, ap}
use mathlib.Core.Bool.{Bool, true, false}
use mathlib.Core.List.{List, [], ◌∷◌, ◌++◌, append_assoc, append-nil}
use Prim.Native.Nat.{ℕ, suc, ◌+◌, ◌-◌, ◌≤◌, ◌<◌}
use native.Mathlib.Numerals.{add-one}
use native.Mathlib.Omega.{arith}
use lib.ListN.{length, get_or, take, drop, set, length-append, length-drop}
use lib.Seq.{set_out, sets, length-sets, take-suc, drop-cons}
use lib.Dec.{leb}
use borrow.Author.Tests.{leb-true, leb-false}
use Rattle.io.specs.Digits.{last_digits, IsDigitCount}
use Rattle.lists.specs.Bytes.{bytes}
use Rattle.typed.specs.Printing.{digits_of}
use Rattle.lists.proofs.InFront.{sets_append}
use Rattle.printing.specs.declared.Page.{Page}
use Rattle.printing.specs.Lines.{spaced}
use Rattle.printing.specs.Contract.{stored, Stores, Puts}
use Rattle.printing.proofs.Digits.{decimal_is}

-- ── how many bytes have place ──
-- of two runs, one behind the other
stored_then : (a b at room : ℕ) → at + stored a at room + stored b (at + stored a at room) room ≡ at + stored (a + b) at room
stored_then a b at room = omega arith

-- ── stores behind a room's end ──
sets_behind : (room : List ℕ) (k : ℕ) (bytes : List ℕ) → length room ≤ k → sets room k bytes ≡ room
sets_behind room k [] h = refl
sets_behind room k (b ∷ bytes) h =
    ap (λ (l : List ℕ). sets l (suc k) bytes) (set_out room k b h) ∙ sets_behind room (suc k) bytes (omega arith)

-- ── a copy, byte by byte ──
module _ (bytes before room : List ℕ) (at count : ℕ) (told : count ≡ stored (length bytes) at (length before)) (i : ℕ)
    (inv : sets room (at + i) (drop i bytes) ≡ sets before at bytes) where
  pub copy_more : i < count → sets (set room (at + i) (get_or bytes i 0)) (at + (i + 1)) (drop (i + 1) bytes) ≡ sets before at bytes
  copy_more h =
      let s : at + (i + 1) ≡ suc (at + i) = omega arith in
      rw (s, add-one) (sym (ap (sets room (at + i)) (drop-cons bytes i 0 (omega arith))) ∙ inv)

  -- no byte is left, or no place
  pub copy_end : count ≤ i → length room ≡ length before → room ≡ sets before at bytes
  copy_end h size = sym (go (drop i bytes) (length-drop i bytes)) ∙ inv
    where
      go : (rest : List ℕ) → length rest ≡ length bytes - i → sets room (at + i) rest ≡ room
      go [] e = refl
      go (b ∷ rest) e = sets_behind room (at + i) (b ∷ rest) (omega arith)

-- ── one run behind another ──
module _ (a b : List ℕ) (at : ℕ) (before : List ℕ) (next : ℕ) (out : List ℕ) (p : Stores a at before next out) where
  size : length (sets before at a) ≡ length before
  size = length-sets before at a

  -- what is left to put may be put behind what was put
  put_before : sets out next b ≡ sets before at (a ++ b)
  put_before =
      ap (λ (o : List ℕ). sets o next b) p.leaves ∙ go (leb (at + length a) (length before)) refl ∙ sym (sets_append before at a b)
    where
      go : (t : Bool) → leb (at + length a) (length before) ≡ t → sets (sets before at a) next b ≡ sets (sets before at a) (at + length a) b
      go true u = let l = leb-true (at + length a) (length before) u in ap (λ (k : ℕ). sets (sets before at a) k b) (omega arith)
      go false u =
          let l = leb-false (at + length a) (length before) u in
          sets_behind (sets before at a) next b (omega (arith, size, p.ends)) ∙ sym (sets_behind (sets before at a) (at + length a) b (omega (arith, size)))

  stores_then : (r : ℕ) (after : List ℕ) → Stores b next out r after → Stores (a ++ b) at before r after
  stores_then r after q =
      let long : length out ≡ length before = ap length p.leaves ∙ size in
      record {
        ends = q.ends ∙ rw (long, p.ends, length-append a b) (stored_then (length a) (length b) at (length before));
        leaves = q.leaves ∙ put_before;
      }

module _ {before next after : Page} where
  pub puts_then : {a b : List ℕ} → Puts a before next → Puts b next after → Puts (a ++ b) before after
  puts_then {a} {b} p q = record { same = q.same ∙ p.same; stores = stores_then a b _ _ _ _ p.stores _ _ q.stores }

  pub puts_more : {whole : List ℕ} (a b : List ℕ) → whole ≡ a ++ b → Puts a before next → Puts b next after → Puts whole before after
  puts_more a b e p q = rw e (puts_then p q)

pub puts_nothing : {text : List ℕ} {page : Page} → text ≡ [] → Puts text page page
puts_nothing e = rw e record { same = refl; stores = record { ends = omega arith; leaves = refl } }

-- ── a number, by the kit's digits, behind what stands in front of it ──
module _ (front : List ℕ) (n : ℕ) (before next after : Page) (k : ℕ) (text : List ℕ) where
  pub number_puts : Puts front before next → IsDigitCount 10 1 n k → take k text ≡ last_digits 10 k n → Puts (take k text) next after
      → Puts (front ++ digits_of n) before after
  number_puts p few spelled q = puts_then p (rw (spelled, decimal_is n k few) at q)

-- ── items behind blanks, one list behind another ──
pub spaced_append : {A : Type 0} (f : A → List ℕ) (l m : List A) → spaced f (l ++ m) ≡ spaced f l ++ spaced f m
unfolding spaced
spaced_append f [] m = refl
spaced_append f (x ∷ l) m = ap (λ (t : List ℕ). bytes " " ++ (f x ++ t)) (spaced_append f l m) ∙ ap (λ (t : List ℕ). bytes " " ++ t) (sym (append_assoc (f x) _ _))

pub numbers_none : (numbers : List ℕ) → spaced digits_of (take 0 numbers) ≡ []
unfolding spaced
numbers_none numbers = refl

pub numbers_more : (numbers : List ℕ) (i : ℕ) → i < length numbers
    → spaced digits_of (take (i + 1) numbers) ≡ spaced digits_of (take i numbers) ++ (bytes " " ++ digits_of (get_or numbers i 0))
unfolding spaced
numbers_more numbers i h =
    let n = get_or numbers i 0 in
    rw (add-one, take-suc numbers i 0 h)
    (spaced_append digits_of (take i numbers) (n ∷ []) ∙ ap (λ (l : List ℕ). spaced digits_of (take i numbers) ++ (bytes " " ++ l)) (append-nil (digits_of n)))
