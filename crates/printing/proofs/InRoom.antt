-- Lines in front of a room: where they were put on a page of it from its front on (`Filled`) and have place (`put_in_room`); as other lines that are the same
-- (`in_room_as`); what is to be written lies within the room (`reply_within`); a line of numbers (`line_in_room`); that of a refusal, as
-- it is printed alone (`refused_in_room`) or put from the numbers told (`told_in_room`, `two_told_in_room`); the lines fix the length and
-- the room (`in_room_only`). Assumes nothing.
use mathlib.Core.Path.{◌≡◌, sym, ◌∙◌, ap, subst}
use mathlib.Core.List.{List, [], ◌∷◌}
use Prim.Native.Nat.{ℕ, ◌+◌, ◌-◌, ◌*◌, ◌≤◌}
use native.Mathlib.Omega.{arith}
use lib.ListN.{length, get_or, take, length-take}
use Rattle.lists.specs.Bytes.{bytes}
use Rattle.lists.specs.Lists.{in_front}
use Rattle.lists.proofs.InFront.{front_stands, rest_stays, sets_in_front}
use Rattle.refusals.specs.Contract.{Tells}
use Rattle.refusals.proofs.ToldNumbers.{told_front}
use Rattle.typed.specs.Printing.{digits_of}
use Rattle.printing.specs.Lines.{line, refused_line}
use Rattle.printing.specs.declared.Page.{Page}
use Rattle.printing.specs.Contract.{Stores, Puts, PutsLine, PrintsRefused, InRoom}

-- a page was made of a whole room, and at its end r is its place and after its room
pub record Filled (before : List ℕ) (start end : Page) (r : ℕ) (after : List ℕ) : Type 0 where
  pub begins : start.at ≡ 0
  pub lent : start.room.now ≡ before
  pub ends : r ≡ end.at
  pub leaves : after ≡ end.room.now

module _ (size : ℕ) (lines before : List ℕ) (r : ℕ) (after : List ℕ) where
  pub stored_in_room : length before ≡ size → length lines ≤ size → Stores lines 0 before r after → InRoom size lines before r after
  stored_in_room size_is fits stores =
      let says : r ≡ length lines = omega (arith, stores.ends) in
      let room : after ≡ in_front lines before = stores.leaves ∙ sets_in_front lines before (omega arith) in
      record {
        size_is = size_is;
        says = says;
        fits = omega arith;
        room = room;
        front = rw (says, room) (front_stands lines before);
        rest = rw (says, room) (rest_stays lines before);
      }

  pub put_in_room : (start end : Page) → Filled before start end r after → length before ≡ size → length lines ≤ size → Puts lines start end
      → InRoom size lines before r after
  put_in_room start end f size_is fits p = stored_in_room size_is fits (rw (f.ends, f.leaves, ← f.begins, ← f.lent) p.stores)

  pub in_room_as : (same : List ℕ) → lines ≡ same → InRoom size lines before r after → InRoom size same before r after
  in_room_as same e h = subst (λ (l : List ℕ). InRoom size l before r after) e h

  pub reply_within : InRoom size lines before r after → r ≤ length after
  reply_within h = omega (arith, h.says, ap length h.front, length-take r after)

pub line_in_room : (size : ℕ) (word numbers before : List ℕ) (r : ℕ) (after : List ℕ) (start end : Page) → Filled before start end r after
    → length before ≡ size → length word + 21 * length numbers + 1 ≤ size → PutsLine word numbers start end
    → InRoom size (line word digits_of numbers) before r after
line_in_room size word numbers before r after start end f size_is fits p =
    put_in_room size (line word digits_of numbers) before r after start end f size_is (omega (arith, p.short)) p.puts

-- the line of a refusal alone
pub refused_in_room : (size : ℕ) (numbers before : List ℕ) (r : ℕ) (after : List ℕ) → length before ≡ size → 71 ≤ size → PrintsRefused numbers before r after
    → InRoom size (refused_line numbers) before r after
refused_in_room size numbers before r after size_is long p = stored_in_room size (refused_line numbers) before r after size_is (let few = p.short in omega arith) p.stores

-- the same, where a refusal's numbers were told into an array (Tells), and put from there on a page as a line: as many as were told, or
-- the first two of two. The functions leave that to `Page::put_refused`; these laws are there so that a wrong program which does it by
-- itself is refused for the numbers that it puts
module _ (size : ℕ) (before : List ℕ) (r : ℕ) (after : List ℕ) (start end : Page) (filled : Filled before start end r after) (size_is : length before ≡ size) (long : 71 ≤ size) where
  pub told_in_room : (told array : List ℕ) (k : ℕ) (numbers : List ℕ) → Tells told array k numbers → PutsLine (bytes "refused") (take (k - 0) numbers) start end
      → InRoom size (refused_line told) before r after
  told_in_room told array k numbers t p =
      let few = t.few in
      let is = told_front told array k numbers t in
      rw (← is) (line_in_room size (bytes "refused") (take (k - 0) numbers) before r after start end filled size_is (omega (arith, ap length is, t.says)) p)

  pub two_told_in_room : (code place : ℕ) (array : List ℕ) (k : ℕ) (numbers : List ℕ) → Tells (code ∷ place ∷ []) array k numbers
      → PutsLine (bytes "refused") (get_or numbers 0 0 ∷ get_or numbers 1 0 ∷ []) start end → InRoom size (refused_line (code ∷ place ∷ [])) before r after
  two_told_in_room code place array k numbers t p =
      let q = subst (λ (l : List ℕ). PutsLine (bytes "refused") (get_or l 0 0 ∷ get_or l 1 0 ∷ []) start end) t.room p in
      line_in_room size (bytes "refused") (code ∷ place ∷ []) before r after start end filled size_is (omega arith) q

pub in_room_only : (size : ℕ) (lines before : List ℕ) (r r' : ℕ) (after after' : List ℕ) → InRoom size lines before r after
    → InRoom size lines before r' after' → (r ≡ r') × (after ≡ after')
in_room_only size lines before r r' after after' p q = (p.says ∙ sym q.says, p.room ∙ sym q.room)
