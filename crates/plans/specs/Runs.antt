-- Runs of plans: bytes in which plans of n marks each lie one behind the other. 02, request 5: "They go into a lent room, each plan
-- written into the part behind the last one, the rest unchanged."
--
-- In order: the plans in a run; a plan written into a room; a run put in order into a room; the next plan in order. Definitions only.
use Rattle.std.specs.Prelude.{◌≡◌, Bool, cond, List, [], ◌∷◌, ℕ, zero, suc, ◌/◌, length, take, drop, leb, Option}
use Rattle.std.specs.List.{filter, reduce}
use Rattle.lists.specs.Lists.{in_front}
use Rattle.hall.specs.Hall.{Plan}
use Rattle.hall.specs.Order.{less}
use Rattle.hall.specs.Ties.{in_order, joined}

-- so many plans of n marks each, from the front of a run on
unfoldable pub plans_from : (many n : ℕ) → (run : List ℕ) → List Plan
plans_from zero n run = []
plans_from (suc many) n run = take n run ∷ plans_from many n (drop n run)

-- the whole plans of n marks in a run, first to last; what is left behind the last of them is no plan. A number divided by 0 is 0: there
-- are no plans of no marks
unfoldable pub plans_in : (n : ℕ) → (run : List ℕ) → List Plan
plans_in n run = plans_from (length run / n) n run

-- a room after a plan was written into it: the plan stands in front where it has place, else nothing is written
unfoldable pub written_in : Plan → (room : List ℕ) → List ℕ
written_in p room = cond (leb (length p) (length room)) (in_front p room) room

-- the plans of a run were put into a room, "best first by 01's order, each once": where the room is at least as long as the run; else the
-- room is as it was
pub record PutsInOrder (n : ℕ) (run before : List ℕ) (r : Bool) (after : List ℕ) : Type 0 where
  pub says : r ≡ leb (length run) (length before)
  pub room : after ≡ cond (leb (length run) (length before)) (in_front (joined (in_order (plans_in n run))) before) before

-- ── one plan after the other ──
-- of some plans, those that come behind one
abbrev pub behind : Plan → List Plan → List Plan
behind last = filter (less last)

-- of two plans, the one that comes first; the first of them where they are the same
abbrev pub first_of_two : Plan → Plan → Plan
first_of_two best p = cond (less p best) p best

-- the first in order of some plans, where there is one
abbrev pub first_of : List Plan → Option Plan
first_of = reduce first_of_two
