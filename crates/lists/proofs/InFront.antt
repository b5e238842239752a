-- Laws of `in_front`: what stands in front (`front_stands`), the rest of the room (`rest_stays`), its length (`room_as_long`,
-- `front_fits`); what a caller has who was told how many stand in front: so many lie within the room (`front_within`), and are its first
-- ones (`front_taken`); one element more in front (`front_grows`, `front_adds`), another in one's place (`front_changes`), a longer list
-- in front of that (`front_again`); stores from the front of a room on that has place for them (`sets_in_front`), one run of stores
-- behind another (`sets_append`), rooms that stores make equal are equally long (`sets_as_long`). Assumes nothing.
use mathlib.Core.Path.{◌≡◌, refl, sym, ◌∙◌, ap}
use mathlib.Core.List.{List, [], ◌∷◌, ◌++◌, append_assoc}
use Prim.Native.Nat.{ℕ, suc, ◌+◌, ◌-◌, ◌≤◌, ◌<◌}
use native.Mathlib.Numerals.{add-one}
use native.Mathlib.Nat.{sub-zero}
use native.Mathlib.Omega.{arith}
use lib.ListN.{length, get_or, take, drop, set, length-append, length-drop}
use lib.Seq.{length-take-le, take-suc, drop-cons, take-append_seam, drop-append_seam, drop-drop, set_at, sets, length-sets, sets-eq}
use Rattle.lists.specs.Lists.{in_front}

module _ {A : Type 0} where
  pub front_stands : (front room : List A) → take (length front) (in_front front room) ≡ front
  front_stands front room = take-append_seam front _

  pub rest_stays : (front room : List A) → drop (length front) (in_front front room) ≡ drop (length front) room
  rest_stays front room = drop-append_seam front _

  pub room_as_long : (front room : List A) → length front ≤ length room → length (in_front front room) ≡ length room
  room_as_long front room l = omega (arith, length-append front (drop (length front) room), length-drop (length front) room)

  pub front_fits : (front room : List A) → length front ≤ length (in_front front room)
  front_fits front room = omega (arith, length-append front (drop (length front) room))

  module _ (front room after : List A) (k : ℕ) (many : k ≡ length front) (stands : after ≡ in_front front room) where
    pub front_within : k ≤ length after
    front_within = omega (arith, ap length stands, front_fits front room)

    pub front_taken : take (k - 0) after ≡ front
    front_taken = ap (λ (i : ℕ). take i after) (sub-zero k ∙ many) ∙ ap (take (length front)) stands ∙ front_stands front room

  pub front_grows : (front room : List A) (i : ℕ) (d : A) → i < length front → length front ≤ length room
      → set (in_front (take i front) room) i (get_or front i d) ≡ in_front (take (i + 1) front) room
  front_grows front room i d l m =
      let size : length (take i front) ≡ i = length-take-le i front (omega arith) in
      rw (add-one i, length-take-le (suc i) front l, take-suc front i d l, size, drop-cons room i d (omega arith))
      (set_at (take i front) (get_or room i d) (drop (suc i) room) (get_or front i d) i size ∙ sym (append_assoc (take i front) (get_or front i d ∷ []) (drop (suc i) room)))

  pub front_adds : (front room : List A) (a d : A) → length front < length room → set (in_front front room) (length front) a ≡ in_front (front ++ (a ∷ [])) room
  front_adds front room a d l =
      let k = length front in
      let size : suc k ≡ length (front ++ (a ∷ [])) = omega (arith, length-append front (a ∷ [])) in
      ap (λ (r : List A). set (front ++ r) k a) (drop-cons room k d l)
      ∙ set_at front (get_or room k d) (drop (suc k) room) a k refl
      ∙ ap (λ (i : ℕ). front ++ (a ∷ drop i room)) size
      ∙ sym (append_assoc front (a ∷ []) (drop (length (front ++ (a ∷ []))) room))

  pub front_changes : (before : List A) (x y : A) (after room : List A)
      → set (in_front (before ++ (x ∷ after)) room) (length before) y ≡ in_front (before ++ (y ∷ after)) room
  front_changes before x y after room =
      let size : length (before ++ (x ∷ after)) ≡ length (before ++ (y ∷ after)) = omega (arith, length-append before (x ∷ after), length-append before (y ∷ after)) in
      ap (λ (r : List A). set r (length before) y) (append_assoc before (x ∷ after) (drop (length (before ++ (x ∷ after))) room))
      ∙ set_at before x (after ++ drop (length (before ++ (x ∷ after))) room) y (length before) refl
      ∙ ap (λ (i : ℕ). before ++ (y ∷ (after ++ drop i room))) size
      ∙ sym (append_assoc before (y ∷ after) (drop (length (before ++ (y ∷ after))) room))

  pub front_again : (front longer room : List A) → length front ≤ length longer → in_front longer (in_front front room) ≡ in_front longer room
  front_again front longer room l =
      let k = length longer - length front in
      let size : length front + k ≡ length longer = omega arith in
      ap (λ (rest : List A). longer ++ rest)
      (ap (λ (n : ℕ). drop n (in_front front room)) (sym size)
      ∙ sym (drop-drop k (length front) (in_front front room))
      ∙ ap (drop k) (rest_stays front room)
      ∙ drop-drop k (length front) room
      ∙ ap (λ (n : ℕ). drop n room) size)

  pub sets_in_front : (front room : List A) → length front ≤ length room → sets room 0 front ≡ in_front front room
  sets_in_front front room l =
      let z : 0 + length front ≡ length front = omega arith in
      sets-eq front room 0 (omega arith) ∙ ap (λ (k : ℕ). front ++ drop k room) z

  pub sets_append : (room : List A) (k : ℕ) (a b : List A) → sets room k (a ++ b) ≡ sets (sets room k a) (k + length a) b
  sets_append room k [] b = ap (λ (i : ℕ). sets room i b) (omega arith)
  sets_append room k (v ∷ a) b = sets_append (set room k v) (suc k) a b ∙ ap (λ (i : ℕ). sets (sets (set room k v) (suc k) a) i b) (omega arith)

  pub sets_as_long : (room room' : List A) (i j : ℕ) (a b : List A) → sets room i a ≡ sets room' j b → length room ≡ length room'
  sets_as_long room room' i j a b e = sym (length-sets room i a) ∙ ap length e ∙ length-sets room' j b
