-- The tables of known rows, each as one claim, by computation: 01's starred rows (`starred_right`), its other rows
-- (`unstarred_right`), the ways astray (`astray_right`), which count was wrong (`counts_right`), rules that name both positions
-- (`doors_right`), rules in full settings (`truths_right`), the rules left of the door's and the four-device sheet's
-- (`left_right`), and 01's row as it was before request 3 (`earlier_right`). Then of the list: which plans are listed (`tied_right`), the
-- budget and the room (`limited_right`), none and bad sheets (`unlisted_right`), the bytes of the room afterwards (`rooms_right`), the
-- numbers of 256 plans and of 257 (`many_right`). The largest total is Largest. Assumes nothing.
use mathlib.Core.Path.{◌≡◌, refl}
use mathlib.Core.List.{map, ◌++◌}
use Rattle.hall.specs.Hall.{holds, is_free, hold, holds_one, among, names_both, meets_rule, meets_all, first_unmet, leave_out}
use Rattle.hall.specs.Order.{if_held, cost_of, held_of, held_from, less, rank, better}
use Rattle.hall.specs.Settings.{is_true, rule_true, all_true}
use Rattle.hall.specs.Walk.{keep, one_more, closes, shut, still, after, entry_by, through, opening, node_by, node, walk, walk_from, start, walk_hall}
use Rattle.hall.specs.Ties.{ties, tying, place_by, place, in_order, equal_to, joined}
use Rattle.hall.specs.Ranges.{words_of, rule_words, words}
use Rattle.hall.specs.Reading.{times, rule, all_rules, hall, decode_by, decode}
use Rattle.hall.specs.Answer.{answer}
use Rattle.hall.specs.Table.{Row, written_of, written, starred, unstarred, astray, counts, doors, Truth, truths, door, four_rules, earlier_row}
use Rattle.hall.specs.Listing.{fits, listing, list_numbers}
use Rattle.hall.specs.TiesTable.{TiesRow, written_list, tied, limited, unlisted, RoomRow, left_in, rooms, many}
use Rattle.hall.specs.Earlier.{holds_each, first_unheld, held_node_by, held_node, held_walk, held_walk_hall, held_answer}

pub starred_right : map written starred ≡ map (λ (r : Row). r.expected) starred
unfolding starred written answer decode decode_by hall all_rules rule times walk_hall walk_from start walk node node_by opening through entry_by after still shut closes one_more keep better rank less held_from held_of cost_of if_held first_unmet meets_all meets_rule names_both among holds_one hold is_free holds words_of
starred_right = refl

pub unstarred_right : map written unstarred ≡ map (λ (r : Row). r.expected) unstarred
unfolding unstarred written answer decode decode_by hall all_rules rule times walk_hall walk_from start walk node node_by opening through entry_by after still shut closes one_more keep better rank less held_from held_of cost_of if_held first_unmet meets_all meets_rule names_both among holds_one hold is_free holds words_of
unstarred_right = refl

pub astray_right : map written astray ≡ map (λ (r : Row). r.expected) astray
unfolding astray written answer decode decode_by hall all_rules rule times walk_hall walk_from start walk node node_by opening through entry_by after still shut closes one_more keep better rank less held_from held_of cost_of if_held first_unmet meets_all meets_rule names_both among holds_one hold is_free holds words_of
astray_right = refl

pub counts_right : map written counts ≡ map (λ (r : Row). r.expected) counts
unfolding counts written answer decode decode_by hall all_rules rule times
counts_right = refl

pub doors_right : map written doors ≡ map (λ (r : Row). r.expected) doors
unfolding doors written answer decode decode_by hall all_rules rule times walk_hall walk_from start walk node node_by opening through entry_by after still shut closes one_more keep better rank less held_from held_of cost_of if_held first_unmet meets_all meets_rule names_both among holds_one hold is_free holds words_of
doors_right = refl

pub truths_right : map (λ (t : Truth). all_true t.setting t.rules) truths ≡ map (λ (t : Truth). t.expected) truths
unfolding truths all_true rule_true is_true
truths_right = refl

pub left_right : leave_out (door ++ four_rules) ≡ four_rules
unfolding leave_out names_both among
left_right = refl

pub earlier_right : written_of (held_answer earlier_row.sheet earlier_row.budget earlier_row.room) ≡ earlier_row.expected
unfolding held_answer decode decode_by hall all_rules rule times held_walk_hall start held_walk held_node held_node_by opening through entry_by after still shut closes one_more keep better rank less held_from held_of cost_of if_held first_unheld holds_each holds_one hold is_free holds words_of
earlier_right = refl

-- ── the list ──
pub tied_right : map written_list tied ≡ map (λ (r : TiesRow). r.expected) tied
unfolding tied written_list listing fits joined equal_to in_order place place_by tying ties decode decode_by hall all_rules rule times walk_hall walk_from start walk node node_by opening through entry_by after still shut closes one_more keep better rank less held_from held_of cost_of if_held first_unmet meets_all meets_rule names_both among holds_one hold is_free holds words_of
tied_right = refl

pub limited_right : map written_list limited ≡ map (λ (r : TiesRow). r.expected) limited
unfolding limited written_list listing fits joined equal_to in_order place place_by tying ties decode decode_by hall all_rules rule times walk_hall walk_from start walk node node_by opening through entry_by after still shut closes one_more keep better rank less held_from held_of cost_of if_held first_unmet meets_all meets_rule names_both among holds_one hold is_free holds words_of
limited_right = refl

pub unlisted_right : map written_list unlisted ≡ map (λ (r : TiesRow). r.expected) unlisted
unfolding unlisted written_list listing fits joined equal_to in_order place place_by tying ties decode decode_by hall all_rules rule times walk_hall walk_from start walk node node_by opening through entry_by after still shut closes one_more keep better rank less held_from held_of cost_of if_held first_unmet meets_all meets_rule names_both among holds_one hold is_free holds words_of
unlisted_right = refl

pub rooms_right : map left_in rooms ≡ map (λ (r : RoomRow). r.expected) rooms
unfolding rooms left_in listing fits joined equal_to in_order place place_by tying ties decode decode_by hall all_rules rule times walk_hall walk_from start walk node node_by opening through entry_by after still shut closes one_more keep better rank less held_from held_of cost_of if_held first_unmet meets_all meets_rule names_both among holds_one hold is_free holds words_of
rooms_right = refl

pub many_right : map (λ (r : TiesRow). list_numbers (listing r.sheet r.budget r.room)) many ≡ map (λ (r : TiesRow). r.expected.told) many
unfolding many words rule_words listing fits joined equal_to in_order place place_by tying ties decode decode_by hall all_rules rule times walk_hall walk_from start walk node node_by opening through entry_by after still shut closes one_more keep better rank less held_from held_of cost_of if_held first_unmet meets_all meets_rule names_both among holds_one hold is_free holds words_of
many_right = refl
