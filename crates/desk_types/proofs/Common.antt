-- The names that most proofs use: the kit's numbers, lists and logic, and the definitions of a desk.
-- Each means one thing in all files. A name that fewer than three files use is named where it is used.

-- The kit: numbers, lists, options and logic.
pub use Rattle.std.proofs.Common.{[], ◌&&◌, ◌*◌, ◌++◌, ◌+◌, ◌-◌, ◌<◌, ◌==◌, ◌^◌, ◌||◌, ◌↔◌, ◌∙◌, ◌∷◌, ◌≡◌}
pub use Rattle.std.proofs.Common.{◌≢◌, ◌≤◌, ◌⊎◌, All, Any, ap, append-nil, append_assoc, ap₂, arith, Bool}
pub use Rattle.std.proofs.Common.{Bor, codes, cond, Contains, count_by, decimal, drop, eq-eqb, eqb-true, Err}
pub use Rattle.std.proofs.Common.{false, filter, filter_map, find, get_or, Global, IfErr, IfOk, IfSome}
pub use Rattle.std.proofs.Common.{if◌then◌else◌, inl, inr, int_cmp, is_gt, is_lt, is_ok, is_some, IsSomeAnd}
pub use Rattle.std.proofs.Common.{IsTrue, leb-true, length, length-append, List, map, MatchBool, max, min}
pub use Rattle.std.proofs.Common.{nat_le, nat_lt, negsuc, None, not, Ok, ok_or, OnOk, Option, option_copied}
pub use Rattle.std.proofs.Common.{pos, refl, Result, reverse, rules, slice_get, Some, SomeIff, string_bytes}
pub use Rattle.std.proofs.Common.{subst, subst₂, suc, sym, take, take-append-drop, true, true≢false}
pub use Rattle.std.proofs.Common.{unwrap_or, Vec, zero, zero-add, ℕ, ℤ}
pub use Rattle.std.specs.{BTreeSet.insert_key, Char.is_ascii_digit, Cmp.both_ways, Cmp.IsTotalOrder}
pub use Rattle.std.specs.{List.Sorted.IsPermutation, Map.keys_of, Map.lookup, Prelude.⊤, Prelude.is_none}
pub use Rattle.std.specs.{Result.IsErrAnd, Result.result_ok, Str.IsUtf8, Str.Parse.digits_value}
pub use Rattle.std.specs.{declared.cmp.Ordering.Ordering, declared.cmp.Ordering.TheVariants.Equal}
pub use Rattle.std.specs.{declared.cmp.Ordering.TheVariants.Greater, declared.cmp.Ordering.TheVariants.Less}
pub use Rattle.std.specs.BTreeMap.{BTreeMap, get, is_at, values}
pub use Rattle.std.specs.Cmp.Lexicographic.{nat_list_eq_equiv, pointwise, slice_cmp, texts_ties}
pub use Rattle.std.specs.Io.KnownBytes.{Appends, Consumes, IsAtEnd, prepend_known}
pub use Rattle.std.specs.List.{AllByRecursion, AllWithin, AllZip, cons_option, enumerate_from, flat_map}
pub use Rattle.std.specs.List.{join_with_byte, list_all, list_any, range_with_len, sum_by}
pub use Rattle.std.specs.Option.{option_and_then, option_map, option_map_or, option_or, option_to_list}
pub use Rattle.std.specs.Ordering.{is_eq, match_ordering, nat_cmp, ordering_reverse, ordering_then}
unfoldable pub use Rattle.std.specs.{List.IsDistinct, List.Sorted.IsStrictlySortedBy, Str.is_utf8}
-- What the kit proves of them.
pub use Rattle.std.proofs.{KnownBytes.Appends-nil, KnownBytes.Appends-trans, KnownBytes.Consumes-trans}
pub use Rattle.std.proofs.{Math.Logic.∥∥₁_map, Math.Nat.le-max_right, Math.Seq.take-append-add}
pub use Rattle.std.proofs.{lemmas.Bool.Decides.nat_tests, lemmas.Grind.common_steps}
pub use Rattle.std.proofs.{lemmas.Grind.flat_map-append, lemmas.Int.ints, lemmas.List.Folds.Any-from_list_any}
pub use Rattle.std.proofs.{lemmas.List.Folds.list_any-append, lemmas.List.Folds.list_any-from_Any}
pub use Rattle.std.proofs.{lemmas.List.Splits.length-slice_split, lemmas.List.Splits.slice_split_at}
pub use Rattle.std.proofs.{lemmas.List.Splits.slice_split_none, lemmas.List.Sums.AllPass-from_list_all}
pub use Rattle.std.proofs.{lemmas.List.Sums.sum_by-append, lemmas.List.Sums.sum_by-cons}
pub use Rattle.std.proofs.{lemmas.Map.Lookups.CmpEqualImpliesEq, lemmas.Map.Lookups.exact_bytes}
pub use Rattle.std.proofs.{lemmas.Map.Views.Contains-from_any, lemmas.Map.Views.list_any-from_Contains}
pub use Rattle.std.proofs.{lemmas.Slice.Eq.bytes_eq-Decides, lemmas.Str.is_utf8-from_IsUtf8}
pub use Rattle.std.proofs.{lemmas.Str.IsUtf8-from_ascii, lemmas.Str.IsUtf8-from_is_utf8}
pub use Rattle.std.proofs.Math.Bool.{and-false, and-true, and_comm, or-false, or_comm}
pub use Rattle.std.proofs.lemmas.Bool.{and_from, and_parts, cases_Bool, cases_lt, leb-false, lt-ltb}
pub use Rattle.std.proofs.lemmas.Bool.{ltb-false, ltb-true, ne_eqb, not-false, or_left, or_parts, or_right}
pub use Rattle.std.proofs.lemmas.Cmp.{int_ranked, nat_cmp_total, nat_list_cmp_total, on_total, then_total}
pub use Rattle.std.proofs.lemmas.Cmp.{tied_itself}
pub use Rattle.std.proofs.lemmas.List.{drop_all, length-drop, length-map, length-take, length-take-le}
pub use Rattle.std.proofs.lemmas.List.{map-append, map_more, reverse-append, take-append-le, take_all}
pub use Rattle.std.proofs.lemmas.List.{take_more}
pub use Rattle.std.proofs.lemmas.List.Elements.{All-append, All-cons, All-from_recursion, All-get_or}
pub use Rattle.std.proofs.lemmas.List.Elements.{All-head, All-nil, All-same, All-tail, filter-append}
pub use Rattle.std.proofs.lemmas.List.Elements.{filter_map-append, recursion_from_All}
pub use Rattle.std.proofs.lemmas.List.Sorted.{All-permutation, IsPermutation-cons, IsPermutation-map}
pub use Rattle.std.proofs.lemmas.List.Sorted.{IsPermutation-refl, IsPermutation-sym, IsPermutation-trans}
pub use Rattle.std.proofs.lemmas.List.Sorted.{length_permutation, list_any-IsPermutation}
pub use Rattle.std.proofs.lemmas.Result.{err_from_is_err_and, IfOk-weaker, on_err_weaker, on_ok_weaker}
-- What `desk_types` defines and proves.
pub use Rattle.desk_types.proofs.Keys.{is_at-by_name, is_at-by_pair, list_any-same, name-written}
pub use Rattle.desk_types.proofs.Keys.{pair-changed, pair-written, same-refl, same-sym, same-true}
pub use Rattle.desk_types.proofs.LoopSteps.{drop-next, take-next}
pub use Rattle.desk_types.specs.{Apart.numbers_apart, Apart.quantities_fit, Bounds.IsListLength}
pub use Rattle.desk_types.specs.{Designator.is_designator_byte, Designator.IsDesignator, Desk.IsChange}
pub use Rattle.desk_types.specs.{Front.front_at, Judged.IsJudged, Judged.IsLawful, Judged.IsNext}
pub use Rattle.desk_types.specs.{Level.IsLabel, Level.LevelWithLabel, Level.limit_of}
pub use Rattle.desk_types.specs.{Number.IsCountedQuantity, Number.IsMinute, Number.IsQuantity, Pair.by_pair}
pub use Rattle.desk_types.specs.{Pair.same_pair, Tape.tape_after, Tape.tape_with, Wire.failures_of}
pub use Rattle.desk_types.specs.{Wire.inner_of, Wire.reads_of}
pub use Rattle.desk_types.specs.Command.{IsCommand, IsCountRow, IsListOf, IsSheetRow, IsStamped}
pub use Rattle.desk_types.specs.Edits.{AreBalanced, AreTakesFirst, with_edit, with_edits}
pub use Rattle.desk_types.specs.Fields.{fields_in, IsNumber, members_of, number_fields, triple_fields}
pub use Rattle.desk_types.specs.Fields.{TripleInRange}
pub use Rattle.desk_types.specs.FloorLife.{bake_by, baked_by, exposure_starts, floor_life, is_baked}
pub use Rattle.desk_types.specs.FloorLife.{is_expired, is_six, is_unbaked, IsUntouched, last_bake}
pub use Rattle.desk_types.specs.FloorLife.{minutes_between, minutes_left, open_by, out_since, since_after}
pub use Rattle.desk_types.specs.Free.{by_turn, free_reels, in_order, is_free, received_by, reels_received}
pub use Rattle.desk_types.specs.History.{accept, Basis, basis, desk_minute, effective_minute, entry_of}
pub use Rattle.desk_types.specs.History.{History, IsPrefix, latest, now_of}
pub use Rattle.desk_types.specs.Id.{by_name, IsId, Name, same}
pub use Rattle.desk_types.specs.Outcome.{after_command, after_commands, change_of, detail_of, pieces_of}
pub use Rattle.desk_types.specs.Outcome.{reels_of, replies_to, reply_to, take_of, takes_by}
pub use Rattle.desk_types.specs.Pieces.{Bench, bench_of, count_picks, first, found_by, front_of}
pub use Rattle.desk_types.specs.Pieces.{is_live_where_loaded, is_mounted, is_placed, pick_for, picks_of}
pub use Rattle.desk_types.specs.Pieces.{pieces_by, pieces_off, pieces_picked, placed_of, received_of}
pub use Rattle.desk_types.specs.Pieces.{scrap_picks, scrapped_of}
pub use Rattle.desk_types.specs.Placements.{boards_of, entry_takes, EntryTake, lots_of, overdue_of}
pub use Rattle.desk_types.specs.Placements.{placement_of, placements_of, set_of}
pub use Rattle.desk_types.specs.Refusals.{counts_refusal, designators_refusal, differ, first_refusal}
pub use Rattle.desk_types.specs.Refusals.{is_above, is_too_far_ahead, is_vacant, is_wrong_for, name_twice}
pub use Rattle.desk_types.specs.Refusals.{slots_of_rows}
pub use Rattle.desk_types.specs.Row.{baked_row, fresh_row, opened_row, sealed_row}
pub use Rattle.desk_types.specs.Setup.{is_allowed, is_alternate, is_part, receipt_by, receipt_of, row_in}
pub use Rattle.desk_types.specs.Setup.{row_on, selected_on, selection_by, sheet_by, sheet_of, slot_in}
pub use Rattle.desk_types.specs.Setup.{slot_on}
pub use Rattle.desk_types.specs.StoredText.{count_fields, Field, fields_of, list_fields, name_fields}
pub use Rattle.desk_types.specs.StoredText.{row_fields, words}
pub use Rattle.desk_types.specs.Tables.{at_place, board_row, columns_of, found_row, last_put, mount_row}
pub use Rattle.desk_types.specs.Tables.{placement_row, put_by, reel_row, Tables, tables_of, work_machine}
pub use Rattle.desk_types.specs.View.{defines_on, has_sheet, life_left, loaded_slots, mount_of, part_of}
pub use Rattle.desk_types.specs.View.{reel_view, slot_mounts, used_of, view_of}
pub use Rattle.desk_types.specs.Work.{in_work_on, is_in_work, is_in_work_on, is_placed_on, places, product_of}
pub use Rattle.desk_types.specs.Work.{start_by, work_by}
unfoldable pub use Rattle.desk_types.specs.{FloorLife.exposure_of, FloorLife.is_out_at, Placements.takes_of}
unfoldable pub use Rattle.desk_types.specs.{StoredText.stored_text, StoredText.word_text, Tape.tape_of}
unfoldable pub use Rattle.desk_types.specs.Pieces.{all_picks, found_of, install_picks, left_of, live_on}
unfoldable pub use Rattle.desk_types.specs.Refusals.{alternate_refusal, closing_refusal, command_refusal}
unfoldable pub use Rattle.desk_types.specs.Refusals.{completion_refusal, definition_refusal, install_refusal}
unfoldable pub use Rattle.desk_types.specs.Refusals.{mounting_refusal, opening_refusal, part_refusal}
unfoldable pub use Rattle.desk_types.specs.Refusals.{receipt_refusal, refusal_of, scrap_refusal}
unfoldable pub use Rattle.desk_types.specs.Refusals.{selection_refusal, sheet_refusal, start_refusal}
unfoldable pub use Rattle.desk_types.specs.Refusals.{unload_refusal}
