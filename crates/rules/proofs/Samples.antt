-- The claim of the samples: the rules, computed on each row of the table. Assumes nothing.
use mathlib.Core.Path.{◌≡◌, refl, sym, ap, ◌∙◌, subst}
use mathlib.Core.Bool.{Bool, true, false}
use mathlib.Core.List.{List}
use Prim.Native.Nat.{ℕ}
use lib.ListN.{get_or}
use lib.Dec.{T}
use lib.Ieee.{odd}
use Rattle.rules.specs.Lists.{Each, any, keep, repeats, concat, entries, cut, overwritten, concat_map, up_from, has, insert, key_of, same, index_of, meet, meet_all, distinct}
use Rattle.rules.specs.Mesh.{topology, mesh_of, whole, singles, by_dimension, places, cell_parts, first_holding, smallest, smallest_table}
use Rattle.rules.specs.Split.{corners_at, key_at, met, distinct_parts, parts, fine_vertex, child, children, split_by, split}
use Rattle.rules.specs.Means.{floor_div, floor_mod}
use Rattle.rules.specs.Averaging.{holding, or_else, counted, rank, valence, eighths, cell_draws, mean_at, means, axis, averaged, round, refined, split_times, rounds_of}
use Rattle.rules.specs.Accuracy.{common, exact_divisor, exact, draws_on, feeding, left, has_remainder, least_of, greatest_of, least, greatest, accurate, accurate_at, accuracies}
use Rattle.rules.specs.Counts.{sizes, next_sizes, sizes_after, counts_in, counts_of, finished_counts, out_of_range, fewer}
use Rattle.rules.specs.Refusals.{partial_entry, count_out_of_range, outside, coordinate_out_of_range, corner_out_of_range, repeated_corner, duplicate_cell, ring, mismatched, mismatched_face, isolated_vertex, too_large, table_checks, mesh_checks}
use Rattle.rules.specs.EntryPoints.{result_tables, front_of, cleared_tables, finished_answer, short_for_refining, refining_refusal, refining_answer, refining_output, range_kept, irregular, irregular_count, irregular_answer, in_millimetres, millimetres_refusal, millimetres_answer}
use Rattle.rules.specs.Bits.{number, first_bits, field_at, table_at, bits_in, spelled, bytes_for, bytes_of, packed, encode, digits_in, binary_digits, width_of}
use Rattle.rules.specs.StoredForm.{to_field, of_field, table_fields, header_fields, index_width, mesh_fields, stored_form, header_of, layout, stored_mesh, header_cut, wrong_length, unknown_form, wrong_width, spare_bits, reading_refusal, reading_answer, reading_output, header_answer, writing_refusal, writing_answer, writing_output}
use Rattle.rules.specs.Viewer.{stored_refining_refusal, viewer_refusal, viewer_answer, viewer_output, viewer_irregular_count}
use Rattle.rules.specs.Listing.{decimal_in, decimal, signed_decimal, fields, line as listing_line, refused_line, mesh_line, vertex_line, cell_lines, mesh_lines, listing_refusal, listing}
use Rattle.rules.specs.SampleMeshes.{line, wire, bar, square, square8, cube, sides, grid, dots, hub, span, low_hub, wide_cube, mixed, bar_bytes, slope, tent, every_kind, lent_tables, work_tables, long_tables, full_tables, many_points}
use Rattle.rules.specs.SampleClaims.{Holds}
use Rattle.rules.specs.PartRows.{part_rows}
use Rattle.rules.specs.RoundRows.{round_rows}
use Rattle.rules.specs.AccuracyRows.{accuracy_rows}
use Rattle.rules.specs.RefusalRows.{refusal_rows}
use Rattle.rules.specs.EntryRows.{entry_rows}
use Rattle.rules.specs.StoredRows.{stored_rows}
use Rattle.rules.specs.Samples.{Samples}

-- where one has false and the other true, two lists of truth values are not equal
unequal : (p : ℕ) (bs cs : List Bool) → get_or bs p true ≡ false → get_or cs p true ≡ true → bs ≡ cs → ⊥
unequal p bs cs f t e = subst T (sym t ∙ ap (λ (xs : List Bool). get_or xs p true) (sym e) ∙ f) tt

parts_hold : Each Holds part_rows
unfolding any keep repeats concat entries cut overwritten concat_map up_from has insert key_of same index_of meet meet_all distinct topology mesh_of whole singles by_dimension places cell_parts first_holding smallest smallest_table corners_at key_at met distinct_parts parts fine_vertex child children split_by split floor_div floor_mod holding or_else counted rank valence eighths cell_draws mean_at means axis averaged round refined split_times rounds_of common exact_divisor exact draws_on feeding left has_remainder least_of greatest_of least greatest accurate accurate_at accuracies sizes next_sizes sizes_after counts_in counts_of finished_counts out_of_range fewer partial_entry count_out_of_range outside coordinate_out_of_range corner_out_of_range repeated_corner duplicate_cell ring mismatched mismatched_face isolated_vertex too_large table_checks mesh_checks result_tables front_of cleared_tables finished_answer short_for_refining refining_refusal refining_answer refining_output range_kept irregular irregular_count irregular_answer in_millimetres millimetres_refusal millimetres_answer number first_bits field_at table_at bits_in spelled bytes_for bytes_of packed encode digits_in binary_digits width_of to_field of_field table_fields header_fields index_width mesh_fields stored_form header_of layout stored_mesh header_cut wrong_length unknown_form wrong_width spare_bits reading_refusal reading_answer reading_output header_answer writing_refusal writing_answer writing_output stored_refining_refusal viewer_refusal viewer_answer viewer_output viewer_irregular_count decimal_in decimal signed_decimal fields listing_line refused_line mesh_line vertex_line cell_lines mesh_lines listing_refusal listing line wire bar square square8 cube sides grid dots hub span low_hub wide_cube mixed bar_bytes slope tent every_kind lent_tables work_tables long_tables full_tables many_points odd part_rows
parts_hold = (refl, (refl, (refl, (refl, (refl, (refl, (refl, (refl, (refl, (refl, (refl, (refl, (refl, (refl, (refl, (refl, (refl, (refl, (refl, (refl, (refl, (refl, (refl, (refl, (refl, (refl, (refl, (refl, (refl, (refl, (refl, (refl, (refl, (refl, (refl, (refl, (refl, (refl, (refl, (refl, (refl, (refl, (refl, (refl, (refl, (refl, (refl, (refl, (refl, (refl, (refl, (refl, (refl, (refl, (refl, (refl, (refl, (refl, (refl, tt)))))))))))))))))))))))))))))))))))))))))))))))))))))))))))

rounds_hold : Each Holds round_rows
unfolding any keep repeats concat entries cut overwritten concat_map up_from has insert key_of same index_of meet meet_all distinct topology mesh_of whole singles by_dimension places cell_parts first_holding smallest smallest_table corners_at key_at met distinct_parts parts fine_vertex child children split_by split floor_div floor_mod holding or_else counted rank valence eighths cell_draws mean_at means axis averaged round refined split_times rounds_of common exact_divisor exact draws_on feeding left has_remainder least_of greatest_of least greatest accurate accurate_at accuracies sizes next_sizes sizes_after counts_in counts_of finished_counts out_of_range fewer partial_entry count_out_of_range outside coordinate_out_of_range corner_out_of_range repeated_corner duplicate_cell ring mismatched mismatched_face isolated_vertex too_large table_checks mesh_checks result_tables front_of cleared_tables finished_answer short_for_refining refining_refusal refining_answer refining_output range_kept irregular irregular_count irregular_answer in_millimetres millimetres_refusal millimetres_answer number first_bits field_at table_at bits_in spelled bytes_for bytes_of packed encode digits_in binary_digits width_of to_field of_field table_fields header_fields index_width mesh_fields stored_form header_of layout stored_mesh header_cut wrong_length unknown_form wrong_width spare_bits reading_refusal reading_answer reading_output header_answer writing_refusal writing_answer writing_output stored_refining_refusal viewer_refusal viewer_answer viewer_output viewer_irregular_count decimal_in decimal signed_decimal fields listing_line refused_line mesh_line vertex_line cell_lines mesh_lines listing_refusal listing line wire bar square square8 cube sides grid dots hub span low_hub wide_cube mixed bar_bytes slope tent every_kind lent_tables work_tables long_tables full_tables many_points odd round_rows
rounds_hold = (refl, (refl, (refl, (refl, (refl, (refl, (refl, (refl, (refl, (refl, (refl, (refl, (refl, (refl, (refl, (refl, (refl, (refl, (refl, (refl, (refl, (refl, (refl, (refl, (refl, (refl, (refl, (refl, (refl, (refl, (refl, (refl, (refl, (refl, (refl, (refl, (refl, (refl, (refl, (refl, (refl, (refl, (refl, (refl, (refl, (refl, (refl, (refl, (refl, (refl, (refl, (refl, (refl, (refl, (refl, (refl, tt))))))))))))))))))))))))))))))))))))))))))))))))))))))))

accuracy_hold : Each Holds accuracy_rows
unfolding any keep repeats concat entries cut overwritten concat_map up_from has insert key_of same index_of meet meet_all distinct topology mesh_of whole singles by_dimension places cell_parts first_holding smallest smallest_table corners_at key_at met distinct_parts parts fine_vertex child children split_by split floor_div floor_mod holding or_else counted rank valence eighths cell_draws mean_at means axis averaged round refined split_times rounds_of common exact_divisor exact draws_on feeding left has_remainder least_of greatest_of least greatest accurate accurate_at accuracies sizes next_sizes sizes_after counts_in counts_of finished_counts out_of_range fewer partial_entry count_out_of_range outside coordinate_out_of_range corner_out_of_range repeated_corner duplicate_cell ring mismatched mismatched_face isolated_vertex too_large table_checks mesh_checks result_tables front_of cleared_tables finished_answer short_for_refining refining_refusal refining_answer refining_output range_kept irregular irregular_count irregular_answer in_millimetres millimetres_refusal millimetres_answer number first_bits field_at table_at bits_in spelled bytes_for bytes_of packed encode digits_in binary_digits width_of to_field of_field table_fields header_fields index_width mesh_fields stored_form header_of layout stored_mesh header_cut wrong_length unknown_form wrong_width spare_bits reading_refusal reading_answer reading_output header_answer writing_refusal writing_answer writing_output stored_refining_refusal viewer_refusal viewer_answer viewer_output viewer_irregular_count decimal_in decimal signed_decimal fields listing_line refused_line mesh_line vertex_line cell_lines mesh_lines listing_refusal listing line wire bar square square8 cube sides grid dots hub span low_hub wide_cube mixed bar_bytes slope tent every_kind lent_tables work_tables long_tables full_tables many_points odd accuracy_rows
accuracy_hold = (refl, (refl, (refl, (refl, (refl, (refl, (refl, (refl, (refl, (refl, (refl, (refl, (refl, (refl, (refl, (refl, (refl, (refl, (refl, (refl, (refl, (refl, (refl, (refl, (refl, (refl, (refl, (refl, (refl, (refl, (unequal 0 _ _ refl refl, (unequal 3 _ _ refl refl, (unequal 6 _ _ refl refl, (unequal 0 _ _ refl refl, tt))))))))))))))))))))))))))))))))))

refusals_hold : Each Holds refusal_rows
unfolding any keep repeats concat entries cut overwritten concat_map up_from has insert key_of same index_of meet meet_all distinct topology mesh_of whole singles by_dimension places cell_parts first_holding smallest smallest_table corners_at key_at met distinct_parts parts fine_vertex child children split_by split floor_div floor_mod holding or_else counted rank valence eighths cell_draws mean_at means axis averaged round refined split_times rounds_of common exact_divisor exact draws_on feeding left has_remainder least_of greatest_of least greatest accurate accurate_at accuracies sizes next_sizes sizes_after counts_in counts_of finished_counts out_of_range fewer partial_entry count_out_of_range outside coordinate_out_of_range corner_out_of_range repeated_corner duplicate_cell ring mismatched mismatched_face isolated_vertex too_large table_checks mesh_checks result_tables front_of cleared_tables finished_answer short_for_refining refining_refusal refining_answer refining_output range_kept irregular irregular_count irregular_answer in_millimetres millimetres_refusal millimetres_answer number first_bits field_at table_at bits_in spelled bytes_for bytes_of packed encode digits_in binary_digits width_of to_field of_field table_fields header_fields index_width mesh_fields stored_form header_of layout stored_mesh header_cut wrong_length unknown_form wrong_width spare_bits reading_refusal reading_answer reading_output header_answer writing_refusal writing_answer writing_output stored_refining_refusal viewer_refusal viewer_answer viewer_output viewer_irregular_count decimal_in decimal signed_decimal fields listing_line refused_line mesh_line vertex_line cell_lines mesh_lines listing_refusal listing line wire bar square square8 cube sides grid dots hub span low_hub wide_cube mixed bar_bytes slope tent every_kind lent_tables work_tables long_tables full_tables many_points odd refusal_rows
refusals_hold = (refl, (refl, (refl, (refl, (refl, (refl, (refl, (refl, (refl, (refl, (refl, (refl, (refl, (refl, (refl, (refl, (refl, (refl, (refl, (refl, (refl, (refl, (refl, (refl, (refl, (refl, (refl, (refl, (refl, (refl, (refl, (refl, (refl, (refl, (refl, (refl, (refl, (refl, (refl, (refl, (refl, (refl, (refl, (refl, (refl, (refl, (refl, (refl, (refl, (refl, (refl, (refl, (refl, (refl, (refl, (refl, (refl, (refl, tt))))))))))))))))))))))))))))))))))))))))))))))))))))))))))

entries_hold : Each Holds entry_rows
unfolding any keep repeats concat entries cut overwritten concat_map up_from has insert key_of same index_of meet meet_all distinct topology mesh_of whole singles by_dimension places cell_parts first_holding smallest smallest_table corners_at key_at met distinct_parts parts fine_vertex child children split_by split floor_div floor_mod holding or_else counted rank valence eighths cell_draws mean_at means axis averaged round refined split_times rounds_of common exact_divisor exact draws_on feeding left has_remainder least_of greatest_of least greatest accurate accurate_at accuracies sizes next_sizes sizes_after counts_in counts_of finished_counts out_of_range fewer partial_entry count_out_of_range outside coordinate_out_of_range corner_out_of_range repeated_corner duplicate_cell ring mismatched mismatched_face isolated_vertex too_large table_checks mesh_checks result_tables front_of cleared_tables finished_answer short_for_refining refining_refusal refining_answer refining_output range_kept irregular irregular_count irregular_answer in_millimetres millimetres_refusal millimetres_answer number first_bits field_at table_at bits_in spelled bytes_for bytes_of packed encode digits_in binary_digits width_of to_field of_field table_fields header_fields index_width mesh_fields stored_form header_of layout stored_mesh header_cut wrong_length unknown_form wrong_width spare_bits reading_refusal reading_answer reading_output header_answer writing_refusal writing_answer writing_output stored_refining_refusal viewer_refusal viewer_answer viewer_output viewer_irregular_count decimal_in decimal signed_decimal fields listing_line refused_line mesh_line vertex_line cell_lines mesh_lines listing_refusal listing line wire bar square square8 cube sides grid dots hub span low_hub wide_cube mixed bar_bytes slope tent every_kind lent_tables work_tables long_tables full_tables many_points odd entry_rows
entries_hold = (refl, (refl, (refl, (refl, (refl, (refl, (refl, (refl, (refl, (refl, (refl, (refl, (refl, (refl, (refl, (refl, (refl, (refl, (refl, (refl, (refl, (refl, (refl, (refl, (refl, (refl, (refl, (refl, (refl, (refl, (refl, (refl, (refl, (refl, (refl, (refl, (refl, (refl, (refl, (refl, (refl, (refl, (refl, (refl, (refl, (refl, (refl, (refl, (refl, (refl, (refl, (refl, (refl, (refl, (refl, (refl, (refl, (refl, (refl, (refl, (refl, (refl, tt))))))))))))))))))))))))))))))))))))))))))))))))))))))))))))))

stored_hold : Each Holds stored_rows
unfolding any keep repeats concat entries cut overwritten concat_map up_from has insert key_of same index_of meet meet_all distinct topology mesh_of whole singles by_dimension places cell_parts first_holding smallest smallest_table corners_at key_at met distinct_parts parts fine_vertex child children split_by split floor_div floor_mod holding or_else counted rank valence eighths cell_draws mean_at means axis averaged round refined split_times rounds_of common exact_divisor exact draws_on feeding left has_remainder least_of greatest_of least greatest accurate accurate_at accuracies sizes next_sizes sizes_after counts_in counts_of finished_counts out_of_range fewer partial_entry count_out_of_range outside coordinate_out_of_range corner_out_of_range repeated_corner duplicate_cell ring mismatched mismatched_face isolated_vertex too_large table_checks mesh_checks result_tables front_of cleared_tables finished_answer short_for_refining refining_refusal refining_answer refining_output range_kept irregular irregular_count irregular_answer in_millimetres millimetres_refusal millimetres_answer number first_bits field_at table_at bits_in spelled bytes_for bytes_of packed encode digits_in binary_digits width_of to_field of_field table_fields header_fields index_width mesh_fields stored_form header_of layout stored_mesh header_cut wrong_length unknown_form wrong_width spare_bits reading_refusal reading_answer reading_output header_answer writing_refusal writing_answer writing_output stored_refining_refusal viewer_refusal viewer_answer viewer_output viewer_irregular_count decimal_in decimal signed_decimal fields listing_line refused_line mesh_line vertex_line cell_lines mesh_lines listing_refusal listing line wire bar square square8 cube sides grid dots hub span low_hub wide_cube mixed bar_bytes slope tent every_kind lent_tables work_tables long_tables full_tables many_points odd stored_rows
stored_hold = (refl, (refl, (refl, (refl, (refl, (refl, (refl, (refl, (refl, (refl, (refl, (refl, (refl, (refl, (refl, (refl, (refl, (refl, (refl, (refl, (refl, (refl, (refl, (refl, (refl, (refl, (refl, (refl, (refl, (refl, (refl, (refl, (refl, (refl, (refl, (refl, (refl, (refl, (refl, (refl, (refl, (refl, (refl, (refl, (refl, (refl, (refl, (refl, (refl, (refl, (refl, (refl, (refl, (refl, (refl, (refl, (refl, (refl, (refl, (refl, (refl, (refl, (refl, (refl, (refl, (refl, (refl, (refl, (refl, (refl, (refl, (refl, (refl, (refl, (refl, (refl, (refl, (refl, (refl, (refl, (refl, (refl, (refl, (refl, (refl, (refl, (refl, (refl, (refl, (refl, (refl, (refl, (refl, (refl, (refl, (refl, (refl, (refl, (refl, (refl, tt))))))))))))))))))))))))))))))))))))))))))))))))))))))))))))))))))))))))))))))))))))))))))))))))))))

pub samples : Samples
samples = record { parts = parts_hold; rounds = rounds_hold; accuracy = accuracy_hold; refusals = refusals_hold; entries = entries_hold; stored = stored_hold }
