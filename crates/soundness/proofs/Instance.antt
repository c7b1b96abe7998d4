-- The laws are not empty: two hexes with a shared face, a quad on an edge of the second, a segment and a point pass checks 1 to 8, and
-- so does what 2 rounds leave, if its coordinates are in range; its counts after 8 rounds are known without a round.
use mathlib.Core.Path.{◌≡◌, refl, ◌∙◌}
use mathlib.Core.Bool.{false}
use mathlib.Core.List.{[], ◌∷◌}
use lib.ListN.{replicate}
use lib.IntN.{pos}
use Rattle.rules.specs.Lists.{any, repeats, entries, cut, concat_map, up_from, has, insert, key_of, same, meet, meet_all, distinct}
use Rattle.rules.specs.Mesh.{Mesh, mesh, topology, whole, singles, by_dimension, places}
use Rattle.rules.specs.Split.{corners_at, key_at, met, distinct_parts}
use Rattle.rules.specs.Averaging.{refined}
use Rattle.rules.specs.Counts.{sizes, next_sizes, sizes_after, counts_in, counts_of, finished_counts, out_of_range}
use Rattle.rules.specs.Refusals.{partial_entry, count_out_of_range, outside, coordinate_out_of_range, corner_out_of_range, repeated_corner, duplicate_cell, ring, mismatched, mismatched_face, isolated_vertex, too_large, table_checks, mesh_checks}
use Rattle.soundness.specs.Accepted.{Accepted}
use Rattle.soundness.specs.Across.{across}
use Rattle.soundness.proofs.Checks.{checks_accept}
use Rattle.soundness.proofs.Rounds.{refined_counts, refined_accepted}

unfoldable pub sample : Mesh
sample =
    mesh (replicate 45 (pos 0))
    (0 ∷ 1 ∷ 2 ∷ 3 ∷ 4 ∷ 5 ∷ 6 ∷ 7 ∷ 4 ∷ 5 ∷ 6 ∷ 7 ∷ 8 ∷ 9 ∷ 10 ∷ 11 ∷ [])
    (8 ∷ 9 ∷ 12 ∷ 13 ∷ [])
    (13 ∷ 14 ∷ [])
    (14 ∷ [])

pub sample_accepted : Accepted sample
unfolding sample any repeats entries cut concat_map up_from has insert key_of same topology whole singles by_dimension places corners_at key_at met counts_of out_of_range partial_entry count_out_of_range outside coordinate_out_of_range corner_out_of_range repeated_corner duplicate_cell ring mismatched mismatched_face isolated_vertex table_checks mesh_checks
sample_accepted = checks_accept sample refl

foretold : finished_counts 8 (topology sample) ≡ record { vertices = 33_949_185; hexes = 33_554_432; quads = 65_536; segments = 256; points = 1 }
unfolding sample entries cut concat_map up_from insert key_of same meet meet_all distinct topology whole singles by_dimension places corners_at met distinct_parts sizes next_sizes sizes_after counts_in finished_counts
foretold = refl

pub sample_counts : counts_of (refined 8 sample) ≡ record { vertices = 33_949_185; hexes = 33_554_432; quads = 65_536; segments = 256; points = 1 }
sample_counts = refined_counts 8 sample sample_accepted.sound ∙ foretold

not_large : too_large 2 (topology sample) ≡ false
unfolding sample entries cut concat_map up_from insert key_of same meet meet_all distinct topology whole singles by_dimension places corners_at met distinct_parts sizes next_sizes sizes_after counts_in finished_counts out_of_range too_large
not_large = refl

pub sample_again : coordinate_out_of_range (refined 2 sample) ≡ false → Accepted (refined 2 sample)
sample_again h = refined_accepted 2 sample sample_accepted not_large h

-- two faces of one corner set, told apart: 2 is across 0 in the one, and 1 in the other
pub sample_across : (across (0 ∷ 1 ∷ 2 ∷ 3 ∷ []) ≡ 2) × (across (0 ∷ 2 ∷ 1 ∷ 3 ∷ []) ≡ 1)
unfolding across
sample_across = (refl, refl)
