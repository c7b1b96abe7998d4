-- The tables of weights are those of the rules: one computed claim each. Assumes nothing.
use mathlib.Core.Path.{◌≡◌, refl}
use Rattle.rules.specs.Lists.{any, has, concat, concat_map, up_from}
use Rattle.rules.specs.Mesh.{hex, quad, segment, point, whole, singles, by_dimension, cell_parts, first_holding, smallest}
use Rattle.rules.specs.Averaging.{eighths}
use Rattle.averaging.specs.declared.weights.TheConstants.{HEX, QUAD, SEGMENT, POINT}
use Rattle.averaging.specs.Weights.{child_draws, weight_at, weight_rows}

pub hex_weights : HEX ≡ weight_rows hex
unfolding weight_rows weight_at child_draws eighths smallest first_holding cell_parts by_dimension singles whole concat concat_map up_from has any
hex_weights = refl

pub quad_weights : QUAD ≡ weight_rows quad
unfolding weight_rows weight_at child_draws eighths smallest first_holding cell_parts by_dimension singles whole concat concat_map up_from has any
quad_weights = refl

pub segment_weights : SEGMENT ≡ weight_rows segment
unfolding weight_rows weight_at child_draws eighths smallest first_holding cell_parts by_dimension singles whole concat concat_map up_from has any
segment_weights = refl

pub point_weights : POINT ≡ weight_rows point
unfolding weight_rows weight_at child_draws eighths smallest first_holding cell_parts by_dimension singles whole concat concat_map up_from has any
point_weights = refl
