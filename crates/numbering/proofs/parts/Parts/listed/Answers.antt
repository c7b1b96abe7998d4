-- The tables of the code are those of the rules, and a cell by itself has its corners in order.
use Rattle.std.proofs.Common.{refl}
use Rattle.rules.specs.Lists.{concat, up_from}
use Rattle.rules.specs.Mesh.{singles, whole, by_dimension, places}
use Rattle.rules.proofs.Constants.{hex_edges_listed, hex_faces_listed, quad_edges_listed}
use Rattle.numbering.specs.Parts.{places_listed}
use Rattle.numbering.proofs.Rows.{rows_listed}
use Rattle.numbering.proofs.Places.{list_front}
use Rattle.numbering.proofs.parts.Parts.listed.Goals as goal

pub returns-in-HexEdges-clause-whole : goal.returns-in-HexEdges-clause-whole
unfolding places_listed places by_dimension
returns-in-HexEdges-clause-whole c = rw (c.in-HexEdges.is, c.at_front.ensures, c.as_flattened.ensures.value, rows_listed _ _ hex_edges_listed) refl

pub returns-in-HexEdges-clause-front : goal.returns-in-HexEdges-clause-front
returns-in-HexEdges-clause-front c = list_front c.args.self _ (returns-in-HexEdges-clause-whole c)

pub returns-in-HexFaces-clause-whole : goal.returns-in-HexFaces-clause-whole
unfolding places_listed places by_dimension
returns-in-HexFaces-clause-whole c = rw (c.in-HexFaces.is, c.at_front-in-HexFaces.ensures, c.as_flattened-in-HexFaces.ensures.value, rows_listed _ _ hex_faces_listed) refl

pub returns-in-HexFaces-clause-front : goal.returns-in-HexFaces-clause-front
returns-in-HexFaces-clause-front c = list_front c.args.self _ (returns-in-HexFaces-clause-whole c)

pub returns-in-QuadEdges-clause-whole : goal.returns-in-QuadEdges-clause-whole
unfolding places_listed places by_dimension
returns-in-QuadEdges-clause-whole c = rw (c.in-QuadEdges.is, c.at_front-in-QuadEdges.ensures, c.as_flattened-in-QuadEdges.ensures.value, rows_listed _ _ quad_edges_listed) refl

pub returns-in-QuadEdges-clause-front : goal.returns-in-QuadEdges-clause-front
returns-in-QuadEdges-clause-front c = list_front c.args.self _ (returns-in-QuadEdges-clause-whole c)

pub returns-in-Hexes-clause-whole : goal.returns-in-Hexes-clause-whole
unfolding places_listed places by_dimension singles whole up_from concat
returns-in-Hexes-clause-whole c = rw c.in-Hexes.is c.at_front-in-Hexes.ensures

pub returns-in-Hexes-clause-front : goal.returns-in-Hexes-clause-front
returns-in-Hexes-clause-front c = list_front c.args.self _ (returns-in-Hexes-clause-whole c)

pub returns-in-Quads-clause-whole : goal.returns-in-Quads-clause-whole
unfolding places_listed places by_dimension singles whole up_from concat
returns-in-Quads-clause-whole c = rw c.in-Quads.is c.at_front-in-Quads.ensures

pub returns-in-Quads-clause-front : goal.returns-in-Quads-clause-front
returns-in-Quads-clause-front c = list_front c.args.self _ (returns-in-Quads-clause-whole c)

pub returns-in-Segments-clause-whole : goal.returns-in-Segments-clause-whole
unfolding places_listed places by_dimension singles whole up_from concat
returns-in-Segments-clause-whole c = rw c.in-Segments.is c.at_front-in-Segments.ensures

pub returns-in-Segments-clause-front : goal.returns-in-Segments-clause-front
returns-in-Segments-clause-front c = list_front c.args.self _ (returns-in-Segments-clause-whole c)

pub returns-in-Points-clause-whole : goal.returns-in-Points-clause-whole
unfolding places_listed places by_dimension singles whole up_from concat
returns-in-Points-clause-whole c = rw c.in-Points.is c.at_front-in-Points.ensures

pub returns-in-Points-clause-front : goal.returns-in-Points-clause-front
returns-in-Points-clause-front c = list_front c.args.self _ (returns-in-Points-clause-whole c)

pub returns-in-SegmentFaces-clause-whole : goal.returns-in-SegmentFaces-clause-whole
unfolding places_listed places by_dimension singles whole up_from concat
returns-in-SegmentFaces-clause-whole c = rw c.in-SegmentFaces.is c.at_front-in-SegmentFaces.ensures

pub returns-in-SegmentFaces-clause-front : goal.returns-in-SegmentFaces-clause-front
returns-in-SegmentFaces-clause-front c = list_front c.args.self _ (returns-in-SegmentFaces-clause-whole c)
