-- Laws of the rounds of a mesh.
-- Axes: the coordinates of one axis, and of the means on it.
pub mod Axes
-- Rounds: the topology and the coordinates after some rounds.
pub mod Rounds
-- Counted: the cells counted for a vertex.
pub mod Counted
-- Means: the means of a sound mesh are good.
pub mod Means
-- Drawn: what a fine vertex draws on.
pub mod Drawn
-- Feeding: whether a remainder feeds a vertex.
pub mod Feeding
-- Property3: the third property.
pub mod Property3
-- Range: coordinates in range stay in range.
pub mod Range
-- Accepted: the rounds of a mesh that passes the checks.
pub mod Accepted
