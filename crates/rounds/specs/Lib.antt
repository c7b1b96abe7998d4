-- Words of inner contracts. Front: the mesh of some sizes at the front of tables, and room for it.
pub mod Front
-- Working: the numbers that are lent for working.
pub mod Working
-- Ready: what a round needs, and what some rounds need.
pub mod Ready
