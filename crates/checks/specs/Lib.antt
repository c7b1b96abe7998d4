-- Words of inner contracts: what the contracts of the checks cite besides the rules.
-- Walk: the parts that the walk of a mesh meets, table by table.
pub mod Walk
-- Held: a vertex is in a cell, by the tables.
pub mod Held
-- Marked: what marking the corners of a table leaves in a list of numbers.
pub mod Marked
-- Tagged: a table of keys, with a tag for each.
pub mod Tagged
-- TaggedKeys: what meeting a key makes of such a table.
pub mod TaggedKeys
-- Classes: edges, faces or cells in classes.
pub mod Classes
-- Checked: what the checks of a mesh find.
pub mod Checked
