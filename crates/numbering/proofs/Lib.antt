-- Firsts: the list f 0, f 1, .., f (n - 1), and loops that store it.
pub mod Firsts
-- Chains: walking a chain, adding an entry.
pub mod Chains
-- Entries: what the reads and stores of the table's code have to show.
pub mod Entries
-- Sort: an insertion sort in place makes the key.
pub mod Sort
-- Rows: rows listed one behind the other.
pub mod Rows
-- Places: the places of the parts' corners.
pub mod Places
-- Passes: keys met one after the other.
pub mod Passes
-- MeshKeys: what the passes meet, in the words of the rules.
pub mod MeshKeys
