-- Words of inner contracts: what the contracts of the numbering cite.
-- Chains: a hash table with chains, as functions on numbers.
pub mod Chains
-- Table: the same in a list of numbers; what it stands for; what meeting a key does.
pub mod Table
-- Meeting: the answer to meeting a key.
pub mod Meeting
-- Parts: the parts of cells that are numbered; the answer to numbering them.
pub mod Parts
-- Count: how many distinct keys there are.
pub mod Count
