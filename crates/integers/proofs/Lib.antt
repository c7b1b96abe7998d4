-- Laws of whole numbers that the kit's `lib.IntN` and `lib.Signed` do not have.
-- Linear: linear arithmetic over ℤ by `omega`.
pub mod Linear
-- Floor: division rounded toward minus infinity, with its remainder.
pub mod Floor
-- Range: the test of a coordinate's range, and the signed types that it fits.
pub mod Range
