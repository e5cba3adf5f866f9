-- The theorem of the marked moves.
pub mod Table
