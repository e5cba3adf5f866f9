-- What every loop of counted steps shares, and the sums and the phases made in a row.
pub mod Runs
mod Sums
mod Moves
