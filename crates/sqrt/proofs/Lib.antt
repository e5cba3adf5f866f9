-- For readers and callers: the whole root is what it says (`Root`), no f64 is nearer than the root (`Nearest`),
-- what a root is by its argument (`Laws`), and worked roots (`Examples`).
-- The others prove that the code computes it: Newton's method and one division (`Newton`, `Halves`),
-- the rounding (`Rounded`), bits and shifts (`Units`, `Shifted`), and the ways out of `sqrt` (`Cases`).
pub mod Root
pub mod Nearest
pub mod Laws
pub mod Examples
mod Squares
mod Newton
mod Halves
mod Rounded
mod Units
mod Shifted
mod Cases
mod Between
