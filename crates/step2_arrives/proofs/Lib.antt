-- The theorem that a yes of a shape is a move that arrives, and what it is made of.
pub mod Made
pub mod Sound
pub mod Arrives
pub mod Trials
pub mod Each
pub mod Shapes
pub mod Lines
pub mod ZeroTests
pub mod Marked
