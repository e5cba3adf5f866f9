pub mod CheckLine
pub mod ShapeLine
pub mod QuarticLine
pub mod FrameAnswer
