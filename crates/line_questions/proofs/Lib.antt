-- Laws of the questions: the first with a no, from what each test on the way there says.
pub mod Asked
