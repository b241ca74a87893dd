pub mod AskedBy
pub mod AnswerImage
pub mod InPlace
pub mod Board
pub mod Called
pub mod Owed
