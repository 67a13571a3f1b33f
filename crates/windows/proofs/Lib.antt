-- The laws of `windows`.
pub mod Cuts
pub mod WindowQuestions
pub mod Rectangles
pub mod Answers
