-- What the calls on an image hand back.
-- Assumes nothing.
use Rattle.std.specs.Prelude.{List, ℕ}
use Rattle.calls.specs.declared.Answer.{Answer}
use Rattle.calls.specs.declared.Shape.{Shape}

-- a read's answer and the output it leaves
pub record Filled : Type 0 where
  pub shape : Shape
  pub out : List ℕ

-- the answer of a call on a frame, and the image and the mark words that it was lent as it leaves them
pub record FrameOut : Type 0 where
  pub answer : Answer
  pub image : List ℕ
  pub marks : List ℕ
