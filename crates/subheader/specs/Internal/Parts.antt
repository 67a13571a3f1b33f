-- What question 23 leaves for the fields.
-- Assumes nothing.
use Rattle.std.specs.Prelude.{ℕ, ◌≡◌, true, List, length}
use Rattle.fields.specs.Fields.{is_number, NROWS, NCOLS, ABPP, NBPR, NBPC, NPPBH, NPPBV, NBPP}

-- three parts of their lengths, with their numeric fields all digits
pub record Numbered (first second third : List ℕ) : Type 0 where
  pub first-length : length first ≡ 38
  pub second-length : length second ≡ 2
  pub third-length : length third ≡ 19
  pub nrows : is_number first NROWS ≡ true
  pub ncols : is_number first NCOLS ≡ true
  pub abpp : is_number first ABPP ≡ true
  pub nbpr : is_number third NBPR ≡ true
  pub nbpc : is_number third NBPC ≡ true
  pub nppbh : is_number third NPPBH ≡ true
  pub nppbv : is_number third NPPBV ≡ true
  pub nbpp : is_number third NBPP ≡ true
