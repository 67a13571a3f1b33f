-- Fields of a part of a subheader: where each stands, and how it is read and written. One definition of a field serves
-- both.
-- Assumes nothing.
use Rattle.std.specs.Prelude.{ℕ, Bool, List, [], ◌∷◌, take, drop}
use Rattle.common.specs.Over.{over}
use Rattle.digits.specs.Digits.{are_digits, number_of, digit_bytes}
use Rattle.fields.specs.declared.Field.{Field}

abbrev pub field : ℕ → ℕ → Field
field at size = record { at = at; size = size }

-- ---- places: the first part has 38 bytes, the second 2, the third 19

abbrev pub NROWS : Field
NROWS = field 0 8

abbrev pub NCOLS : Field
NCOLS = field 8 8

abbrev pub PVTYPE : Field
PVTYPE = field 16 3

abbrev pub IREP : Field
IREP = field 19 8

abbrev pub ICAT : Field
ICAT = field 27 8

abbrev pub ABPP : Field
ABPP = field 35 2

abbrev pub PJUST : Field
PJUST = field 37 1

abbrev pub IC : Field
IC = field 0 2

abbrev pub IMODE : Field
IMODE = field 0 1

abbrev pub NBPR : Field
NBPR = field 1 4

abbrev pub NBPC : Field
NBPC = field 5 4

abbrev pub NPPBH : Field
NPPBH = field 9 4

abbrev pub NPPBV : Field
NPPBV = field 13 4

abbrev pub NBPP : Field
NBPP = field 17 2

-- ---- reading

-- the bytes of a field
unfoldable pub bytes_in : List ℕ → Field → List ℕ
bytes_in part f = take f.size (drop f.at part)

-- is a field all digits
abbrev pub is_number : List ℕ → Field → Bool
is_number part f = are_digits (bytes_in part f)

-- the number of a field of digits
abbrev pub number_in : List ℕ → Field → ℕ
number_in part f = number_of (bytes_in part f)

-- ---- writing

-- what is to stand in a field
pub record Entry : Type 0 where
  pub place : Field
  pub bytes : List ℕ

-- a number, in digits with leading zeros
abbrev pub number : Field → ℕ → Entry
number f n = record { place = f; bytes = digit_bytes f.size n }

-- bytes as they are
abbrev pub text : Field → List ℕ → Entry
text f bytes = record { place = f; bytes = bytes }

-- a part with an entry in its field, and with all entries of a list
abbrev pub put : List ℕ → Entry → List ℕ
put part e = over part e.place.at e.bytes

abbrev pub put_all : List ℕ → List Entry → List ℕ
put_all part [] = part
put_all part (e ∷ es) = put_all (put part e) es
