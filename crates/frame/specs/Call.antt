-- The calls of a list.
-- Assumes nothing.
use Rattle.std.specs.Prelude.{ℕ, List}
use Rattle.widths.specs.declared.Widths.{Widths}

-- a call with its arguments. Each is handed a table of widths, and lends the first n bytes of the image and the first m
-- mark words, or all where there are fewer
pub data Call : Type 0 where
  write : Widths → (n m row column bands rows columns : ℕ) → List ℕ → Call
  skip : Widths → (n m row column : ℕ) → Call
  progress : Widths → (m : ℕ) → Call
  finish : Widths → (n m : ℕ) → Call
  -- the list is the scratch that is lent
  relay : Widths → (n m : ℕ) → List ℕ → Call

-- the table that a call is handed
unfoldable pub widths_in : Call → Widths
widths_in (write ws n m row column bands rows columns dat) = ws
widths_in (skip ws n m row column) = ws
widths_in (progress ws m) = ws
widths_in (finish ws n m) = ws
widths_in (relay ws n m scratch) = ws
