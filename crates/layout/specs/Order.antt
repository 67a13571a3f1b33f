-- The order of a mode.
-- Assumes nothing.
use Rattle.std.specs.Prelude.{ℕ, ◌+◌, ◌*◌, Bool, true, false}
use Rattle.layout.specs.declared.InterleaveMode.{InterleaveMode}
use Rattle.layout.specs.declared.InterleaveMode.TheVariants.{B, P, R, S}

-- how many samples stand before sample (band b, row r, column c) among those of `bands` bands of `rows` rows of
-- `columns` columns
abbrev pub ordinal : InterleaveMode → ℕ → ℕ → ℕ → ℕ → ℕ → ℕ → ℕ
ordinal B bands rows columns b r c = (b * rows + r) * columns + c
ordinal P bands rows columns b r c = (r * columns + c) * bands + b
ordinal R bands rows columns b r c = (r * bands + b) * columns + c
ordinal S bands rows columns b r c = (b * rows + r) * columns + c

-- do the bands of a block lie apart, each among the same band of all blocks; in the other modes a block's bytes are one
-- part of the image
abbrev pub bands_apart : InterleaveMode → Bool
bands_apart B = false
bands_apart P = false
bands_apart R = false
bands_apart S = true
