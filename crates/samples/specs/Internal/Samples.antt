-- Samples moved between an image, where they lie at evenly spaced bits, and lent data, where each has its big-endian
-- bytes.
-- Assumes nothing.
use Rattle.std.specs.Prelude.{List, ℕ, zero, suc, ◌+◌, ◌*◌, ◌^◌, ◌<◌}
use Rattle.common.specs.Over.{over}
use Rattle.bits.specs.Bits.{bits_at, put_bits}
use Rattle.bits.specs.Values.{values, side_by_side}

-- sample k of those of `width` bits that start at bit p of xs and then every `step` bits
unfoldable pub spaced : List ℕ → ℕ → ℕ → ℕ → ℕ → ℕ
spaced xs p step width k = bits_at xs (p + k * step) width

-- xs with the low `width` bits of v 0 to v (n - 1) put at bit p and then every `step` bits
unfoldable pub put_spaced : (ℕ → ℕ) → ℕ → ℕ → ℕ → ℕ → List ℕ → List ℕ
put_spaced v width p step zero xs = xs
put_spaced v width p step (suc n) xs = put_bits (put_spaced v width p step n xs) (p + n * step) width (v n)

-- `count` samples read: those of w bits, one every `step` bits from bit `at` of xs on, go in s bytes each to index `to`
-- of ys on
abbrev pub samples_read : List ℕ → (at step w s count to : ℕ) → List ℕ → List ℕ
samples_read xs at step w s count to ys = over ys to (values (spaced xs at step w) s count)

-- `count` samples written: those of s bytes, side by side from index `from` of dat on; their low w bits go to bit `at`
-- of ys on, one every `step` bits
abbrev pub samples_written : List ℕ → (from s w at step count : ℕ) → List ℕ → List ℕ
samples_written dat from s w at step count ys = put_spaced (side_by_side dat from s) w at step count ys

-- `count` samples of s bytes, side by side from index `from` of dat on, have no bit above their low w
abbrev pub SamplesFit : List ℕ → (from s w count : ℕ) → Type 0
SamplesFit dat from s w count = (k : ℕ) → k < count → side_by_side dat from s k < 2 ^ w
