-- A block's samples taken from where one layout has them to where another has them.
-- Assumes nothing.
use Rattle.std.specs.Prelude.{ℕ, ◌+◌, ◌-◌, ◌*◌, ◌/◌, ◌%◌, ◌≤◌, ◌<◌, ◌≡◌, List, take, drop}
use Rattle.bits.specs.Bits.{bits_at}
use Rattle.common.specs.Over.{over}
use Rattle.common.specs.Turns.{iter}
use Rattle.layout.specs.declared.InterleaveMode.{InterleaveMode}
use Rattle.layout.specs.declared.InterleaveMode.TheVariants.{B, P, R, S}
use Rattle.layout.specs.declared.BlockLayout.{BlockLayout}
use Rattle.layout.specs.Internal.Layout.{run_size, bit_of, place, block_end, Sound}
use Rattle.moves.specs.declared.runs.Run.{Run}
use Rattle.moves.specs.Internal.Puts.{Samples, Puts}
use Rattle.moves.specs.Internal.Stores.{image_target}

-- the bytes of each run of an image, one run after another from the first byte of a scratch on
unfoldable pub save_runs : BlockLayout → (image scratch : List ℕ) → List ℕ
save_runs l image scratch =
    iter l.bands (λ k s. over s (k * l.run_bytes) (take l.run_bytes (drop (l.first + k * l.apart) image))) scratch

-- sample (b, r, c) as some bytes have it
abbrev pub bits_of : BlockLayout → List ℕ → ℕ → ℕ → ℕ → ℕ
bits_of l xs b r c = bits_at xs (place l b r c) l.nbpp

-- two layouts of the same samples
pub record SameSamples (from to : BlockLayout) : Type 0 where
  pub mode : to.mode ≡ from.mode
  pub bands : to.bands ≡ from.bands
  pub rows : to.rows ≡ from.rows
  pub columns : to.columns ≡ from.columns
  pub nbpp : to.nbpp ≡ from.nbpp

-- n bytes have them by the first, and m bytes by the second
pub record Relayable (from to : BlockLayout) (n m : ℕ) : Type 0 where
  pub sound_from : Sound from
  pub sound_to : Sound to
  pub same : SameSamples from to
  pub from_held : block_end from ≤ n
  pub to_held : block_end to ≤ m

-- the layout of saved runs
abbrev pub saved : BlockLayout → BlockLayout
saved l = record l { first = 0; apart = l.run_bytes }

-- n bytes of an image hold the runs of a block by the first, and its samples by the second, and m bytes of a scratch
-- hold the runs saved
pub record BlockRelayable (from to : BlockLayout) (n m : ℕ) : Type 0 where
  pub sound_from : Sound from
  pub sound_to : Sound to
  pub same : SameSamples from to
  pub runs_held : from.first + (from.bands - 1) * from.apart + from.run_bytes ≤ n
  pub to_held : block_end to ≤ n
  pub saved_held : from.bands * from.run_bytes ≤ m

-- ---- on the way

-- the samples of a row that follow each other in the order of every layout of a mode are a line: those of a band, or in
-- P those of all bands. How many lines a row has
abbrev pub lines_of : InterleaveMode → (bands : ℕ) → ℕ
lines_of B bands = bands
lines_of P bands = 1
lines_of R bands = bands
lines_of S bands = bands

-- how many samples a line has
abbrev pub line_size : InterleaveMode → (bands columns : ℕ) → ℕ
line_size B bands columns = columns
line_size P bands columns = columns * bands
line_size R bands columns = columns
line_size S bands columns = columns

-- band and column of sample x of line b of a row
abbrev pub band_in : InterleaveMode → (bands b x : ℕ) → ℕ
band_in B bands b x = b
band_in P bands b x = x % bands
band_in R bands b x = b
band_in S bands b x = b

abbrev pub column_in : InterleaveMode → (bands x : ℕ) → ℕ
column_in B bands x = x
column_in P bands x = x / bands
column_in R bands x = x
column_in S bands x = x

-- a line of a block
pub record Line (l : BlockLayout) (b r : ℕ) : Type 0 where
  pub in_b : b < lines_of l.mode l.bands
  pub in_r : r < l.rows

-- n samples of line b of row r, from its sample `low` on
pub record InLine (l : BlockLayout) (b r low n b' r' c' : ℕ) : Type 0 where
  pub x : ℕ
  pub low-le : low ≤ x
  pub x_lt : x < low + n
  pub eq_b : b' ≡ band_in l.mode l.bands b x
  pub eq_r : r' ≡ r
  pub eq_c : c' ≡ column_in l.mode l.bands x

-- all samples of line b of row r
abbrev pub InWholeLine : BlockLayout → (b r : ℕ) → Samples
InWholeLine l b r = InLine l b r 0 (line_size l.mode l.bands l.columns)

-- the line of its row that a sample is in
abbrev pub line_of : InterleaveMode → ℕ → ℕ
line_of B b = b
line_of P b = 0
line_of R b = b
line_of S b = b

-- the samples of line b of each row
abbrev pub InLines : BlockLayout → ℕ → Samples
InLines l b b' r' c' = line_of l.mode b' ≡ b

-- the samples from place n of a layout's order on that are in the run of the first
pub record RunAt (l : BlockLayout) (n : ℕ) (run : Run) : Type 0 where
  pub starts : run.at ≡ bit_of l n
  pub count-is : run.count + n % run_size l ≡ run_size l

-- some samples put at their places by the second layout, as bytes have them by the first
abbrev pub Relaid : (from : BlockLayout) (scratch : List ℕ) (to : BlockLayout) → Samples → List ℕ → List ℕ → Type 0
Relaid from scratch to some image after = Puts (image_target to (bits_of from scratch)) some image after
