-- Samples put into a list of bytes one after another, in whatever order: what holds on the way.
-- Assumes nothing.
use Rattle.std.specs.Prelude.{ℕ, ◌+◌, ◌≤◌, ◌<◌, ◌≡◌, ◌≢◌, List, length}

-- a choice of samples, each told by its band, row and column
abbrev pub Samples : Type 1
Samples = ℕ → ℕ → ℕ → Type 0

-- n samples of row r of band b, from column c on
abbrev pub InRow : (b r c n : ℕ) → Samples
InRow b r c n b' r' c' = (b' ≡ b) × (r' ≡ r) × (c ≤ c') × (c' < c + n)

-- where samples go in a list of bytes: sample (b, r, c) takes `wide` units, bytes or bits, from unit `at b r c` on,
-- and unit i of it is to be `value b r c i`.
-- `keeps` is what else holds of the list, before and after
pub record Target : Type 1 where
  pub bands : ℕ
  pub rows : ℕ
  pub columns : ℕ
  pub wide : ℕ
  pub unit : List ℕ → ℕ → ℕ
  pub at : ℕ → ℕ → ℕ → ℕ
  pub value : ℕ → ℕ → ℕ → ℕ → ℕ
  pub keeps : List ℕ → Type 0

-- sample (b, r, c) is one of them
pub record Among (t : Target) (b r c : ℕ) : Type 0 where
  pub in_b : b < t.bands
  pub in_r : r < t.rows
  pub in_c : c < t.columns

-- its units are what they are to be
abbrev pub Holds : Target → List ℕ → Samples
Holds t xs b r c = (i : ℕ) → i < t.wide → t.unit xs (t.at b r c + i) ≡ t.value b r c i

-- `ys` is `xs` with some samples put: what another sample held it holds still, and units of no sample are as they were
pub record Puts (t : Target) (some : Samples) (xs ys : List ℕ) : Type 0 where
  pub size : length ys ≡ length xs
  pub kept : t.keeps xs → t.keeps ys
  pub put : (b r c : ℕ) → Among t b r c → some b r c → Holds t ys b r c
  pub stays : (b r c : ℕ) → Among t b r c → Holds t xs b r c → Holds t ys b r c
  pub free : (p : ℕ) → ((b r c i : ℕ) → Among t b r c → i < t.wide → p ≢ t.at b r c + i) → t.unit ys p ≡ t.unit xs p
