-- Laws of what the parts of a side have of a window: where each stands, and that one follows the other.
-- Assumes nothing.
use Prim.Native.Nat.{ℕ, zero, suc, ◌+◌, ◌-◌, ◌*◌, ◌/◌, ◌^◌, min, max, ◌≤◌, ◌<◌}
use mathlib.Core.Path.{◌≡◌, sym, ap, ◌∙◌}
use native.Mathlib.Omega.{arith}
use native.Mathlib.Nat.{le-div_iff_mul-le, div-lt_iff_lt-mul, lt-div-mul-add, div-mul-le_self, add-mul}
use lib.Arith.{digits_div}
use Rattle.windows.specs.Internal.Windows.{cut_of}

-- part i has a place of the window
pub record Crossed (start length side i : ℕ) : Type 0 where
  pub starts : i * side < start + length
  pub ends : start < (i + 1) * side

pub crossed : (start length side i : ℕ) → 0 < side → 0 < length → start / side ≤ i → i < (start + length - 1) / side + 1 → Crossed start length side i
crossed start length side i hs hl lo hi =
    let l : i * side ≤ start + length - 1 = (le-div_iff_mul-le hs).0 (omega arith) in
    record { starts = omega arith; ends = (div-lt_iff_lt-mul hs).0 (omega arith) }

pub side_pos : (start side i : ℕ) → start < (i + 1) * side → 0 < side
side_pos start zero i h = absurd (omega arith)
side_pos start (suc side) i h = omega arith

-- ---- one part

-- the numbers that the code computes fit in 64 bits
pub cut_fits : (start length side i : ℕ) → start + length ≤ 99_999_999 → side ≤ 99_999_999 → Crossed start length side i
    → (start + length < 2 ^ 64) × (i * side < start + length) × (start < (i + 1) * side) × ((i + 1) * side < 2 ^ 64)
cut_fits start length side i h k c = (omega arith, c.starts, c.ends, omega (arith, add-mul i 1 side))

-- the cut is inside the part and inside the window, and both name the same place
pub record CutIn (start length side i : ℕ) : Type 0 where
  pub same : i * side + (cut_of start length side i).from ≡ start + (cut_of start length side i).to
  pub some : 0 < (cut_of start length side i).count
  pub in-part : (cut_of start length side i).from + (cut_of start length side i).count ≤ side
  pub in_window : (cut_of start length side i).to + (cut_of start length side i).count ≤ length
  pub part-is : (start + (cut_of start length side i).to) / side ≡ i

pub cuts : (start length side i : ℕ) → 0 < length → Crossed start length side i → CutIn start length side i
unfolding cut_of
cuts start length side i h c =
    let e : i * side + (max start (i * side) - i * side) ≡ start + (max start (i * side) - start) = omega arith in
    let k : (i + 1) * side ≡ i * side + 1 * side = add-mul i 1 side in
    let p : 0 < side = side_pos start side i c.ends in
    let l : max start (i * side) - i * side < side = omega arith in
    record {
      same = e;
      some = omega arith;
      in-part = omega arith;
      in_window = omega arith;
      part-is = ap (λ (x : ℕ). x / side) (sym e) ∙ digits_div i l;
    }

-- ---- one part after the other

-- the first part is no later than the part after the last
pub first-last : (start length side : ℕ) → 0 < side → 0 < length → start / side ≤ (start + length - 1) / side + 1
first-last start length side hs hl =
    let h : start / side ≤ (start + length - 1) / side = (le-div_iff_mul-le hs).1 (omega (arith, div-mul-le_self start side)) in
    omega arith

-- how many places of the window stand before part i
pub before : ℕ → ℕ → ℕ → ℕ → ℕ
before start length side i = min length (i * side - start)

pub cut_to : (start length side i : ℕ) → Crossed start length side i → before start length side i ≡ (cut_of start length side i).to
unfolding before cut_of
cut_to start length side i c = omega arith

pub cut-end : (start length side i : ℕ) → Crossed start length side i
    → before start length side (i + 1) ≡ (cut_of start length side i).to + (cut_of start length side i).count
unfolding before cut_of
cut-end start length side i c = omega arith

-- none before the first part that has one, and all before the part after the last
pub before-first : (start length side : ℕ) → before start length side (start / side) ≡ 0
unfolding before
before-first start length side = omega (arith, div-mul-le_self start side)

pub before_last_lem : (start length side : ℕ) → 0 < side → 0 < length → before start length side ((start + length - 1) / side + 1) ≡ length
unfolding before
before_last_lem start length side hs hl = omega (arith, lt-div-mul-add {a = start + length - 1} hs)

-- consecutive cuts join; the first begins where the window does, and the last ends there
pub cuts_join : (start length side i : ℕ) → Crossed start length side i → Crossed start length side (i + 1)
    → (cut_of start length side i).to + (cut_of start length side i).count ≡ (cut_of start length side (i + 1)).to
cuts_join start length side i c d = sym (cut-end start length side i c) ∙ cut_to start length side (i + 1) d

pub cuts_begin : (start length side : ℕ) → Crossed start length side (start / side) → (cut_of start length side (start / side)).to ≡ 0
cuts_begin start length side c = sym (cut_to start length side (start / side) c) ∙ before-first start length side

pub cuts-finish : (start length side : ℕ) → 0 < side → 0 < length → Crossed start length side ((start + length - 1) / side)
    → (cut_of start length side ((start + length - 1) / side)).to + (cut_of start length side ((start + length - 1) / side)).count ≡ length
cuts-finish start length side hs hl c = sym (cut-end start length side _ c) ∙ before_last_lem start length side hs hl
