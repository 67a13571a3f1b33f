-- Question 26 of the plain frame is that of the calls, and what an accepted write tells of its data.
-- Assumes nothing.
use Prim.Native.Nat.{ℕ, ◌+◌, ◌*◌, ◌/◌, ◌%◌, ◌^◌, ◌<◌}
use mathlib.Core.Path.{◌≡◌, sym, ap, ◌∙◌, subst}
use mathlib.Core.Bool.{true}
use mathlib.Core.List.{List}
use native.Mathlib.Omega.{arith}
use native.Mathlib.Nat.{mod-lt, mod-eq_of_lt, div-add-mod', div-lt_iff_lt-mul, mul-div_cancel, zero-add}
use borrow.Author.Tests.{ltb-true, lt-ltb}
use lib.Arith.{digits_lt}
use lib.ListN.{length}
use lib.Seq.{take_all}
use Rattle.bits.specs.Bits.{be_at, Bytes}
use Rattle.bits.specs.Values.{side_by_side}
use Rattle.bits.proofs.Values.{values_ext, side-by-side}
use Rattle.common.specs.Over.{over}
use Rattle.common.specs.Tests.{pick}
use Rattle.common.proofs.Questions.{outcome-yes}
use Rattle.layout.specs.Bands.{band_count, band_at}
use Rattle.common.proofs.Tests.{both_yes, below_at, all-below}
use Rattle.widths.specs.declared.Widths.{Widths}
use Rattle.grid.specs.declared.Grid.{Grid}
use Rattle.grid.specs.Sizes.{sample_bytes, actual_rows, actual_columns}
use Rattle.grid.specs.Layout.{Block, Sample}
use Rattle.grid.proofs.Accepted.{Facts, rows-pos, columns-pos}
use Rattle.calls.specs.Orders.{q26, window_number}
use Rattle.calls.specs.Reads.{bytes_of, window_of}
use Rattle.frame.specs.OwnWords.{block_window, all_of}
use Rattle.frame.specs.PlainFrame.{whole_in_data, number_in_data, fit_in_data}
use Rattle.frame.proofs.PlainBytes.{whole_is}

-- each sample of data that fit is below 2 to the NBPP
pub fit_at : (g : Grid) (row column : ℕ) (dat : List ℕ) → fit_in_data g row column dat ≡ true → (b r c : ℕ) → Sample g row column b r c
    → whole_in_data g row column dat b r c < 2 ^ g.nbpp
unfolding fit_in_data
fit_at g row column dat e b r c t =
    ltb-true _ _
    (below_at (actual_columns g column) _
    (below_at (actual_rows g row) _
    (below_at g.bands _ e b t.in_b) r t.in_r) c t.in_c)

-- so its low NBPP bits are the whole number
pub whole-kept : (g : Grid) (row column : ℕ) (dat : List ℕ) → fit_in_data g row column dat ≡ true → (b r c : ℕ) → Sample g row column b r c
    → number_in_data g row column dat b r c ≡ whole_in_data g row column dat b r c
unfolding number_in_data
whole-kept g row column dat e b r c t = mod-eq_of_lt (fit_at g row column dat e b r c t)

module _ (g : Grid) (f : Facts g) (row column : ℕ) (block : Block g row column) (dat : List ℕ)
    (e : length dat ≡ g.bands * actual_rows g row * actual_columns g column * sample_bytes g) where
  abbrev samples : ℕ
  samples = g.bands * actual_rows g row * actual_columns g column

  count : length dat / sample_bytes g ≡ samples
  count = ap (λ (n : ℕ). n / sample_bytes g) e ∙ mul-div_cancel samples (let h : 0 < sample_bytes g = omega (arith, f.sides.nbpp-pos) in h)

  -- sample k of the data, band by band, row by row
  sample-at : (k : ℕ) → k < samples → Sample g row column (k / actual_columns g column / actual_rows g row) (k / actual_columns g column % actual_rows g row) (k % actual_columns g column)
  sample-at k h =
      let r : 0 < actual_rows g row = rows-pos g f row block.in_row in
      let c : 0 < actual_columns g column = columns-pos g f column block.in_column in
      record {
        block = block;
        in_b = (div-lt_iff_lt-mul r).1 ((div-lt_iff_lt-mul c).1 h);
        in_r = mod-lt (k / actual_columns g column) r;
        in_c = mod-lt k c;
      }

  pub whole-at : (k : ℕ) → k < samples
      → whole_in_data g row column dat (k / actual_columns g column / actual_rows g row) (k / actual_columns g column % actual_rows g row) (k % actual_columns g column)
      ≡ be_at dat (k * sample_bytes g) (sample_bytes g)
  whole-at k h =
      whole_is g row column dat e _ _ _ (sample-at k h)
      ∙ ap (λ (n : ℕ). be_at dat (n * sample_bytes g) (sample_bytes g))
      (ap (λ (n : ℕ). n * actual_columns g column + k % actual_columns g column) (div-add-mod' (k / actual_columns g column) (actual_rows g row)) ∙ div-add-mod' k (actual_columns g column))

  pub fit_is : q26 g dat ≡ fit_in_data g row column dat
  unfolding q26 fit_in_data
  fit_is =
      both_yes (q26 g dat) (fit_in_data g row column dat)
      (λ t. all-below g.bands _ (λ b hb. all-below (actual_rows g row) _ (λ r hr. all-below (actual_columns g column) _ (λ c hc.
      lt-ltb _ _ (subst (λ (n : ℕ). n < 2 ^ g.nbpp) (sym (whole_is g row column dat e b r c (record { block = block; in_b = hb; in_r = hr; in_c = hc })))
      (ltb-true _ _ (below_at _ _ t _ (subst (λ (n : ℕ). (b * actual_rows g row + r) * actual_columns g column + c < n) (sym count) (digits_lt (digits_lt hb hr) hc)))))))))
      (λ t. all-below _ _ (λ k h.
      let l : k < samples = subst (λ (n : ℕ). k < n) count h in
      lt-ltb _ _ (subst (λ (n : ℕ). n < 2 ^ g.nbpp) (whole-at k l) (fit_at g row column dat t _ _ _ (sample-at k l)))))

  -- where a picture has the data's whole numbers in the block, an accepted window of the block gives the data's bytes
  pub block-bytes : Bytes dat → (ws : Widths) (numbers : ℕ → ℕ → ℕ → ℕ)
      → ((b r c : ℕ) → Sample g row column b r c → numbers b (row * g.nppbv + r) (column * g.nppbh + c) ≡ whole_in_data g row column dat b r c)
      → (n : ℕ) (out : List ℕ) → window_number ws g n (block_window g row column) (length out) ≡ 0
      → window_of ws g numbers n (block_window g row column) out ≡ all_of g row column (over out 0 dat)
  unfolding window_of bytes_of band_count band_at pick side_by_side
  block-bytes bytes ws numbers same n out z =
      outcome-yes _ _ z
      ∙ ap (λ (bs : List ℕ). all_of g row column (over out 0 bs))
      (values_ext _ (side_by_side dat 0 (sample_bytes g)) (sample_bytes g) samples (λ k h.
      same _ _ _ (sample-at k h) ∙ whole-at k h ∙ ap (λ (i : ℕ). be_at dat i (sample_bytes g)) (sym (zero-add (k * sample_bytes g))))
      ∙ side-by-side dat 0 (sample_bytes g) samples bytes (omega (arith, e))
      ∙ take_all (samples * sample_bytes g) dat (omega (arith, e)))
