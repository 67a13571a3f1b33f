-- The bytes of the image are the runs of its blocks, each byte in the runs of one block; and what an edge rule does not
-- change of them.
-- Assumes nothing.
use Prim.Native.Nat.{ℕ, ◌+◌, ◌*◌, ◌/◌, ◌%◌, ◌<◌}
use mathlib.Core.Path.{◌≡◌, refl, sym, ap, ◌∙◌}
use mathlib.Core.Bool.{Bool, true, false}
use native.Mathlib.Omega.{arith}
use native.Mathlib.Nat.{mod-lt, div-add-mod', div-lt_iff_lt-mul}
use Rattle.common.specs.Tests.{pick}
use Rattle.common.proofs.Arith.{two_digits}
use Rattle.layout.specs.declared.InterleaveMode.{InterleaveMode}
use Rattle.layout.specs.Order.{bands_apart}
use Rattle.grid.specs.declared.EdgeRule.{EdgeRule}
use Rattle.grid.specs.declared.Grid.{Grid}
use Rattle.grid.specs.Sizes.{band_bytes, blocks, image_bytes, block_index, actual_rows, actual_columns}
use Rattle.grid.specs.Check.{Accepted, grid_number, q1, q3, q4}
use Rattle.grid.specs.Layout.{run_byte, place, Block, Sample, SampleBit}
use Rattle.grid.specs.EdgeRules.{with_rule}
use Rattle.grid.proofs.Accepted.{Facts, index_lt, across-pos, blocks-pos}
use Rattle.grid.proofs.SamplePlaces.{slot, slot_is, slot_inj, run_of, in_run, bit_place}

-- byte p of the image is in a run of block (row, column)
pub record InRuns (g : Grid) (row column p : ℕ) : Type 0 where
  pub k : ℕ
  pub n : ℕ
  pub k_lt : k < g.bands
  pub n_lt : n < band_bytes g
  pub is : p ≡ run_byte g.imode g (block_index g row column) k + n

-- the bits of a block's samples are in its runs
pub sample_runs : (g : Grid) (row column b r c i : ℕ) → SampleBit g row column b r c i
    → InRuns g row column ((place g row column b r c + i) / 8)
sample_runs g row column b r c i t =
    let s = bit_place g row column b r c i t in
    let x : ℕ = in_run g row column b r c * g.nbpp + i in
    record {
      k = run_of g row column b r c;
      n = x / 8;
      k_lt = s.k_lt;
      n_lt = omega (arith, s.off_lt);
      is = ap (λ (y : ℕ). y / 8) s.is ∙ eighth _ (band_bytes g) x
          ∙ ap (λ (y : ℕ). y + x / 8) (sym (slot_is g.imode g (block_index g row column) (run_of g row column b r c)));
    }
  where
    eighth : (a t x : ℕ) → (a * (t * 8) + x) / 8 ≡ a * t + x / 8
    eighth a t x = omega arith

-- a byte is in the runs of one block
pub one_block : (g : Grid) (row column row' column' p : ℕ) → Block g row column → Block g row' column'
    → InRuns g row column p → InRuns g row' column' p → (row ≡ row') × (column ≡ column')
one_block g row column row' column' p t t' a a' =
    let s = two_digits (band_bytes g) _ a.n _ a'.n a.n_lt a'.n_lt
    (ap (λ (x : ℕ). x + a.n) (sym (slot_is g.imode g (block_index g row column) a.k)) ∙ sym a.is ∙ a'.is
    ∙ ap (λ (x : ℕ). x + a'.n) (slot_is g.imode g (block_index g row' column') a'.k)) in
    two_digits g.nbpr row column row' column' t.in_column t'.in_column
    (slot_inj g.imode g _ a.k _ a'.k (index_lt g row column t) a.k_lt (index_lt g row' column' t') a'.k_lt s.0).0

-- ---- each byte of the image is in a run

-- run s of the image, counted through it, is that of a block and a band
record SlotOf (m : InterleaveMode) (g : Grid) (s : ℕ) : Type 0 where
  index : ℕ
  k : ℕ
  index_lt : index < blocks g
  k_lt : k < g.bands
  is : slot m g index k ≡ s

slot_of : (m : InterleaveMode) (g : Grid) (s : ℕ) → s < blocks g * g.bands → 0 < g.bands → 0 < blocks g → SlotOf m g s
unfolding slot pick
slot_of m g s h p q = go (bands_apart m) refl
  where
    go : (a : Bool) → bands_apart m ≡ a → SlotOf m g s
    go true e =
        record {
          index = s % blocks g;
          k = s / blocks g;
          index_lt = mod-lt s q;
          k_lt = (div-lt_iff_lt-mul q).1 (omega arith);
          is = rw e (div-add-mod' s (blocks g));
        }
    go false e =
        record {
          index = s / g.bands;
          k = s % g.bands;
          index_lt = (div-lt_iff_lt-mul p).1 h;
          k_lt = mod-lt s p;
          is = rw e (div-add-mod' s g.bands);
        }

-- a block that has byte p in a run
pub record RunOf (g : Grid) (p : ℕ) : Type 0 where
  pub row : ℕ
  pub column : ℕ
  pub block : Block g row column
  pub in_runs : InRuns g row column p

pub byte_run : (g : Grid) → Facts g → (p : ℕ) → p < image_bytes g → RunOf g p
byte_run g f p h =
    let t : ℕ = band_bytes g in
    let o = slot_of g.imode g (p / t) ((div-lt_iff_lt-mul f.band-pos).1 h) f.sides.bands-pos (blocks-pos g f) in
    let i : o.index / g.nbpr * g.nbpr + o.index % g.nbpr ≡ o.index = div-add-mod' o.index g.nbpr in
    record {
      row = o.index / g.nbpr;
      column = o.index % g.nbpr;
      block = record {
        in_row = (div-lt_iff_lt-mul (across-pos g f)).1 (omega (arith, o.index_lt));
        in_column = mod-lt o.index (across-pos g f);
      };
      in_runs = record {
        k = o.k;
        n = p % t;
        k_lt = o.k_lt;
        n_lt = mod-lt p f.band-pos;
        is = sym (div-add-mod' p t) ∙ ap (λ (x : ℕ). x * t + p % t) (sym o.is)
            ∙ ap (λ (x : ℕ). x + p % t) (sym (slot_is g.imode g o.index o.k))
            ∙ ap (λ (x : ℕ). run_byte g.imode g x o.k + p % t) (sym i);
      };
    }

-- ---- what a rule does not change

module _ (e : EdgeRule) (g : Grid) where
  pub bytes_rule : image_bytes (with_rule e g) ≡ image_bytes g
  unfolding band_bytes
  bytes_rule = refl

  pub accepted_rule : Accepted g → Accepted (with_rule e g)
  unfolding grid_number q1 q3 q4 band_bytes
  accepted_rule a = a

  pub block_rule : (row column : ℕ) → Block g row column → Block (with_rule e g) row column
  block_rule row column t = record { in_row = t.in_row; in_column = t.in_column }

  pub sample_rule : (row column b r c : ℕ) → Sample g row column b r c → Sample (with_rule e g) row column b r c
  unfolding actual_rows actual_columns
  sample_rule row column b r c t =
      record { block = block_rule row column t.block; in_b = t.in_b; in_r = t.in_r; in_c = t.in_c }

  pub bit_rule : (row column b r c i : ℕ) → SampleBit g row column b r c i
      → SampleBit (with_rule e g) row column b r c i
  bit_rule row column b r c i t = record { sample = sample_rule row column b r c t.sample; in_i = t.in_i }

  pub runs_rule : (row column p : ℕ) → InRuns g row column p → InRuns (with_rule e g) row column p
  unfolding band_bytes
  runs_rule row column p t = record { k = t.k; n = t.n; k_lt = t.k_lt; n_lt = t.n_lt; is = t.is }
