-- Laws of a written table: its size by its lists, and lists put one after another at the front of an output.
-- Assumes nothing.
use mathlib.Core.Path.{◌≡◌, sym, ap₂, ◌∙◌}
use mathlib.Core.Bool.{true}
use mathlib.Core.List.{List, ◌++◌}
use mathlib.Core.Logic.{◌⊎◌, inl, inr}
use Prim.Native.Nat.{ℕ, ◌+◌, ◌*◌, ◌≤◌}
use native.Mathlib.Omega.{arith}
use lib.ListN.{length, length-append}
use borrow.Author.Tests.{eq-eqb, ne_eqb}
use Rattle.common.specs.Questions.{outcome}
use Rattle.common.specs.Over.{over}
use Rattle.common.proofs.Over.{over-over}
use Rattle.common.proofs.Tests.{pick_yes, pick_no}
use Rattle.bits.specs.Bits.{be_bytes}
use Rattle.bits.proofs.BigEndian.{length-be_bytes}
use Rattle.bits.proofs.Values.{length-values}
use Rattle.widths.specs.declared.Widths.{Widths}
use Rattle.grid.specs.declared.Grid.{Grid}
use Rattle.mask.specs.declared.ImageDataMask.{ImageDataMask}
use Rattle.mask.specs.Table.{records, code_bytes, table_size, mask_size, length_bytes, offset_bytes, table_bytes}
use Rattle.mask.specs.Mask.{q17, entries, mask_write_number, written_with, to_bytes}
use Rattle.mask.proofs.Numbers.{MaskWrite, mask_write-facts, block-length, pad-length}

-- ---- sizes

-- a list with one entry a record has the records' bytes
list-bytes : (g : Grid) (s : ℕ) → (s ≡ 0) ⊎ (s ≡ 4) → entries g s * 4 ≡ records g * s
list-bytes g s (inl z) = let e = pick_yes 0 (records g) (eq-eqb s 0 z) in rw (e, z) (omega arith)
list-bytes g s (inr f) = let e = pick_no 0 (records g) (ne_eqb s 0 (λ z. omega arith)) in rw (e, f)

pub size-entries : (g : Grid) (mask : ImageDataMask) → q17 mask ≡ true
    → mask_size g mask
    ≡ 10 + code_bytes mask.pad_pixel_code_length + entries g mask.block_mask_record_length * 4
    + entries g mask.pad_pixel_mask_record_length * 4
unfolding table_size
size-entries g mask e =
    omega (
      arith,
      list-bytes g mask.block_mask_record_length (block-length mask e),
      list-bytes g mask.pad_pixel_mask_record_length (pad-length mask e),
    )

pub size_is : (ws : Widths) (g : Grid) (mask : ImageDataMask) (n m l : ℕ) → MaskWrite ws g mask n m l
    → mask_size g mask ≡ 10 + code_bytes mask.pad_pixel_code_length + n * 4 + m * 4
size_is ws g mask n m l w = rw (w.block-list, w.pad-list) (size-entries g mask w.record_lengths)

-- the code is short, and the output holds the table
pub table-room : (ws : Widths) (g : Grid) (mask : ImageDataMask) (n m l : ℕ) → MaskWrite ws g mask n m l
    → let code = code_bytes mask.pad_pixel_code_length in (code ≤ 4) × (10 + code + n * 4 + m * 4 ≤ l)
table-room ws g mask n m l w = omega (arith, w.code-length, w.room, size_is ws g mask n m l w)

-- ---- lists put one after another

-- out is d with the n elements vs at its front
record Front (d vs : List ℕ) (n : ℕ) (out : List ℕ) : Type 0 where
  put : out ≡ over d 0 vs
  size : length vs ≡ n

front-next : {d vs : List ℕ} {n : ℕ} {out after : List ℕ} (ws : List ℕ) (m : ℕ) → Front d vs n out → length ws ≡ m
    → n + m ≤ length d → after ≡ over out n ws → Front d (vs ++ ws) (n + m) after
front-next {d} {vs} {n} ws m f e h a =
    let u : 0 + length vs ≡ n = omega (arith, f.size) in
    record {
      put = a ∙ ap₂ (λ (o : List ℕ) (i : ℕ). over o i ws) f.put (sym u) ∙ over-over d 0 vs ws (omega arith);
      size = length-append vs ws ∙ ap₂ ◌+◌ f.size e;
    }

-- the bytes before the code, by four calls
pub lengths-put : (offset : ℕ) (mask : ImageDataMask) (d : List ℕ) {o₁ o₂ o₃ o₄ : List ℕ} → 10 ≤ length d
    → o₁ ≡ over d 0 (be_bytes 4 offset)
    → o₂ ≡ over o₁ 4 (be_bytes 2 mask.block_mask_record_length)
    → o₃ ≡ over o₂ 6 (be_bytes 2 mask.pad_pixel_mask_record_length)
    → o₄ ≡ over o₃ 8 (be_bytes 2 mask.pad_pixel_code_length)
    → o₄ ≡ over d 0 (length_bytes offset mask)
lengths-put offset mask d {o₁ = o₁} h e₁ e₂ e₃ e₄ =
    let f₁ : Front d (be_bytes 4 offset) 4 o₁ = record { put = e₁; size = length-be_bytes 4 offset } in
    let f₂ = front-next _ 2 f₁ (length-be_bytes 2 mask.block_mask_record_length) (omega arith) e₂ in
    let f₃ = front-next _ 2 f₂ (length-be_bytes 2 mask.pad_pixel_mask_record_length) (omega arith) e₃ in
    (front-next _ 2 f₃ (length-be_bytes 2 mask.pad_pixel_code_length) (omega arith) e₄).put

-- the table, by these, the code and the two lists: what an accepted mask write leaves
pub table-put : (ws : Widths) (g : Grid) (mask : ImageDataMask) (block_offsets pad_offsets d : List ℕ) {size code : ℕ}
    {o₁ o₂ o₃ o₄ : List ℕ} → mask_write_number ws g mask (length block_offsets) (length pad_offsets) (length d) ≡ 0
    → size ≡ mask_size g mask → code ≡ code_bytes mask.pad_pixel_code_length
    → o₁ ≡ over d 0 (length_bytes size mask)
    → o₂ ≡ over o₁ 10 (be_bytes code mask.pad_pixel_code)
    → o₃ ≡ over o₂ (10 + code) (offset_bytes block_offsets)
    → o₄ ≡ over o₃ (10 + code + length block_offsets * 4) (offset_bytes pad_offsets)
    → written_with (record { number = 0; bytes = size }) o₄ ≡ to_bytes ws g mask block_offsets pad_offsets d
unfolding to_bytes outcome table_bytes
table-put ws g mask block_offsets pad_offsets d {code = code} {o₁ = o₁} z s c e₁ e₂ e₃ e₄ =
    let w = mask_write-facts ws g mask (length block_offsets) (length pad_offsets) (length d) z in
    let room : 10 + code + length block_offsets * 4 + length pad_offsets * 4 ≤ length d =
    omega (arith, table-room ws g mask _ _ _ w) in
    let ten : length (length_bytes (mask_size g mask) mask) ≡ 10 = simp (length-append, length-be_bytes) in
    let f₁ : Front d (length_bytes (mask_size g mask) mask) 10 o₁ = record { put = rw s at e₁; size = ten } in
    let f₂ = front-next _ code f₁ (length-be_bytes code mask.pad_pixel_code) (omega arith) e₂ in
    let f₃ = front-next _ _ f₂ (length-values _ 4 (length block_offsets)) (omega arith) e₃ in
    let f₄ = front-next _ _ f₃ (length-values _ 4 (length pad_offsets)) room e₄ in
    rw (z, s, f₄.put, c)
