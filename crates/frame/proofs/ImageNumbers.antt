-- The image holds the plain frame's numbers: after a start, and after a write.
-- Assumes nothing.
use Prim.Native.Nat.{ℕ, suc, ◌+◌, ◌-◌, ◌*◌, ◌^◌, ◌≤◌, ◌<◌}
use mathlib.Core.Path.{◌≡◌, refl, sym, ap, ap₂, ◌∙◌, subst₂}
use mathlib.Core.Bool.{Bool, true, false}
use mathlib.Core.List.{List, ◌++◌}
use native.Mathlib.Omega.{arith}
use native.Mathlib.Decide.{ℕ_discrete}
use native.Mathlib.Nat.{mod-lt, add-sub_cancel_left}
use borrow.Author.Tests.{lt-ltb, le-leb, ltb-true, leb-true}
use lib.ListN.{length, take, drop, replicate, length-take, length-replicate, take-append-drop}
use lib.Pow.{pow_pos}
use lib.Seq.{length_front, drop-append-le}
use Rattle.bits.specs.Bits.{bit_of, bit_at}
use Rattle.common.specs.Over.{over}
use Rattle.grid.specs.declared.Grid.{Grid}
use Rattle.common.specs.Tests.{every, pick}
use Rattle.grid.specs.Sizes.{sample_bytes, image_bytes, actual_rows, actual_columns}
use Rattle.grid.specs.Layout.{place, Block, Sample, SampleBit}
use Rattle.common.proofs.Tests.{every-at, pick_yes, pick_no}
use Rattle.common.proofs.Arith.{part_of}
use Rattle.grid.proofs.Accepted.{rows-le, columns-le}
use Rattle.grid.proofs.SamplePlaces.{inside}
use Rattle.calls.specs.Writes.{store_block}
use Rattle.frame.specs.PlainFrame.{in_block, written, number_in_data}
use Rattle.frame.proofs.ListBits.{bit_zero, bit_at-take, bit_at-left, zeros_in, drop_past}
use Rattle.frame.proofs.Lengths.{length-zeros, length-store_block}
use Rattle.frame.proofs.StoredBits.{store_hit, store_other, store_free, store_surplus}
use Rattle.frame.proofs.Bounded.{Below, zeros-below, left_below, take_below, stored_below}
use Rattle.frame.proofs.PlainBytes.{data_is}

-- ---- the numbers after a write

in_yes : (g : Grid) (row column b r c : ℕ) → Sample g row column b r c → in_block g row column b (row * g.nppbv + r) (column * g.nppbh + c) ≡ true
unfolding in_block every
in_yes g row column b r c s =
    let y : ℕ = row * g.nppbv in
    let x : ℕ = column * g.nppbh in
    simp (
      lt-ltb b g.bands s.in_b,
      le-leb y (y + r) (omega arith),
      lt-ltb (y + r) (y + actual_rows g row) (omega (arith, s.in_r)),
      le-leb x (x + c) (omega arith),
      lt-ltb (x + c) (x + actual_columns g column) (omega (arith, s.in_c)),
    )

not_yes : (t : Bool) → (t ≡ true → ⊥) → t ≡ false
not_yes true f = absurd (f refl)
not_yes false f = refl

in_no : (g : Grid) (row column row' column' b r c : ℕ) → Sample g row' column' b r c → (row' ≡ row → column' ≡ column → ⊥)
    → in_block g row column b (row' * g.nppbv + r) (column' * g.nppbh + c) ≡ false
unfolding in_block
in_no g row column row' column' b r c s ne =
    not_yes _ (λ e.
    let q = every-at _ e in
    ne
    (part_of g.nppbv row' row r (actual_rows g row) (omega (arith, s.in_r, rows-le g row')) (rows-le g row) (leb-true _ _ (q 1)) (ltb-true _ _ (q 2)))
    (part_of g.nppbh column' column c (actual_columns g column) (omega (arith, s.in_c, columns-le g column')) (columns-le g column)
    (leb-true _ _ (q 3)) (ltb-true _ _ (q 4))))

module _ (g : Grid) (row column : ℕ) (dat : List ℕ) (numbers : ℕ → ℕ → ℕ → ℕ) where
  pub written_same : (b r c : ℕ) → Sample g row column b r c
      → written g row column dat numbers b (row * g.nppbv + r) (column * g.nppbh + c) ≡ number_in_data g row column dat b r c
  unfolding written
  written_same b r c s =
      pick_yes _ _ (in_yes g row column b r c s)
      ∙ ap₂ (number_in_data g row column dat b) (add-sub_cancel_left (row * g.nppbv) r) (add-sub_cancel_left (column * g.nppbh) c)

  pub written-other : (row' column' b r c : ℕ) → Sample g row' column' b r c → (row' ≡ row → column' ≡ column → ⊥)
      → written g row column dat numbers b (row' * g.nppbv + r) (column' * g.nppbh + c) ≡ numbers b (row' * g.nppbv + r) (column' * g.nppbh + c)
  unfolding written
  written-other row' column' b r c s ne = pick_no _ _ (in_no g row column row' column' b r c s ne)

  written_small : ((b y x : ℕ) → numbers b y x < 2 ^ g.nbpp) → (b y x : ℕ) → written g row column dat numbers b y x < 2 ^ g.nbpp
  unfolding written number_in_data
  written_small h b y x = pick-lt (in_block g row column b y x) _ _ (mod-lt _ (pow_pos g.nbpp)) (h b y x)
    where
      pick-lt : (t : Bool) (u v : ℕ) → u < 2 ^ g.nbpp → v < 2 ^ g.nbpp → pick t u v < 2 ^ g.nbpp
      pick-lt true u v h k = rw (pick_yes u v refl) h
      pick-lt false u v h k = rw (pick_no u v refl) k

-- ---- the image

-- the image, which was image₀ before the start, holds the numbers, zeros elsewhere, and its surplus as it was
pub record Holding (g : Grid) (image₀ image : List ℕ) (numbers : ℕ → ℕ → ℕ → ℕ) : Type 0 where
  pub size : length image ≡ length image₀
  pub surplus : drop (image_bytes g) image ≡ drop (image_bytes g) image₀
  pub small : (b y x : ℕ) → numbers b y x < 2 ^ g.nbpp
  pub bytes : Below 8 (image_bytes g) image
  pub sample_bits : (row column b r c i : ℕ) → SampleBit g row column b r c i
      → bit_at image (place g row column b r c + i) ≡ bit_of (numbers b (row * g.nppbv + r) (column * g.nppbh + c)) (g.nbpp - suc i)
  pub other_bits : (p : ℕ) → p < image_bytes g * 8 → ((row column b r c i : ℕ) → SampleBit g row column b r c i → place g row column b r c + i ≡ p → ⊥)
      → bit_at image p ≡ 0

pub image-started : (g : Grid) (image : List ℕ) → image_bytes g ≤ length image → Holding g image (over image 0 (replicate (image_bytes g) 0)) (λ b y x. 0)
image-started g image h =
    let z : (p : ℕ) → p < image_bytes g * 8 → bit_at (over image 0 (replicate (image_bytes g) 0)) p ≡ 0
    = λ p l. zeros_in image 0 (image_bytes g) (omega arith) p (omega arith) (omega arith) in
    record {
      size = length-zeros image (image_bytes g) h;
      surplus = drop_past (image_bytes g) image 0 (replicate (image_bytes g) 0)
          (omega (arith, length-replicate {A = ℕ} (image_bytes g) 0)) (omega (arith, length-replicate {A = ℕ} (image_bytes g) 0));
      small = λ b y x. pow_pos g.nbpp;
      bytes = zeros-below 8 (image_bytes g) image 0 (image_bytes g) (omega arith) (λ i l d. absurd (omega (arith, d (omega arith))));
      sample_bits = λ row column b r c i bit. z _ (inside g row column b r c i bit) ∙ sym (bit_zero (g.nbpp - suc i));
      other_bits = λ p l none. z p l;
    }

-- a store in the first n bytes, which came back in front of the rest
module _ (g : Grid) (image₀ image : List ℕ) (numbers : ℕ → ℕ → ℕ → ℕ) (held : Holding g image₀ image numbers) (pos : 0 < g.nbpp)
    (n row column : ℕ) (dat : List ℕ) (fits : image_bytes g ≤ length (take n image)) (t : Block g row column)
    (exact : length dat ≡ g.bands * actual_rows g row * actual_columns g column * sample_bytes g) where
  abbrev stored : List ℕ
  stored = store_block g row column dat (take n image)

  stored_size : length stored ≡ length (take n image)
  stored_size = length-store_block g row column dat (take n image) t fits

  front : (p v : ℕ) → p < image_bytes g * 8 → bit_at stored p ≡ v → bit_at (stored ++ drop n image) p ≡ v
  front p v h e = bit_at-left stored (drop n image) p (omega (arith, stored_size)) ∙ e

  lent : (p v : ℕ) → p < image_bytes g * 8 → bit_at image p ≡ v → bit_at (take n image) p ≡ v
  lent p v h e = bit_at-take n image p (omega (arith, length-take n image)) ∙ e

  write-sample : (row' column' b r c i : ℕ) → SampleBit g row' column' b r c i
      → bit_at (stored ++ drop n image) (place g row' column' b r c + i)
      ≡ bit_of (written g row column dat numbers b (row' * g.nppbv + r) (column' * g.nppbh + c)) (g.nbpp - suc i)
  write-sample row' column' b r c i bit = front _ _ (inside g row' column' b r c i bit) (go (ℕ_discrete row' row) (ℕ_discrete column' column))
    where
      Agrees : ℕ → ℕ → Type 0
      Agrees y x = bit_at stored (place g y x b r c + i) ≡ bit_of (written g row column dat numbers b (y * g.nppbv + r) (x * g.nppbh + c)) (g.nbpp - suc i)

      same : SampleBit g row column b r c i → Agrees row column
      same bit' =
          store_hit g row column dat (take n image) fits b r c i bit'
          ∙ ap (λ (v : ℕ). bit_of v (g.nbpp - suc i))
          (sym (written_same g row column dat numbers b r c bit'.sample ∙ data_is g row column dat exact b r c bit'.sample))

      other : (row' ≡ row → column' ≡ column → ⊥) → Agrees row' column'
      other ne =
          store_other g row column t dat (take n image) fits row' column' b r c i _ bit ne
          (lent _ _ (inside g row' column' b r c i bit) (held.sample_bits row' column' b r c i bit))
          ∙ ap (λ (v : ℕ). bit_of v (g.nbpp - suc i)) (sym (written-other g row column dat numbers row' column' b r c bit.sample ne))

      go : Dec (row' ≡ row) → Dec (column' ≡ column) → Agrees row' column'
      go (yes e₁) (yes e₂) = subst₂ Agrees (sym e₁) (sym e₂) (same (subst₂ (λ (y x : ℕ). SampleBit g y x b r c i) e₁ e₂ bit))
      go (yes e₁) (no n₂) = other (λ _ e. n₂ e)
      go (no n₁) d = other (λ e _. n₁ e)

  pub image-written : Holding g image₀ (store_block g row column dat (take n image) ++ drop n image) (written g row column dat numbers)
  image-written =
      record {
        size = length_front image stored n stored_size ∙ held.size;
        surplus = drop-append-le (image_bytes g) stored (drop n image) (omega (arith, stored_size))
            ∙ ap (λ (l : List ℕ). l ++ drop n image) (store_surplus g row column t dat (take n image) fits pos)
            ∙ sym (drop-append-le (image_bytes g) (take n image) (drop n image) fits)
            ∙ ap (drop (image_bytes g)) (take-append-drop n image) ∙ held.surplus;
        small = written_small g row column dat numbers held.small;
        bytes = left_below 8 (image_bytes g) stored (drop n image) (omega (arith, stored_size))
            (stored_below g row column t dat (take n image) fits
            (take_below 8 (image_bytes g) n image (omega (arith, length-take n image)) held.bytes));
        sample_bits = write-sample;
        other_bits = λ p h none. front p 0 h
            (store_free g row column t dat (take n image) fits p (λ b r c i bit e. none row column b r c i bit (sym e))
            (lent p 0 h (held.other_bits p h none)));
      }
