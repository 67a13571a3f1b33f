-- The image and the marks are functions of the plain frame.
-- Assumes nothing.
use Prim.Native.Nat.{ℕ, suc, ◌+◌, ◌-◌, ◌*◌, ◌/◌, ◌%◌, ◌≤◌, ◌<◌}
use mathlib.Core.Path.{◌≡◌, sym, ap, ap₂, ◌∙◌, subst}
use mathlib.Core.Bool.{Bool}
use mathlib.Core.List.{List}
use native.Mathlib.Omega.{arith}
use native.Mathlib.Decide.{ℕ_discrete, dec_lt}
use native.Mathlib.Nat.{mod-lt, div-add-mod', div-lt_iff_lt-mul}
use borrow.Author.Tests.{eqb-true, eq-eqb}
use lib.Dec.{eqb}
use lib.ListN.{length, get_or, take, length-take}
use lib.Seq.{ext_get_or, get_or-take}
use Rattle.bits.specs.Bits.{bit_of, bit_at}
use Rattle.grid.specs.declared.Grid.{Grid}
use Rattle.grid.specs.Sizes.{blocks, image_bytes, block_index, actual_rows, actual_columns}
use Rattle.grid.specs.Layout.{place, Block, Sample, SampleBit}
use Rattle.grid.proofs.Accepted.{facts, across-pos}
use Rattle.marks.specs.Marks.{mark_words, marked}
use Rattle.calls.proofs.Numbers.{Enough}
use Rattle.frame.specs.Calls.{after, in_force}
use Rattle.frame.specs.Demand3.{plain}
use Rattle.frame.specs.Determined.{Determined}
use Rattle.frame.proofs.Bounded.{Below, same_bits}
use Rattle.frame.proofs.ImageNumbers.{Holding}
use Rattle.frame.proofs.MarksReached.{Marking}
use Rattle.frame.proofs.Demand3Holds.{ran, enough}

-- two lists whose first n elements, below 2 ^ w, have the same bits
same-front : (w n : ℕ) (xs ys : List ℕ) → n ≤ length xs → n ≤ length ys → Below w n xs → Below w n ys
    → ((i k : ℕ) → i < n → k < w → bit_of (get_or xs i 0) k ≡ bit_of (get_or ys i 0) k) → take n xs ≡ take n ys
same-front w n xs ys hx hy bx by e =
    let lx : length (take n xs) ≡ n = omega (arith, length-take n xs) in
    let ly : length (take n ys) ≡ n = omega (arith, length-take n ys) in
    ext_get_or 0 (take n xs) (take n ys) (lx ∙ sym ly) (λ i l.
    let h : i < n = omega (arith, lx) in
    get_or-take n xs i 0 h ∙ same_bits w _ _ (bx i h) (by i h) (λ k m. e i k h m) ∙ sym (get_or-take n ys i 0 h))

-- ---- the image

module _ (g : Grid) (image₀ image image₀' image' : List ℕ) (numbers numbers' : ℕ → ℕ → ℕ → ℕ)
    (held : Holding g image₀ image numbers) (held' : Holding g image₀' image' numbers')
    (same : (row column b r c : ℕ) → Sample g row column b r c
    → numbers b (row * g.nppbv + r) (column * g.nppbh + c) ≡ numbers' b (row * g.nppbv + r) (column * g.nppbh + c))
  where
    same_bit : (p : ℕ) → p < image_bytes g * 8 → bit_at image p ≡ bit_at image' p
    same_bit p l = go (ℕ_discrete (bit_at image p) (bit_at image' p))
      where
        none : (bit_at image p ≡ bit_at image' p → ⊥) → (row column b r c i : ℕ) → SampleBit g row column b r c i
            → place g row column b r c + i ≡ p → ⊥
        none ne row column b r c i t e =
            ne (ap (bit_at image) (sym e) ∙ held.sample_bits row column b r c i t
            ∙ ap (λ (v : ℕ). bit_of v (g.nbpp - suc i)) (same row column b r c t.sample)
            ∙ sym (held'.sample_bits row column b r c i t) ∙ ap (bit_at image') e)

        go : Dec (bit_at image p ≡ bit_at image' p) → bit_at image p ≡ bit_at image' p
        go (yes e) = e
        go (no ne) = held.other_bits p l (none ne) ∙ sym (held'.other_bits p l (none ne))

    same-image : image_bytes g ≤ length image → image_bytes g ≤ length image'
        → take (image_bytes g) image ≡ take (image_bytes g) image'
    unfolding bit_at
    same-image h h' =
        same-front 8 (image_bytes g) image image' h h' held.bytes held'.bytes (λ i k l m.
        let d : (i * 8 + (7 - k)) / 8 ≡ i = omega arith in
        let r : 7 - (i * 8 + (7 - k)) % 8 ≡ k = omega arith in
        let bit : (xs : List ℕ) → bit_at xs (i * 8 + (7 - k)) ≡ bit_of (get_or xs i 0) k
        = λ xs. ap₂ (λ (a b : ℕ). bit_of (get_or xs a 0) b) d r in
        sym (bit image) ∙ same_bit (i * 8 + (7 - k)) (omega arith) ∙ bit image')

-- ---- the marks

-- a bit is known by whether it is one
same-one : (a b : ℕ) → a < 2 → b < 2 → eqb a 1 ≡ eqb b 1 → a ≡ b
same-one a b h l e = go (ℕ_discrete a 1) (ℕ_discrete b 1)
  where
    go : Dec (a ≡ 1) → Dec (b ≡ 1) → a ≡ b
    go (yes p) d = let q : b ≡ 1 = eqb-true b 1 (sym e ∙ eq-eqb a 1 p) in omega arith
    go (no n) (yes p) = absurd (n (eqb-true a 1 (e ∙ eq-eqb b 1 p)))
    go (no n) (no m) = omega arith

module _ (g : Grid) (across : 0 < g.nbpr) (marks₀ marks marks₀' marks' : List ℕ) (reached reached' : ℕ → ℕ → Bool)
    (held : Marking g marks₀ marks reached) (held' : Marking g marks₀' marks' reached')
    (same : (row column : ℕ) → Block g row column → reached row column ≡ reached' row column) where
  same-mark : (i : ℕ) → i < mark_words (blocks g) * 64 → Dec (i < blocks g) → marked marks i ≡ marked marks' i
  same-mark i l (yes h) =
      let e : block_index g (i / g.nbpr) (i % g.nbpr) ≡ i = div-add-mod' i g.nbpr in
      let t : Block g (i / g.nbpr) (i % g.nbpr)
      = record { in_row = (div-lt_iff_lt-mul across).1 (omega arith); in_column = mod-lt i across } in
      ap (marked marks) (sym e) ∙ held.each _ _ t ∙ same _ _ t ∙ sym (held'.each _ _ t) ∙ ap (marked marks') e
  same-mark i l (no h) = held.beyond i (omega arith) l ∙ sym (held'.beyond i (omega arith) l)

  same-marks : mark_words (blocks g) ≤ length marks → mark_words (blocks g) ≤ length marks'
      → take (mark_words (blocks g)) marks ≡ take (mark_words (blocks g)) marks'
  unfolding marked
  same-marks h h' =
      same-front 64 (mark_words (blocks g)) marks marks' h h' held.words held'.words (λ i k l m.
      let d : (i * 64 + k) / 64 ≡ i = omega arith in
      let r : (i * 64 + k) % 64 ≡ k = omega arith in
      let bit : (xs : List ℕ) → marked xs (i * 64 + k) ≡ eqb (bit_of (get_or xs i 0) k) 1
      = λ xs. ap₂ (λ (a b : ℕ). eqb (bit_of (get_or xs a 0) b) 1) d r in
      same-one _ _ (mod-lt _ (omega arith)) (mod-lt _ (omega arith))
      (sym (bit marks) ∙ same-mark (i * 64 + k) (omega arith) (dec_lt (i * 64 + k) (blocks g)) ∙ bit marks'))

-- ---- both

in_rows : (g : Grid) (row r : ℕ) → r < actual_rows g row → row * g.nppbv + r < g.nrows
unfolding actual_rows
in_rows g row r h = omega arith

in_columns : (g : Grid) (column c : ℕ) → c < actual_columns g column → column * g.nppbh + c < g.ncols
unfolding actual_columns
in_columns g column c h = omega arith

pub determined : Determined
determined s t cs cs' e e' same =
    let g : Grid = in_force s cs in
    let i = (ran s cs e).inv in
    let i' = (ran t cs' e').inv in
    let a = enough s cs e in
    let a' = subst (λ (x : Grid). Enough x (length (after t cs').state.image) (length (after t cs').state.marks))
    (sym same) (enough t cs' e') in
    record {
      image = λ sn. same-image g s.image (after s cs).state.image t.image (after t cs').state.image
          (plain s cs).frame.numbers (plain t cs').frame.numbers i.held
          (subst (λ (x : Grid). Holding x t.image (after t cs').state.image (plain t cs').frame.numbers)
          (sym same) i'.held)
          (λ row column b r c m. sn b _ _ m.in_b (in_rows g row r m.in_r) (in_columns g column c m.in_c))
          a.bytes a'.bytes;
      marks = λ sr. same-marks g (across-pos g (facts g a.accepted)) s.marks (after s cs).state.marks t.marks
          (after t cs').state.marks (plain s cs).frame.reached (plain t cs').frame.reached i.reached
          (subst (λ (x : Grid). Marking x t.marks (after t cs').state.marks (plain t cs').frame.reached)
          (sym same) i'.reached)
          sr a.words a'.words;
    }
