-- What a re-lay does to each bit of any image.
-- Assumes nothing.
use Prim.Native.Nat.{ℕ, suc, ◌+◌, ◌-◌, ◌*◌, ◌/◌, ◌≤◌, ◌<◌}
use mathlib.Core.Path.{◌≡◌, refl, sym, ap, ◌∙◌, subst}
use mathlib.Core.Logic.{◌≢◌}
use mathlib.Core.Bool.{Bool, true, false}
use mathlib.Core.List.{List}
use native.Mathlib.Omega.{arith}
use lib.ListN.{length, drop, replicate, length-replicate}
use Rattle.common.proofs.Loops.{iter_hit, iter2_keep, iter2_once}
use Rattle.bits.specs.Bits.{bit_of, bit_at}
use Rattle.bits.proofs.Bits.{put_bits_bit, bits_at-bit}
use Rattle.grid.specs.declared.EdgeRule.TheVariants.{Full}
use Rattle.grid.specs.declared.Grid.{Grid}
use Rattle.grid.specs.Sizes.{band_bytes, image_bytes, block_index, byte_multiple}
use Rattle.grid.specs.Layout.{run_byte, place, Block, SampleBit}
use Rattle.grid.specs.EdgeRules.{under_full}
use Rattle.grid.proofs.Accepted.{Facts}
use Rattle.grid.proofs.EdgeRules.{byte_multiples_lie_the_same}
use Rattle.grid.proofs.SamplePlaces.{run_inside}
use Rattle.grid.proofs.Runs.{InRuns, sample_runs, one_block, byte_run, block_rule, bit_rule, runs_rule}
use Rattle.calls.specs.Reads.{sample_at}
use Rattle.calls.specs.Writes.{put_samples, clear_runs}
use Rattle.calls.specs.Relay.{relay_block, relaid_by, relaid}
use Rattle.frame.proofs.ListBits.{zeros_in, zeros-out, zeros_keep, drop_past, drop-put_bits}
use Rattle.frame.proofs.Lengths.{put_keep, length-put_samples, length-cleared, length-clear_runs}
use Rattle.frame.proofs.StoredBits.{outside, sample-end, laid_keep, put_hit}
use Rattle.frame.proofs.Bounded.{Below, put-below, zeros-below}

-- ---- a block's runs cleared, and numbers put as its samples

module _ (g : Grid) (row column : ℕ) (t : Block g row column) (v : ℕ → ℕ → ℕ → ℕ) (image : List ℕ)
    (fits : image_bytes g ≤ length image) where
  abbrev laid : List ℕ
  laid = put_samples g row column v (clear_runs g row column image)

  cleared_size : length (clear_runs g row column image) ≡ length image
  cleared_size = length-clear_runs g row column image t fits

  laid_size : length laid ≡ length image
  laid_size = length-put_samples g row column v (clear_runs g row column image) t ∙ cleared_size

  -- a bit in none of the block's runs is as it was
  laid_away : (p w : ℕ) → (InRuns g row column (p / 8) → ⊥) → bit_at image p ≡ w → bit_at laid p ≡ w
  laid_away p w out e =
      laid_keep g row column t v image fits (λ y. bit_at y p ≡ w)
      (λ b r c s y m. put_bits_bit y _ _ _ p (outside p _ g.nbpp (λ i hi q.
      out (subst (λ (z : ℕ). InRuns g row column (z / 8)) (sym q)
      (sample_runs g row column b r c i (record { sample = s; in_i = hi }))))) ∙ m)
      (λ k hk y h m. zeros-out y _ _ (omega (arith, run_inside g row column k t hk)) p
      (outside (p / 8) _ (band_bytes g) (λ n hn q. out (record { k = k; n = n; k_lt = hk; n_lt = hn; is = q }))) ∙ m)
      e

  laid_surplus : 0 < g.nbpp → drop (image_bytes g) laid ≡ drop (image_bytes g) image
  laid_surplus pos =
      let zeros : length (replicate {A = ℕ} (band_bytes g) 0) ≡ band_bytes g = length-replicate (band_bytes g) 0 in
      laid_keep g row column t v image fits (λ y. drop (image_bytes g) y ≡ drop (image_bytes g) image)
      (λ b r c s y m. drop-put_bits (image_bytes g) y _ _ _ (sample-end g row column b r c pos s) ∙ m)
      (λ k hk y h m. drop_past (image_bytes g) y _ (replicate (band_bytes g) 0)
      (omega (arith, run_inside g row column k t hk, zeros)) (omega (arith, run_inside g row column k t hk, zeros)) ∙ m)
      refl

  -- bytes stay bytes
  laid_below : (n : ℕ) → Below 8 n image → Below 8 n laid
  laid_below n q =
      laid_keep g row column t v image fits (Below 8 n)
      (λ b r c s y m. put-below n y _ _ _ m)
      (λ k hk y h m. zeros-below 8 n y (run_byte g.imode g (block_index g row column) k) (band_bytes g)
      (omega (arith, run_inside g row column k t hk)) (λ i l d. m i l))
      q

  -- each bit of a sample is that of its number
  laid_hit : (b r c i : ℕ) → SampleBit g row column b r c i
      → bit_at laid (place g row column b r c + i) ≡ bit_of (v b r c) (g.nbpp - suc i)
  laid_hit = put_hit g row column v (clear_runs g row column image) (omega (arith, cleared_size))

  cleared_bit : (p : ℕ) → InRuns g row column (p / 8) → bit_at (clear_runs g row column image) p ≡ 0
  unfolding clear_runs
  cleared_bit p o =
      let start : ℕ → ℕ = run_byte g.imode g (block_index g row column) in
      (iter_hit (λ y. length y ≡ length image) (λ y. (length y ≡ length image) × (bit_at y p ≡ 0))
      g.bands _ image o.k o.k_lt
      (λ k hk y e. length-cleared g row column k y t hk (omega arith) ∙ e)
      (λ y e. (
        length-cleared g row column o.k y t o.k_lt (omega arith) ∙ e,
        zeros_in y (start o.k) (band_bytes g) (omega (arith, run_inside g row column o.k t o.k_lt)) p
            (omega (arith, o.is)) (omega (arith, o.is, o.n_lt)),
      ))
      (λ k hk ne y m. (
        length-cleared g row column k y t hk (omega (arith, m.0)) ∙ m.0,
        zeros_keep y (start k) (band_bytes g) (omega (arith, m.0, run_inside g row column k t hk)) p m.1,
      ))
      refl).1

  -- a bit of the runs that holds no sample is zero
  laid_free : (p : ℕ) → InRuns g row column (p / 8)
      → ((b r c i : ℕ) → SampleBit g row column b r c i → p ≢ place g row column b r c + i) → bit_at laid p ≡ 0
  laid_free p o ne =
      put_keep g row column v t (λ y. bit_at y p ≡ 0)
      (λ b r c s y m. put_bits_bit y _ _ _ p
      (outside p _ g.nbpp (λ i hi. ne b r c i (record { sample = s; in_i = hi }))) ∙ m)
      (clear_runs g row column image) (cleared_bit p o)

-- ---- one block laid anew

module _ (g : Grid) (row column : ℕ) (t : Block (under_full g) row column) (image : List ℕ)
    (fits : image_bytes (under_full g) ≤ length image) where
  abbrev samples : ℕ → ℕ → ℕ → ℕ
  samples b r c = sample_at g image row column b r c

  block_size : length (relay_block g row column image) ≡ length image
  unfolding relay_block clear_runs band_bytes
  block_size = laid_size (under_full g) row column t samples image fits

  block_away : (p w : ℕ) → (InRuns (under_full g) row column (p / 8) → ⊥) → bit_at image p ≡ w
      → bit_at (relay_block g row column image) p ≡ w
  unfolding relay_block clear_runs band_bytes
  block_away = laid_away (under_full g) row column t samples image fits

  block_surplus : 0 < g.nbpp
      → drop (image_bytes (under_full g)) (relay_block g row column image) ≡ drop (image_bytes (under_full g)) image
  unfolding relay_block clear_runs band_bytes
  block_surplus = laid_surplus (under_full g) row column t samples image fits

  block_below : (n : ℕ) → Below 8 n image → Below 8 n (relay_block g row column image)
  unfolding relay_block clear_runs band_bytes
  block_below = laid_below (under_full g) row column t samples image fits

  -- a sample has its value where full puts it
  block_hit : (b r c i : ℕ) → SampleBit (under_full g) row column b r c i
      → bit_at (relay_block g row column image) (place (under_full g) row column b r c + i)
      ≡ bit_at image (place g row column b r c + i)
  unfolding relay_block clear_runs band_bytes sample_at
  block_hit b r c i bit =
      laid_hit (under_full g) row column t samples image fits b r c i bit
      ∙ bits_at-bit image (place g row column b r c) g.nbpp i bit.in_i

  block_free : (p : ℕ) → InRuns (under_full g) row column (p / 8)
      → ((b r c i : ℕ) → SampleBit (under_full g) row column b r c i → p ≢ place (under_full g) row column b r c + i)
      → bit_at (relay_block g row column image) p ≡ 0
  unfolding relay_block clear_runs band_bytes
  block_free = laid_free (under_full g) row column t samples image fits

-- ---- the whole image

module _ (g : Grid) (image : List ℕ) (fits : image_bytes (under_full g) ≤ length image) where
  -- what is kept wherever a block is laid anew
  loop_keep : (Q : List ℕ → Type 0)
      → ((row column : ℕ) → Block (under_full g) row column → (x : List ℕ) → image_bytes (under_full g) ≤ length x
      → Q x → Q (relay_block g row column x))
      → Q image → (length (relaid_by false g image) ≡ length image) × Q (relaid_by false g image)
  unfolding relaid_by
  loop_keep Q s q =
      iter2_keep (λ y. (length y ≡ length image) × Q y) g.nbpc g.nbpr (relay_block g) image
      (λ row column hr hc x m.
      let t : Block (under_full g) row column = record { in_row = hr; in_column = hc } in
      let l : image_bytes (under_full g) ≤ length x = omega (arith, m.0) in
      (block_size g row column t x l ∙ m.0, s row column t x l m.1))
      (refl, q)

  -- a block with bits p and q in its runs: it finds what the image had, and what it leaves stays
  loop_at : (row column p q v w : ℕ) → Block (under_full g) row column
      → InRuns (under_full g) row column (p / 8) → InRuns (under_full g) row column (q / 8)
      → ((x : List ℕ) → image_bytes (under_full g) ≤ length x → bit_at x p ≡ v
      → bit_at (relay_block g row column x) q ≡ w)
      → bit_at image p ≡ v → bit_at (relaid_by false g image) q ≡ w
  unfolding relaid_by
  loop_at row column p q v w t op oq hit e =
      (iter2_once (Has p v) (Has q w) g.nbpc g.nbpr
      (relay_block g) image row column t.in_row t.in_column
      (λ row' column' hr hc ne x m. other row' column' hr hc ne p op x v m)
      (λ x m.
      let l : image_bytes (under_full g) ≤ length x = omega (arith, m.0) in
      (block_size g row column t x l ∙ m.0, hit x l m.1))
      (λ row' column' hr hc ne x m. other row' column' hr hc ne q oq x w m)
      (refl, e)).1
    where
      Has : ℕ → ℕ → List ℕ → Type 0
      Has p v y = (length y ≡ length image) × (bit_at y p ≡ v)

      other : (row' column' : ℕ) → row' < g.nbpc → column' < g.nbpr → (row' ≡ row → column' ≡ column → ⊥)
          → (p : ℕ) → InRuns (under_full g) row column (p / 8) → (x : List ℕ) (v : ℕ) → Has p v x
          → Has p v (relay_block g row' column' x)
      other row' column' hr hc ne p o x v m =
          let t' : Block (under_full g) row' column' = record { in_row = hr; in_column = hc } in
          let l : image_bytes (under_full g) ≤ length x = omega (arith, m.0) in (
            block_size g row' column' t' x l ∙ m.0,
            block_away g row' column' t' x l p v
                (λ o'. let d = one_block (under_full g) row' column' row column (p / 8) t' t o' o in ne d.0 d.1) m.1,
          )

  sample_by : (w : Bool) → byte_multiple g ≡ w → (row column b r c i : ℕ) → SampleBit g row column b r c i
      → bit_at (relaid_by w g image) (place (under_full g) row column b r c + i)
      ≡ bit_at image (place g row column b r c + i)
  unfolding relaid_by
  sample_by true e row column b r c i bit =
      ap (λ (p : ℕ). bit_at image (p + i)) (byte_multiples_lie_the_same Full g row column b r c e)
  sample_by false e row column b r c i bit =
      let bit' = bit_rule Full g row column b r c i bit in
      loop_at row column (place g row column b r c + i) (place (under_full g) row column b r c + i) _ _
      bit'.sample.block
      (runs_rule Full g row column _ (sample_runs g row column b r c i bit))
      (sample_runs (under_full g) row column b r c i bit')
      (λ x h m. block_hit g row column bit'.sample.block x h b r c i bit' ∙ m) refl

  -- each bit of a sample is as it was, at every width
  pub relaid_sample : (row column b r c i : ℕ) → SampleBit g row column b r c i
      → bit_at (relaid g image) (place (under_full g) row column b r c + i)
      ≡ bit_at image (place g row column b r c + i)
  relaid_sample = sample_by (byte_multiple g) refl

  -- at other widths each bit that holds no sample becomes zero
  pub relaid_free : Facts g → (p : ℕ) → p < image_bytes g * 8
      → ((row column b r c i : ℕ) → SampleBit g row column b r c i → place (under_full g) row column b r c + i ≡ p → ⊥)
      → bit_at (relaid_by false g image) p ≡ 0
  relaid_free f p h none =
      let o = byte_run g f (p / 8) (omega arith) in
      let t = block_rule Full g o.row o.column o.block in
      let u = runs_rule Full g o.row o.column (p / 8) o.in_runs in
      loop_at o.row o.column p p _ 0 t u u
      (λ x l m. block_free g o.row o.column t x l p u (λ b r c i bit e.
      none o.row o.column b r c i (bit_rule g.edges (under_full g) o.row o.column b r c i bit) (sym e)))
      refl

  size_by : (w : Bool) → length (relaid_by w g image) ≡ length image
  unfolding relaid_by
  size_by true = refl
  size_by false = (loop_keep (λ y. Unit {0}) (λ row column t x l q. tt) tt).0

  pub relaid_size : length (relaid g image) ≡ length image
  relaid_size = size_by (byte_multiple g)

  surplus_by : (w : Bool) → 0 < g.nbpp
      → drop (image_bytes (under_full g)) (relaid_by w g image) ≡ drop (image_bytes (under_full g)) image
  unfolding relaid_by
  surplus_by true pos = refl
  surplus_by false pos =
      (loop_keep (λ y. drop (image_bytes (under_full g)) y ≡ drop (image_bytes (under_full g)) image)
      (λ row column t x l q. block_surplus g row column t x l pos ∙ q) refl).1

  -- the surplus of a longer buffer is kept
  pub relaid_surplus : 0 < g.nbpp
      → drop (image_bytes (under_full g)) (relaid g image) ≡ drop (image_bytes (under_full g)) image
  relaid_surplus = surplus_by (byte_multiple g)

  below_by : (w : Bool) (n : ℕ) → Below 8 n image → Below 8 n (relaid_by w g image)
  unfolding relaid_by
  below_by true n q = q
  below_by false n q = (loop_keep (Below 8 n) (λ row column t x l m. block_below g row column t x l n m) q).1

  pub relaid_below : (n : ℕ) → Below 8 n image → Below 8 n (relaid g image)
  relaid_below = below_by (byte_multiple g)
