-- What a store does to each bit.
-- Assumes nothing.
use Prim.Native.Nat.{ℕ, ◌+◌, ◌-◌, ◌%◌, ◌^◌, ◌≤◌, ◌<◌}
use mathlib.Core.Path.{◌≡◌, refl, ◌∙◌}
use mathlib.Core.Logic.{◌≢◌, ◌⊎◌, inl, inr}
use mathlib.Core.List.{List}
use native.Mathlib.Omega.{arith}
use native.Mathlib.Decide.{dec_lt}
use lib.ListN.{length}
use Rattle.bits.specs.Bits.{bit_at, bits_at}
use Rattle.bits.proofs.Bits.{put_bits_bit, bits_at-is}
use Rattle.layout.specs.declared.BlockLayout.{BlockLayout}
use Rattle.layout.specs.Internal.Layout.{place, block_end, Sample, Sound}
use Rattle.moves.specs.Internal.Stores.{data_at, put_block, SampleBit}
use Rattle.moves.proofs.StoreLengths.{put_keep}
use Rattle.moves.proofs.Stored.{all-put}

-- none of n places from `at` on: before them or after them
outside : (p at n : ℕ) → ((i : ℕ) → i < n → p ≢ at + i) → (p < at) ⊎ (at + n ≤ p)
outside p at n ne = go (dec_lt p at) (dec_lt p (at + n))
  where
    go : Dec (p < at) → Dec (p < at + n) → (p < at) ⊎ (at + n ≤ p)
    go (yes l) d = inl l
    go (no l) (no h) = inr (omega arith)
    go (no l) (yes h) = absurd (ne (p - at) (omega arith) (omega arith))

module _ (l : BlockLayout) (f : Sound l) (dat image : List ℕ) where
  -- a sample stored is read back
  pub put-read : block_end l ≤ length image → (b r c : ℕ) → Sample l b r c
      → bits_at (put_block l dat image) (place l b r c) l.nbpp ≡ data_at l dat b r c % 2 ^ l.nbpp
  unfolding put_block
  put-read fits b r c t =
      bits_at-is (put_block l dat image) (place l b r c) l.nbpp (data_at l dat b r c)
      ((all-put l f (data_at l dat) image fits).put b r c (record { in_b = t.in_b; in_r = t.in_r; in_c = t.in_c }) tt)

  -- a bit that is no sample's is kept
  pub put_away : (p : ℕ) → ((b r c i : ℕ) → SampleBit l b r c i → p ≢ place l b r c + i)
      → bit_at (put_block l dat image) p ≡ bit_at image p
  put_away p ne =
      put_keep l dat (λ y. bit_at y p ≡ bit_at image p)
      (λ b r c s y m. put_bits_bit y _ _ _ p
      (outside p _ l.nbpp (λ i h. ne b r c i (record { sample = s; in_i = h }))) ∙ m) image refl
