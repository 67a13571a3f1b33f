-- What a store keeps, put by put; above all the length.
-- Assumes nothing.
use Prim.Native.Nat.{ℕ}
use mathlib.Core.Path.{◌≡◌, refl, ◌∙◌}
use mathlib.Core.List.{List}
use lib.ListN.{length}
use Rattle.bits.specs.Bits.{put_bits}
use Rattle.bits.proofs.Bits.{length-put_bits}
use Rattle.common.proofs.Turns.{iter_keep}
use Rattle.layout.specs.declared.BlockLayout.{BlockLayout}
use Rattle.layout.specs.Internal.Layout.{place, Sample}
use Rattle.moves.specs.Internal.Stores.{data_at, put_block}

pub put_keep : (l : BlockLayout) (dat : List ℕ) (Q : List ℕ → Type 0)
    → ((b r c : ℕ) → Sample l b r c → (y : List ℕ) → Q y → Q (put_bits y (place l b r c) l.nbpp (data_at l dat b r c)))
    → (image : List ℕ) → Q image → Q (put_block l dat image)
unfolding put_block
put_keep l dat Q s image q =
    iter_keep Q l.rows _ image (λ r hr x.
    iter_keep Q l.bands _ x (λ b hb y.
    iter_keep Q l.columns _ y (λ c hc z. s b r c (record { in_b = hb; in_r = hr; in_c = hc }) z))) q

pub length-put_block : (l : BlockLayout) (dat image : List ℕ) → length (put_block l dat image) ≡ length image
length-put_block l dat image =
    put_keep l dat (λ y. length y ≡ length image) (λ b r c s y e. length-put_bits y _ _ _ ∙ e) image refl
