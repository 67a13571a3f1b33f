-- What an accepted window answers: its shape and its bytes.
-- Assumes nothing.
use Prim.Native.Nat.{ℕ}
use mathlib.Core.Path.{◌≡◌, sym, ap, ◌∙◌}
use mathlib.Core.List.{List}
use lib.ListN.{length}
use Rattle.common.specs.Over.{over}
use Rattle.common.proofs.Questions.{outcome-yes}
use Rattle.layout.specs.Bands.{band_count}
use Rattle.widths.specs.declared.Widths.{Widths}
use Rattle.grid.specs.declared.Grid.{Grid}
use Rattle.calls.specs.Orders.{Window, window_number}
use Rattle.calls.specs.Reads.{no_shape, filled_with, window_of, window}
use Rattle.windows.specs.Internal.Windows.{window_bytes}

pub window-read : (ws : Widths) (g : Grid) (image : List ℕ) (w : Window) (out : List ℕ) {zs : List ℕ}
    → window_number ws g (length image) w (length out) ≡ 0 → zs ≡ over out 0 (window_bytes g image w)
    → filled_with (record { number = 0; bands = band_count g.bands w.bands; rows = w.rows; columns = w.columns }) zs
    ≡ window ws g image w out
unfolding window window_of
window-read ws g image w out e ez = ap (filled_with _) ez ∙ sym (outcome-yes _ (λ n. filled_with (no_shape n) out) e)
