-- Demand 3 at the figures' lists of calls, under either edge rule and with re-lays: the calls tell what the plain frame
-- tells.
-- Assumes nothing.
use mathlib.Core.Path.{◌≡◌, refl, ap₂}
use lib.ListN.{replicate}
use Rattle.common.specs.Tests.{every, some, within, pick}
use Rattle.grid.specs.declared.EdgeRule.{EdgeRule}
use Rattle.common.specs.Lists.{tabulate}
use Rattle.widths.specs.Widths.{width_taken, width_bytes, standard, takes}
use Rattle.grid.specs.Sizes.{band_bytes}
use Rattle.grid.specs.Check.{block_side, q1, q3, q4, q11}
use Rattle.marks.specs.Marks.{q12}
use Rattle.calls.specs.Orders.{start_number}
use Rattle.frame.specs.Calls.{Accepts}
use Rattle.frame.proofs.Demand3Holds.{demand3}
use Rattle.figures.specs.Instance.{begun, asked, part, told, by_calls, by_plain_frame}
use Rattle.figures.specs.Relays.{begun_m, asked_m, whole_m, by_calls_m, by_plain_frame_m}

accepted : (rule : EdgeRule) → Accepts (begun rule)
unfolding start_number block_side q1 q3 q4 q11 q12 every within width_taken width_bytes standard takes tabulate pick some band_bytes
accepted rule = refl

pub cited : (rule : EdgeRule) → by_calls rule ≡ by_plain_frame rule
unfolding by_calls by_plain_frame
cited rule =
    let h = demand3 (begun rule) asked (accepted rule) in
    ap₂ told h.answers (h.windows standard 96 part (replicate 17 9))

accepted_m : Accepts begun_m
unfolding start_number block_side q1 q3 q4 q11 q12 every within width_taken width_bytes standard takes tabulate pick some band_bytes
accepted_m = refl

pub cited_m : by_calls_m ≡ by_plain_frame_m
unfolding by_calls_m by_plain_frame_m
cited_m =
    let h = demand3 begun_m asked_m accepted_m in
    ap₂ told h.answers (h.windows standard 4 whole_m (replicate 7 8))
