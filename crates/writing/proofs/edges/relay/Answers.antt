-- `writing::edges::relay` meets its contract.
-- Assumes nothing.
use Rattle.std.proofs.Common.{ℕ, ◌≡◌, ◌*◌, refl, sym, ◌∙◌, drop, arith}
use Rattle.std.proofs.lemmas.List.{length-take}
use Rattle.std.proofs.lemmas.Result.{err_from_is_err_and}
use Rattle.common.specs.Questions.{outcome}
use Rattle.common.proofs.Flags.{yes, no}
use Rattle.common.proofs.Over.{front_filled, front-same}
use Rattle.common.proofs.Questions.{refused-by}
use Rattle.refusals.proofs.Numbers.{number-some}
use Rattle.grid.specs.Sizes.{band_bytes}
use Rattle.calls.specs.Relay.{relaid_by, relaid, relay as relay_by}
use Rattle.calls.proofs.Numbers.{relay-facts, relay-room}
use Rattle.writing.proofs.Relays.{laid_by}
use Rattle.writing.proofs.edges.relay.Goals as goal
use Rattle.writing.proofs.edges.relay.Goals.{then-not-whole_bytes, else-not-whole_bytes}

pub returns-in_err-grid : goal.returns-in_err-grid
unfolding relay_by
returns-in_err-grid c =
    let p = err_from_is_err_and c.from_residual.result c.from_residual.ensures.1 in
    rw (p.1, p.2) (refused-by _ _ c.in_err-grid.ensures.number (number-some _))

pub relay_blocks-requires : goal.relay_blocks-requires
relay_blocks-requires c =
    let zero = sym c.in_ok-grid.ensures.number in
    rw c.in_ok-grid.ensures.same
    (record { buffers_hold = ((relay-facts _ _ _ _ _ zero).bytes, relay-room _ _ _ _ _ zero) })

pub slice_bounds-fill-end : goal.slice_bounds-fill-end
slice_bounds-fill-end c =
    rw (c.block_bytes.ensures, c.in_ok-grid.ensures.same, c.if-not-whole_bytes.auto.scratch)
    (relay-room _ _ _ _ _ (sym c.in_ok-grid.ensures.number))

pub slice_bounds-fill-end-2 : goal.slice_bounds-fill-end-2
slice_bounds-fill-end-2 c =
    let e = rw c.in_ok-grid.ensures.same at c.block_bytes.ensures in
    omega (
      arith,
      length-take {A = ℕ},
      e,
      c.if-not-whole_bytes.auto.scratch,
      relay-room _ _ _ _ _ (sym c.in_ok-grid.ensures.number),
    )

pub returns : goal.returns
unfolding relay_by outcome relaid_by
returns c =
    let a = c.args in
    let same = c.in_ok-grid.ensures.same in
    let n : ℕ = a.grid.bands * band_bytes a.grid in
    let bytes : c.block_bytes.result ≡ n = rw same at c.block_bytes.ensures in
    let room = relay-room _ _ _ _ _ (sym c.in_ok-grid.ensures.number) in
    let laid :
    (c.if-not-whole_bytes.image ≡ relaid a.grid a.image.now)
    × (drop n c.if-not-whole_bytes.scratch ≡ drop n a.scratch.now)
    = elim c.if-not-whole_bytes.branch [
      | then-not-whole_bytes w ↦ (
        laid_by _ _ _ (no (rw same at c.is_byte_multiple-whole_bytes.ensures) w.if-not-whole_bytes.true)
            (w.image-is ∙ rw same at w.relay_blocks.ensures.image_is),
        rw w.scratch-is (rw same at w.relay_blocks.ensures.scratch_kept),
      )
      | else-not-whole_bytes w ↦ (
        laid_by _ _ _ (yes (rw same at c.is_byte_multiple-whole_bytes.ensures) w.if-not-whole_bytes.false) w.image-is,
        rw w.scratch-is refl,
      )
    ] in
    rw (
      front_filled _ _ 0 (rw (bytes, c.if-not-whole_bytes.auto.scratch) room) (c.fill.ensures.after (λ y z. z)),
      bytes,
      front-same _ _ n 0 laid.1,
      laid.0,
      c.under_full.ensures,
      same,
      sym c.in_ok-grid.ensures.number,
    )
    refl
