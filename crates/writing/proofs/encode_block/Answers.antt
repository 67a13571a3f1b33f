-- `writing::encode_block` meets its contract.
-- Assumes nothing.
use Rattle.std.proofs.Common.{refl, sym}
use Rattle.std.proofs.lemmas.Result.{err_from_is_err_and}
use Rattle.common.specs.Questions.{outcome}
use Rattle.common.proofs.Questions.{refused-by}
use Rattle.refusals.proofs.Numbers.{number-some}
use Rattle.calls.specs.Writes.{unchanged, write}
use Rattle.calls.proofs.Numbers.{write-facts, write_data, write-fit}
use Rattle.calls.proofs.Refused.{write-alone}
use Rattle.writing.proofs.Stores.{mark_in, writable, samples-fit, store_is}
use Rattle.writing.proofs.encode_block.Goals as goal

pub returns-in_err-block : goal.returns-in_err-block
unfolding write
returns-in_err-block c =
    let a = c.args in
    let p = err_from_is_err_and c.from_residual.result c.from_residual.ensures.1 in
    let e = c.in_err-block.ensures.number in
    rw (p.1, p.2, write-alone _ _ _ _ _ _ _ _ _ _ _ _ e) (refused-by _ (unchanged a.image.now a.marks.now) e (number-some _))

pub store_block-requires : goal.store_block-requires
store_block-requires c =
    let b = c.in_ok-block.ensures.block in
    let zero = sym c.in_ok-block.ensures.number in
    let k = write-facts _ _ _ _ _ _ _ _ _ _ _ zero in
    let exact = write_data _ _ _ _ _ _ _ _ _ _ _ zero in
    rw (c.layout.ensures, b.0, b.1, b.2)
    (writable _ k.0.accepted _ _ k.1 _ _ exact k.0.bytes
    (λ narrow. samples-fit _ k.0.accepted _ _ _ exact (write-fit _ _ _ _ _ _ _ _ _ _ _ zero)))

pub set_mark-requires : goal.set_mark-requires
set_mark-requires c =
    let b = c.in_ok-block.ensures.block in
    let k = write-facts _ _ _ _ _ _ _ _ _ _ _ (sym c.in_ok-block.ensures.number) in
    rw (c.index.ensures, b.0, b.1, b.2) (mark_in _ _ _ _ k.0.words k.1)

pub returns : goal.returns
unfolding write outcome
returns c =
    let a = c.args in
    let b = c.in_ok-block.ensures.block in
    rw (
      c.store_block.ensures,
      c.set_mark.ensures,
      c.layout.ensures,
      c.index.ensures,
      b.0,
      b.1,
      b.2,
      store_is a.grid a.block_row a.block_col a.«data».now a.image.now,
      sym c.in_ok-block.ensures.number,
    )
    refl
