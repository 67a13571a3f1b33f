-- `mask::ImageDataMask::get_block_offset` meets its contract.
-- Assumes nothing.
use Rattle.std.proofs.Common.{◌≡◌, ℕ, Bool, true, false, not, eqb, Option, None, Some, Ok, refl, rules}
use Rattle.std.specs.Option.{MatchOption}
use Rattle.std.specs.Bool.{then_some}
use Rattle.common.specs.Questions.{outcome}
use Rattle.common.specs.Tests.{pick}
use Rattle.mask.specs.Mask.{no_offset, offset_if, is_given, offset_of, get_block_offset}
use Rattle.mask.proofs.Refusals.{refused-outcome}
use Rattle.mask.proofs.ImageDataMask.get_block_offset.Goals as goal

-- an offset is given where there is a record, and it is no empty block's
kept_offset : (none : Bool) (offset : ℕ) (kept : Option ℕ)
    → MatchOption (pick none None (Some offset)) (kept ≡ None)
    (λ o. kept ≡ then_some (not (eqb o 0xFFFF_FFFF)) o)
    → offset_of (Ok kept) ≡ offset_if (pick none false (not (eqb offset 0xFFFF_FFFF))) offset
unfolding pick
kept_offset true offset kept e = rw e
kept_offset false offset kept e = rw e (go (eqb offset 0xFFFF_FFFF))
  where
    go : (empty : Bool) → offset_of (Ok (then_some (not empty) offset)) ≡ offset_if (not empty) offset
    go true = refl
    go false = refl

pub returns-in_err-record : goal.returns-in_err-record
unfolding get_block_offset
returns-in_err-record c =
    refused-outcome offset_of _ no_offset (λ e. refl) _ _ c.from_residual.ensures.1 c.in_err-record.ensures.number

pub returns : goal.returns
unfolding get_block_offset outcome is_given
returns c =
    let found = c.in_ok-record.ensures in
    let kept : MatchOption c.in_ok-record.record (c.filter.result ≡ None)
    (λ offset. c.filter.result ≡ then_some (not (eqb offset 0xFFFF_FFFF)) offset) = search rules in
    rw (← found.number) (kept_offset _ _ _ (rw found.record at kept))
