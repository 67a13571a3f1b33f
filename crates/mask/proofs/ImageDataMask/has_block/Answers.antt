-- `mask::ImageDataMask::has_block` meets its contract.
-- Assumes nothing.
use Rattle.std.proofs.Common.{◌≡◌, ℕ, Bool, true, false, not, eqb, None, Some, refl}
use Rattle.std.specs.Option.{option_eq}
use Rattle.common.specs.Questions.{outcome}
use Rattle.common.specs.Tests.{pick}
use Rattle.mask.specs.Mask.{not_present, is_present, present_of, has_block}
use Rattle.mask.proofs.Refusals.{refused-outcome}
use Rattle.mask.proofs.ImageDataMask.has_block.Goals as goal

-- where there is no record, it is no empty block's
other-record : (none : Bool) (offset : ℕ)
    → not (option_eq eqb (pick none None (Some offset)) (Some 0xFFFF_FFFF))
    ≡ pick none true (not (eqb offset 0xFFFF_FFFF))
unfolding pick
other-record true offset = refl
other-record false offset = refl

pub returns-in_err-record : goal.returns-in_err-record
unfolding has_block
returns-in_err-record c =
    refused-outcome present_of _ not_present (λ e. refl) _ _ c.from_residual.ensures.1 c.in_err-record.ensures.number

pub returns : goal.returns
unfolding has_block outcome is_present
returns c =
    let found = c.in_ok-record.ensures in
    rw (← found.number, c.ne.ensures, found.record, other-record _ _)
