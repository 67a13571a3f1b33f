-- `mask::ImageDataMask::parse` meets its contract.
-- Assumes nothing.
use Rattle.std.proofs.Common.{◌≤◌, refl, sym, arith}
use Rattle.common.specs.Questions.{outcome}
use Rattle.mask.specs.Mask.{no_parse, parsed_of, parse}
use Rattle.mask.proofs.Fields.{code_lt}
use Rattle.mask.proofs.Numbers.{parse-facts, code_inside}
use Rattle.mask.proofs.Refusals.{refused-outcome}
use Rattle.mask.proofs.ImageDataMask.parse.Goals as goal

pub returns-in_err-grid : goal.returns-in_err-grid
unfolding parse
returns-in_err-grid c =
    refused-outcome parsed_of _ no_parse (λ e. refl) _ _ c.from_residual.ensures.1 c.in_err-grid.ensures.number

pub get_be-requires : goal.get_be-requires
get_be-requires c =
    let table = c.in_ok-grid.ensures in
    omega (
      arith,
      rw table.header.1 at c.code_bytes-size.ensures,
      code_inside _ _ _ (parse-facts _ _ _ (sym table.number)),
    )

pub overflow_cast-mask : goal.overflow_cast-mask
overflow_cast-mask c =
    let table = c.in_ok-grid.ensures in
    let size = rw table.header.1 at c.code_bytes-size.ensures in
    let inside = code_inside _ _ _ (parse-facts _ _ _ (sym table.number)) in
    let few : c.code_bytes-size.result ≤ 4 = omega (arith, size, inside) in
    record { fits = code_lt _ _ (λ i. (c.type_inv.table i).fits) few c.get_be.ensures }

pub returns : goal.returns
unfolding parse outcome
returns c =
    let table = c.in_ok-grid.ensures in
    let used = rw (table.header.0, table.header.1) at c.table_bytes-used.ensures in
    rw (← table.number, c.get_be.ensures, c.code_bytes-size.ensures, used, table.header.1)
