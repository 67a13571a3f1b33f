-- `mask::ImageDataMask::lengths` meets its contract.
-- Assumes nothing.
use Rattle.mask.proofs.Fields.{read_lt}
use Rattle.mask.proofs.ImageDataMask.lengths.Goals as goal

pub overflow_cast-result : goal.overflow_cast-result
overflow_cast-result c = record { fits = read_lt _ _ 4 (λ i. (c.type_inv.table i).fits) c.get_be.ensures }

pub overflow_cast-result-2 : goal.overflow_cast-result-2
overflow_cast-result-2 c = record { fits = read_lt _ _ 2 (λ i. (c.type_inv.table i).fits) c.get_be-2.ensures }

pub overflow_cast-result-3 : goal.overflow_cast-result-3
overflow_cast-result-3 c = record { fits = read_lt _ _ 2 (λ i. (c.type_inv.table i).fits) c.get_be-3.ensures }

pub overflow_cast-result-4 : goal.overflow_cast-result-4
overflow_cast-result-4 c = record { fits = read_lt _ _ 2 (λ i. (c.type_inv.table i).fits) c.get_be-4.ensures }
