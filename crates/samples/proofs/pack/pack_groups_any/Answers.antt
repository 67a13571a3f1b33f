-- `samples::pack::pack_groups_any`: one more group is put.
-- Assumes nothing.
use Rattle.std.proofs.Common.{◌*◌, arith}
use Rattle.bits.proofs.Bits.{within}
use Rattle.samples.proofs.Groups.{groups_none, group_turn, fit-part}
use Rattle.samples.proofs.pack.pack_groups_any.Goals as goal

pub loop-k-init : goal.loop-k-init
loop-k-init c = record { bytes = λ i. (c.type_inv.img i).fits; so_far = groups_none _ _ _ _ _ _ }

pub join-v-requires-clause-samples_fit : goal.join-v-requires-clause-samples_fit
join-v-requires-clause-samples_fit c =
    let g = c.args.groups in
    fit-part _ g.data_at g.size _ _ (c.loop-k.k * g.samples) _ c.requires.samples_fit
    (within c.loop-k.k g.count g.samples c.loop-k-test.true) (omega arith)

pub loop-k-preserved : goal.loop-k-preserved
loop-k-preserved c =
    let g = c.args.groups in
    let before = c.loop-k.invariant in
    let last = within c.loop-k.k g.count g.bytes c.loop-k-test.true in record {
      bytes = before.bytes;
      so_far = group_turn _ _ _ _ _ _ _ _ _ before.bytes g.whole_bytes (omega arith) before.so_far
          c.join-v.ensures c.put_be.ensures;
    }
