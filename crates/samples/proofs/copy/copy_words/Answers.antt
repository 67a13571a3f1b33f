-- `samples::copy::copy_words`: one more word is put.
-- Assumes nothing.
use Rattle.std.proofs.Common.{◌*◌, arith}
use Rattle.samples.proofs.Copied.{copied-none, word_then}
use Rattle.samples.proofs.copy.copy_words.Goals as goal

pub loop-k-init : goal.loop-k-init
loop-k-init c =
    let a = c.args in
    record { bytes = λ i. (c.type_inv.out i).fits; so_far = copied-none a.src.now a.from (8 * a.to) a.out.now }

pub loop-k-preserved : goal.loop-k-preserved
loop-k-preserved c =
    let a = c.args in
    let before = c.loop-k.invariant in
    record {
      bytes = before.bytes;
      so_far = word_then a.src.now a.from a.to c.loop-k.k a.out.now before.bytes (omega arith) before.so_far
          c.get_word-v.ensures c.put_be.ensures;
    }
