-- `samples::copy::copy_bits`: bits up to a byte, words, and the rest.
-- Assumes nothing.
use Rattle.std.proofs.Common.{◌≡◌, ap, ◌∙◌, ℕ, ◌+◌, ◌-◌, ◌*◌, ◌/◌, ◌%◌, arith}
use Rattle.bits.specs.Bits.{bits_at, put_bits}
use Rattle.samples.proofs.Copied.{copied_then}
use Rattle.samples.proofs.copy.copy_bits.Goals as goal

pub returns : goal.returns
returns c =
    let a = c.args in
    let head : ℕ = 7 - (a.to + 7) % 8 in
    let words : ℕ = (a.n - head - 8) / 64 in
    let done : ℕ = head + 64 * words in
    let e : 8 * ((a.to + head) / 8) ≡ a.to + head = omega arith in
    let f : done + (a.n - done) ≡ a.n = omega arith in
    copied_then a.src.now a.from a.to done (a.n - done) a.out.now
    (copied_then a.src.now a.from a.to head (64 * words) a.out.now c.copy_few-2.ensures
    (c.copy_words.ensures
    ∙ ap (λ (p : ℕ). put_bits c.copy_few-2.new.out p (64 * words) (bits_at a.src.now (a.from + head) (64 * words))) e))
    c.copy_few-3.ensures
    ∙ ap (λ (n : ℕ). put_bits a.out.now a.to n (bits_at a.src.now a.from n)) f
