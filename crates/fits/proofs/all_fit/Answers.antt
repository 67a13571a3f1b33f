-- A sample's first byte tells whether it fits.
use Rattle.std.proofs.Common.{◌≡◌, ℕ, ◌+◌, ◌-◌, ◌*◌, ◌%◌, ◌^◌, ◌<◌, refl, sym, ap, ◌∙◌, arith}
use Rattle.std.proofs.Math.Nat.{one-mul, mod-eq_of_lt}
use lib.Pow.{pow_mono}
use Rattle.fits.specs.Internal.Rows.{first_bytes_below}
use Rattle.fits.proofs.FirstBytes.{samples_of, whole-fit, first_tell}
use Rattle.fits.proofs.all_fit.Goals as goal

-- the limit of a first byte, as a shift has it
limit_is : (e : ℕ) → e < 8 → 1 * 2 ^ e % 256 ≡ 2 ^ e
limit_is e h = ap (λ (x : ℕ). x % 256) (one-mul (2 ^ e)) ∙ mod-eq_of_lt (omega (arith, pow_mono {i = e} {j = 7} (omega arith)))

pub returns-then-width-size : goal.returns-then-width-size
returns-then-width-size c = sym (whole-fit _ _ _ _ (λ i. (c.type_inv.dat i).fits) c.if-width-size.true)

pub returns : goal.returns
returns c =
    let a = c.args in
    c.first_bytes_below.ensures
    ∙ ap (first_bytes_below a.dat.now a.size) (limit_is (a.width + 8 - 8 * a.size) (omega arith))
    ∙ samples_of a.dat.now a.size _ refl
    ∙ first_tell a.dat.now _ a.size a.width (λ i. (c.type_inv.dat i).fits) c.requires.0 (omega arith)
