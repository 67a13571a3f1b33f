-- Laws of the order of a mode: it numbers the samples of a block, each once, and grows with band, row and column.
-- Assumes nothing.
use Prim.Native.Nat.{ℕ, ◌+◌, ◌*◌, ◌≤◌, ◌<◌}
use mathlib.Core.Path.{◌≡◌}
use native.Mathlib.Omega.{arith}
use native.Mathlib.Nat.{mul-le-mul_right}
use lib.Arith.{digits_lt}
use Rattle.layout.specs.declared.InterleaveMode.{InterleaveMode}
use Rattle.layout.specs.declared.InterleaveMode.TheVariants.{B, P, R, S}
use Rattle.layout.specs.Order.{ordinal}
use Rattle.common.proofs.Arith.{three_digits}

three_lt : (k q p x y z : ℕ) → x < k → y < q → z < p → (x * q + y) * p + z < k * (q * p)
three_lt k q p x y z hx hy hz = omega (arith, digits_lt {q = x * q + y} {m = k * q} {r = z} {c = p} (digits_lt {q = x} {m = k} {r = y} {c = q} hx hy) hz)

-- the same band, row and column
pub record Same3 (b r c b' r' c' : ℕ) : Type 0 where
  pub eq_b : b ≡ b'
  pub eq_r : r ≡ r'
  pub eq_c : c ≡ c'

pub ordinal_lt : (m : InterleaveMode) (n v h b r c : ℕ) → b < n → r < v → c < h → ordinal m n v h b r c < n * (v * h)
ordinal_lt B n v h b r c hb hr hc = three_lt n v h b r c hb hr hc
ordinal_lt P n v h b r c hb hr hc = omega (arith, three_lt v h n r c b hr hc hb)
ordinal_lt R n v h b r c hb hr hc = omega (arith, three_lt v n h r b c hr hb hc)
ordinal_lt S n v h b r c hb hr hc = three_lt n v h b r c hb hr hc

pub ordinal_inj : (m : InterleaveMode) (n v h b r c b' r' c' : ℕ) → b < n → r < v → c < h → b' < n → r' < v → c' < h
    → ordinal m n v h b r c ≡ ordinal m n v h b' r' c' → Same3 b r c b' r' c'
ordinal_inj B n v h b r c b' r' c' hb hr hc hb' hr' hc' e =
    let a = three_digits v h b r c b' r' c' hr hr' hc hc' e in record { eq_b = a.0; eq_r = a.1; eq_c = a.2 }
ordinal_inj P n v h b r c b' r' c' hb hr hc hb' hr' hc' e =
    let a = three_digits h n r c b r' c' b' hc hc' hb hb' e in record { eq_b = a.2; eq_r = a.0; eq_c = a.1 }
ordinal_inj R n v h b r c b' r' c' hb hr hc hb' hr' hc' e =
    let a = three_digits n h r b c r' b' c' hb hb' hc hc' e in record { eq_b = a.1; eq_r = a.0; eq_c = a.2 }
ordinal_inj S n v h b r c b' r' c' hb hr hc hb' hr' hc' e =
    let a = three_digits v h b r c b' r' c' hr hr' hc hc' e in record { eq_b = a.0; eq_r = a.1; eq_c = a.2 }

mono3 : (q p x y z x' y' z' : ℕ) → x ≤ x' → y ≤ y' → z ≤ z' → (x * q + y) * p + z ≤ (x' * q + y') * p + z'
mono3 q p x y z x' y' z' hx hy hz =
    let a : x * q + y ≤ x' * q + y' = omega (arith, mul-le-mul_right q hx) in
    omega (arith, mul-le-mul_right p a)

pub ordinal_mono : (m : InterleaveMode) (n v h b r c b' r' c' : ℕ) → b ≤ b' → r ≤ r' → c ≤ c' → ordinal m n v h b r c ≤ ordinal m n v h b' r' c'
ordinal_mono B n v h b r c b' r' c' hb hr hc = mono3 v h b r c b' r' c' hb hr hc
ordinal_mono P n v h b r c b' r' c' hb hr hc = mono3 h n r c b r' c' b' hr hc hb
ordinal_mono R n v h b r c b' r' c' hb hr hc = mono3 n h r b c r' b' c' hr hb hc
ordinal_mono S n v h b r c b' r' c' hb hr hc = mono3 v h b r c b' r' c' hb hr hc
