-- Products, quotients rounded up, and parts of a length.
-- Assumes nothing.
use Prim.Native.Nat.{ℕ, suc, ◌+◌, ◌-◌, ◌*◌, ◌/◌, ◌%◌, min, ◌≤◌, ◌<◌}
use mathlib.Core.Path.{◌≡◌, sym, ap, ◌∙◌}
use native.Mathlib.Omega.{arith}
use native.Mathlib.Decide.{dec_lt}
use native.Mathlib.Nat.{mul-le-mul, le-div_iff_mul-le, div-add-mod', mod-lt, div-mul-le_self, add-mul, suc-mul, div-eq_of_lt-le, div-lt_iff_lt-mul, mul-le-mul_left}
use borrow.Author.Tests.{le-leb, lt-leb}
use lib.Arith.{digits_div, digits_mod}
use lib.Dec.{leb}
use Rattle.common.specs.Rounding.{ceil_div}

-- mul-le-mul with the numbers written out, for omega's list
pub prod_le : (a b m n : ℕ) → a ≤ m → b ≤ n → a * b ≤ m * n
prod_le a b m n h k = mul-le-mul h k

-- a test of a product, by a division: nothing wraps
pub leb_div : (n m t : ℕ) → 0 < t → leb n (m / t) ≡ leb (n * t) m
leb_div n m t h = go (dec_lt (m / t) n) (dec_lt m (n * t))
  where
    go : Dec (m / t < n) → Dec (m < n * t) → leb n (m / t) ≡ leb (n * t) m
    go (yes k) (yes d) = lt-leb n (m / t) k ∙ sym (lt-leb (n * t) m d)
    go (yes k) (no d) = absurd (let e : n ≤ m / t = (le-div_iff_mul-le h).1 (omega arith) in omega arith)
    go (no k) d =
        let l : n ≤ m / t = omega arith in
        le-leb n (m / t) l ∙ sym (le-leb (n * t) m ((le-div_iff_mul-le h).0 l))

pub ceil_pos : (n v : ℕ) → 0 < v → 0 < n → 0 < ceil_div n v
ceil_pos n v hv h = (le-div_iff_mul-le hv).1 (omega arith)

pub ceil_le : (n v : ℕ) → 0 < v → ceil_div n v ≤ n
ceil_le n v hv =
    let h : ceil_div n v < suc n = (div-lt_iff_lt-mul {k = v} {x = n + (v - 1)} {y = suc n} hv).1 (omega (arith, suc-mul n v, mul-le-mul_left n hv)) in
    omega arith

-- n places in parts of v: part p starts inside where it is one of them
pub part-start : (n v p : ℕ) → 0 < v → p < ceil_div n v → p * v < n
part-start n v p hv h =
    let a : suc p * v ≤ n + (v - 1) = (le-div_iff_mul-le hv).0 h in
    omega (arith, suc-mul p v)

-- place x is in part x / v, and there below what that part holds
pub part_lt : (n v x : ℕ) → 0 < v → x < n → x / v < ceil_div n v
part_lt n v x hv h = (le-div_iff_mul-le hv).1 (omega (arith, div-mul-le_self x v, add-mul 1 (x / v) v))

pub rest_lt : (n v x : ℕ) → 0 < v → x < n → x % v < min v (n - x / v * v)
rest_lt n v x hv h = omega (arith, div-add-mod' x v, mod-lt x hv)

-- the part of a place
pub part_of : (v p q r m : ℕ) → r < v → m ≤ v → q * v ≤ p * v + r → p * v + r < q * v + m → p ≡ q
part_of v p q r m hr hm lo hi = sym (digits_div p hr) ∙ div-eq_of_lt-le v lo (omega arith)

-- ---- numbers of two and three digits in a mixed radix

pub two_digits : (q x y x' y' : ℕ) → y < q → y' < q → x * q + y ≡ x' * q + y' → (x ≡ x') × (y ≡ y')
two_digits q x y x' y' h h' e =
    (sym (digits_div x h) ∙ ap (λ (z : ℕ). z / q) e ∙ digits_div x' h', sym (digits_mod x h) ∙ ap (λ (z : ℕ). z % q) e ∙ digits_mod x' h')

pub three_digits : (q p x y z x' y' z' : ℕ) → y < q → y' < q → z < p → z' < p → (x * q + y) * p + z ≡ (x' * q + y') * p + z'
    → (x ≡ x') × (y ≡ y') × (z ≡ z')
three_digits q p x y z x' y' z' hy hy' hz hz' e =
    let a = two_digits p (x * q + y) z (x' * q + y') z' hz hz' e in
    let b = two_digits q x y x' y' hy hy' a.0 in
    (b.0, b.1, a.1)
