-- Laws of samples put one after the other: in parts, and in groups that are put as one number.
-- Assumes nothing.
use mathlib.Core.Path.{◌≡◌, refl, sym, ap, ap₂, ◌∙◌}
use mathlib.Core.List.{List}
use Prim.Native.Nat.{ℕ, zero, suc, ◌+◌, ◌-◌, ◌*◌, ◌/◌, ◌%◌, ◌^◌, ◌≤◌, ◌<◌}
use native.Mathlib.Nat.{add-zero, add-suc, add-mul, add_assoc, add-sub_of_le, div-mul-le_self, mul_assoc, mul_left_comm, suc-mul, zero-mul, mod-lt, mod-eq_of_lt}
use native.Mathlib.Numerals.{add-one}
use native.Mathlib.Omega.{arith}
use lib.ListN.{length}
use lib.Arith.{digits_lt}
use lib.Pow.{pow_pos, pow-add, high, low}
use Rattle.bits.specs.Bits.{Bytes, put_bits, be_at, be_bytes}
use Rattle.common.specs.Over.{over}
use Rattle.bits.proofs.Bits.{put_bits-add, next-sample}
use Rattle.bits.proofs.BigEndian.{put_bits-bytes}
use Rattle.bits.proofs.Joined.{put_bits-low}
use Rattle.bits.specs.Values.{side_by_side}
use Rattle.samples.specs.Internal.Samples.{put_spaced, SamplesFit}
use Rattle.samples.specs.Internal.Groups.{joined}
use Rattle.samples.proofs.Samples.{length-put_spaced, put_spaced-bytes, put_spaced_ext}
use Rattle.samples.proofs.Moves.{put_spaced-none}

-- ---- in parts

-- the first a of n, and the rest, in each of two runs
abbrev pub Parts : ℕ → ℕ → ℕ → ℕ → Type 0
Parts a n s w = (a * s + (n - a) * s ≡ n * s) × (a * w + (n - a) * w ≡ n * w)

part : (a n m : ℕ) → a ≤ n → a * m + (n - a) * m ≡ n * m
part a n m h = sym (add-mul a (n - a) m) ∙ ap (λ (k : ℕ). k * m) (add-sub_of_le h)

pub parts : (a n s w : ℕ) → a ≤ n → Parts a n s w
parts a n s w h = (part a n s h, part a n w h)

-- the first a, then the next n
put_spaced-add : (v : ℕ → ℕ) (w p step a n : ℕ) (d : List ℕ) → put_spaced v w p step (a + n) d ≡ put_spaced (λ k. v (a + k)) w (p + a * step) step n (put_spaced v w p step a d)
unfolding put_spaced
put_spaced-add v w p step a zero d = ap (λ (k : ℕ). put_spaced v w p step k d) (add-zero a)
put_spaced-add v w p step a (suc n) d =
    ap (λ (k : ℕ). put_spaced v w p step k d) (add-suc a n)
    ∙ ap₂ (λ (ys : List ℕ) (i : ℕ). put_bits ys i w (v (a + n))) (put_spaced-add v w p step a n d)
    (ap (λ (i : ℕ). p + i) (add-mul a n step) ∙ sym (add_assoc p (a * step) (n * step)))

-- samples side by side, from sample a on
pub side_by_side-from : (xs : List ℕ) (from s a k : ℕ) → side_by_side xs (from + a * s) s k ≡ side_by_side xs from s (a + k)
unfolding side_by_side
side_by_side-from xs from s a k = ap (λ (i : ℕ). be_at xs i s) (add_assoc from (a * s) (k * s) ∙ ap (λ (i : ℕ). from + i) (sym (add-mul a k s)))

-- of samples without further bits, the m from sample a on, at index o
pub fit-part : (xs : List ℕ) (from s w n a m : ℕ) {o : ℕ} → SamplesFit xs from s w n → a + m ≤ n → o ≡ from + a * s → SamplesFit xs o s w m
fit-part xs from s w n a m f h e k l = rw (e, side_by_side-from xs from s a k) (f (a + k) (omega arith))

-- n more samples, right after the a before
put-more : (xs : List ℕ) (from s w p step a n : ℕ) (d : List ℕ) {ys zs : List ℕ} → ys ≡ put_spaced (side_by_side xs from s) w p step a d
    → zs ≡ put_spaced (side_by_side xs (from + a * s) s) w (p + a * step) step n ys → zs ≡ put_spaced (side_by_side xs from s) w p step (a + n) d
put-more xs from s w p step a n d ey ez =
    ez ∙ ap (put_spaced (side_by_side xs (from + a * s) s) w (p + a * step) step n) ey
    ∙ put_spaced_ext (side_by_side xs (from + a * s) s) (λ k. side_by_side xs from s (a + k)) w (p + a * step) step n _ (λ k l. side_by_side-from xs from s a k)
    ∙ sym (put_spaced-add (side_by_side xs from s) w p step a n d)

-- the rest of n samples, right after the a before
pub put_rest : (xs : List ℕ) (from s w p step a n : ℕ) (d : List ℕ) {ys zs : List ℕ} → a ≤ n → ys ≡ put_spaced (side_by_side xs from s) w p step a d
    → zs ≡ put_spaced (side_by_side xs (from + a * s) s) w (p + a * step) step (n - a) ys → zs ≡ put_spaced (side_by_side xs from s) w p step n d
put_rest xs from s w p step a n d h ey ez =
    put-more xs from s w p step a (n - a) d ey ez ∙ ap (λ (k : ℕ). put_spaced (side_by_side xs from s) w p step k d) (add-sub_of_le h)

-- ---- in groups

pub joined-none : (v : ℕ → ℕ) (w : ℕ) → 0 ≡ joined v w 0
unfolding joined
joined-none v w = refl

-- one more sample, of w bits
pub joined-turn : (v : ℕ → ℕ) (w k : ℕ) {x y z : ℕ} → v k < 2 ^ w → y ≡ joined v w k → x ≡ v k → z ≡ y * 2 ^ w + x → z ≡ joined v w (k + 1)
unfolding joined
joined-turn v w k l ey ex ez = rw (ez, ey, ex, add-one, mod-eq_of_lt l)

pub joined_lt : (v : ℕ → ℕ) (w n : ℕ) → joined v w n < 2 ^ (n * w)
unfolding joined
joined_lt v w zero = rw zero-mul (omega arith)
joined_lt v w (suc n) = rw (suc-mul, pow-add) (digits_lt (joined_lt v w n) (mod-lt (v n) (pow_pos w)))

-- samples put side by side are one number put
pub put_spaced-joined : (v : ℕ → ℕ) (w p n : ℕ) (d : List ℕ) → put_spaced v w p w n d ≡ put_bits d p (n * w) (joined v w n)
unfolding put_spaced joined put_bits
put_spaced-joined v w p zero d = ap (λ (k : ℕ). put_bits d p k 0) (sym (zero-mul w))
put_spaced-joined v w p (suc n) d =
    let x : ℕ = joined v w n * 2 ^ w + v n % 2 ^ w in
    let l : v n % 2 ^ w < 2 ^ w = mod-lt (v n) (pow_pos w) in
    put_bits-low (put_spaced v w p w n d) (p + n * w) w (v n) x (sym (low (joined v w n) w l))
    ∙ ap (λ (ys : List ℕ). put_bits ys (p + n * w) w x)
    (put_spaced-joined v w p n d ∙ ap (put_bits d p (n * w)) (sym (high (joined v w n) w l)))
    ∙ sym (put_bits-add d p (n * w) w x) ∙ ap (λ (k : ℕ). put_bits d p k x) (sym (suc-mul n w))

-- the same at whole bytes
put_group : (v : ℕ → ℕ) (w q g m : ℕ) (d : List ℕ) → Bytes d → g * w ≡ 8 * m → q + m ≤ length d → over d q (be_bytes m (joined v w g)) ≡ put_spaced v w (8 * q) w g d
put_group v w q g m d b e h =
    sym (put_bits-bytes d q m (joined v w g) b h) ∙ ap (λ (k : ℕ). put_bits d (8 * q) k (joined v w g)) (sym e) ∙ sym (put_spaced-joined v w (8 * q) g d)

-- k groups of g samples, each of which fills m bytes
whole-bytes : (k g w m : ℕ) → g * w ≡ 8 * m → k * g * w ≡ 8 * (k * m)
whole-bytes k g w m e = mul_assoc k g w ∙ ap (λ (i : ℕ). k * i) e ∙ mul_left_comm k 8 m

-- as many whole groups as n samples have, in each of two runs
abbrev pub Groups : ℕ → ℕ → ℕ → ℕ → ℕ → Type 0
Groups n g s w m = (n / g * g ≤ n) × (n / g * (g * s) ≡ n / g * g * s) × (n / g * g * w ≡ 8 * (n / g * m)) × Parts (n / g * g) n s w

pub groups : (n g s w m : ℕ) → g * w ≡ 8 * m → Groups n g s w m
groups n g s w m e =
    let h : n / g * g ≤ n = div-mul-le_self n g in
    (h, sym (mul_assoc (n / g) g s), whole-bytes (n / g) g w m e, parts (n / g * g) n s w h)

pub groups_none : (v : ℕ → ℕ) (w p step g : ℕ) (d : List ℕ) → d ≡ put_spaced v w p step (0 * g) d
groups_none v w p step g d = rw zero-mul (put_spaced-none v w p step d)

-- one more group of g samples, which fills m bytes
pub group_turn : (xs : List ℕ) (from s w q g m : ℕ) (d : List ℕ) (k : ℕ) {x : ℕ} {ys zs : List ℕ} → Bytes d → g * w ≡ 8 * m → q + (k * m + m) ≤ length d
    → ys ≡ put_spaced (side_by_side xs from s) w (8 * q) w (k * g) d → x ≡ joined (side_by_side xs (from + k * (g * s)) s) w g → zs ≡ over ys (q + k * m) (be_bytes m x)
    → zs ≡ put_spaced (side_by_side xs from s) w (8 * q) w ((k + 1) * g) d
group_turn xs from s w q g m d k {x} {ys} b e h ey ex ez =
    let by : Bytes ys = rw ey (put_spaced-bytes (side_by_side xs from s) w (8 * q) w (k * g) d b) in
    let ly : length ys ≡ length d = ap length ey ∙ length-put_spaced (side_by_side xs from s) w (8 * q) w (k * g) d in
    let ef : from + k * (g * s) ≡ from + k * g * s = ap (λ (i : ℕ). from + i) (sym (mul_assoc k g s)) in
    let eb : k * g * w ≡ 8 * (k * m) = whole-bytes k g w m e in
    let ep : 8 * (q + k * m) ≡ 8 * q + k * g * w = omega arith in
    put-more xs from s w (8 * q) w (k * g) g d ey
    (ez ∙ ap (λ (i : ℕ). over ys (q + k * m) (be_bytes m i)) ex
    ∙ put_group (side_by_side xs (from + k * (g * s)) s) w (q + k * m) g m ys by e (omega arith)
    ∙ ap₂ (λ (i j : ℕ). put_spaced (side_by_side xs i s) w j w g ys) ef ep)
    ∙ ap (λ (i : ℕ). put_spaced (side_by_side xs from s) w (8 * q) w i d) (sym (next-sample k g))
