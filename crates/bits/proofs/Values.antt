-- Laws of numbers side by side in big-endian bytes.
-- Assumes nothing.
use mathlib.Core.Path.{◌≡◌, refl, sym, ap, ap₂, ◌∙◌}
use mathlib.Core.List.{List, [], ◌∷◌, ◌++◌, append_assoc, append-nil}
use Prim.Native.Nat.{ℕ, zero, suc, ◌+◌, ◌-◌, ◌*◌, ◌/◌, ◌%◌, ◌^◌, ◌≤◌, ◌<◌}
use native.Mathlib.Nat.{add-zero, add-suc, add-sub_of_le, mod-eq_of_lt, suc-mul, zero-mul}
use native.Mathlib.Numerals.{add-one}
use native.Mathlib.Decide.{ℕ_discrete}
use native.Mathlib.Omega.{arith}
use lib.ListN.{length, get_or, take, drop, length-append, length-drop, get_or-append}
use lib.Seq.{get_or-append-add, take_at, drop_at, take-suc, take-add, drop-drop, get_or-drop}
use lib.Pow.{mod-pow-add}
use Rattle.common.specs.Over.{over}
use Rattle.common.proofs.Over.{over_none, over-over}
use Rattle.bits.specs.Bits.{Bytes, be_at, be_bytes}
use Rattle.bits.specs.Values.{values, side_by_side}
use Rattle.bits.proofs.Bits.{within}
use Rattle.bits.proofs.BigEndian.{length-be_bytes}

pub length-values : (v : ℕ → ℕ) (s n : ℕ) → length (values v s n) ≡ n * s
unfolding values
length-values v s zero = omega arith
length-values v s (suc n) =
    length-append (values v s n) (be_bytes s (v n)) ∙ ap₂ ◌+◌ (length-values v s n) (length-be_bytes s (v n)) ∙ sym (suc-mul n s)

-- one more, as a loop's `n + 1` has it
pub values-next : (v : ℕ → ℕ) (s n : ℕ) → values v s (n + 1) ≡ values v s n ++ be_bytes s (v n)
unfolding values
values-next v s n = rw add-one

pub values_ext : (v w : ℕ → ℕ) (s n : ℕ) → ((k : ℕ) → k < n → v k ≡ w k) → values v s n ≡ values w s n
unfolding values
values_ext v w s zero h = refl
values_ext v w s (suc n) h = ap₂ (λ (l : List ℕ) (x : ℕ). l ++ be_bytes s x) (values_ext v w s n (λ k l. h k (omega arith))) (h n (omega arith))

-- the first a, then the next n
pub values-add : (v : ℕ → ℕ) (s a n : ℕ) → values v s (a + n) ≡ values v s a ++ values (λ k. v (a + k)) s n
unfolding values
values-add v s a zero = ap (values v s) (add-zero a) ∙ sym (append-nil (values v s a))
values-add v s a (suc n) =
    ap (values v s) (add-suc a n)
    ∙ ap (λ (l : List ℕ). l ++ be_bytes s (v (a + n))) (values-add v s a n)
    ∙ append_assoc (values v s a) (values (λ k. v (a + k)) s n) (be_bytes s (v (a + n)))

-- the first m of n, and the rest
values-parts : (v : ℕ → ℕ) (s m n : ℕ) → m ≤ n → values v s n ≡ values v s m ++ values (λ k. v (m + k)) s (n - m)
values-parts v s m n h = ap (values v s) (sym (add-sub_of_le h)) ∙ values-add v s m (n - m)

pub values-take : (v : ℕ → ℕ) (s m n : ℕ) → m ≤ n → take (m * s) (values v s n) ≡ values v s m
values-take v s m n h =
    ap (take (m * s)) (values-parts v s m n h) ∙ take_at (values v s m) (values (λ k. v (m + k)) s (n - m)) (m * s) (length-values v s m)

pub values-drop : (v : ℕ → ℕ) (s m n : ℕ) → m ≤ n → drop (m * s) (values v s n) ≡ values (λ k. v (m + k)) s (n - m)
values-drop v s m n h =
    ap (drop (m * s)) (values-parts v s m n h) ∙ drop_at (values v s m) (values (λ k. v (m + k)) s (n - m)) (m * s) (length-values v s m)

-- byte j of sample k
pub get_or-values : (v : ℕ → ℕ) (s n k j : ℕ) → k < n → j < s → get_or (values v s n) (k * s + j) 0 ≡ get_or (be_bytes s (v k)) j 0
unfolding values
get_or-values v s zero k j h l = absurd (omega arith)
get_or-values v s (suc n) k j h l = go (ℕ_discrete k n) (λ m. get_or-values v s n k j m l)
  where
    go : Dec (k ≡ n) → (k < n → get_or (values v s n) (k * s + j) 0 ≡ get_or (be_bytes s (v k)) j 0)
        → get_or (values v s n ++ be_bytes s (v n)) (k * s + j) 0 ≡ get_or (be_bytes s (v k)) j 0
    go (yes e) r =
        rw e (ap (λ (a : ℕ). get_or (values v s n ++ be_bytes s (v n)) (a + j) 0) (sym (length-values v s n)) ∙ get_or-append-add (values v s n) (be_bytes s (v n)) j 0)
    go (no ne) r =
        let m : k < n = omega arith in
        get_or-append (values v s n) (be_bytes s (v n)) 0 (k * s + j) (omega (arith, length-values v s n, within k n s m)) ∙ r m

-- lists with the same bytes there have the same big-endian number there
pub be_at_ext : (xs ys : List ℕ) (p q s : ℕ) → ((j : ℕ) → j < s → get_or xs (p + j) 0 ≡ get_or ys (q + j) 0) → be_at xs p s ≡ be_at ys q s
unfolding be_at
be_at_ext xs ys p q zero h = refl
be_at_ext xs ys p q (suc s) h = ap₂ (λ (a b : ℕ). a * 256 + b) (be_at_ext xs ys p q s (λ j l. h j (omega arith))) (h s (omega arith))

-- the number in the bytes of v
pub be_at-be_bytes : (s v : ℕ) → be_at (be_bytes s v) 0 s ≡ v % 2 ^ (8 * s)
unfolding be_at be_bytes
be_at-be_bytes zero v = omega arith
be_at-be_bytes (suc s) v =
    let L : length (be_bytes s (v / 256)) ≡ s = length-be_bytes s (v / 256) in
    let e : 8 * s + 8 ≡ 8 * suc s = omega arith in
    ap₂ (λ (a b : ℕ). a * 256 + b)
    (be_at_ext (be_bytes s (v / 256) ++ (v % 256 ∷ [])) (be_bytes s (v / 256)) 0 0 s
    (λ j l. get_or-append (be_bytes s (v / 256)) (v % 256 ∷ []) 0 (0 + j) (omega arith))
    ∙ be_at-be_bytes s (v / 256))
    (ap (λ (a : ℕ). get_or (be_bytes s (v / 256) ++ (v % 256 ∷ [])) a 0) (omega arith) ∙ get_or-append-add (be_bytes s (v / 256)) (v % 256 ∷ []) 0 0)
    ∙ sym (mod-pow-add v (8 * s) 8)
    ∙ ap (λ (a : ℕ). v % 2 ^ a) e

-- what is read back is what was put
pub be_at-values : (v : ℕ → ℕ) (s n k : ℕ) → k < n → v k < 2 ^ (8 * s) → be_at (values v s n) (k * s) s ≡ v k
be_at-values v s n k h l =
    be_at_ext (values v s n) (be_bytes s (v k)) (k * s) 0 s (λ j m. get_or-values v s n k j h m ∙ ap (λ (a : ℕ). get_or (be_bytes s (v k)) a 0) (omega arith))
    ∙ be_at-be_bytes s (v k) ∙ mod-eq_of_lt l

-- ---- put one after the other

pub values-none : (v : ℕ → ℕ) (s : ℕ) (d : List ℕ) (o : ℕ) → d ≡ over d o (values v s 0)
unfolding values
values-none v s d o = sym (over_none d o)

-- one more sample, right after the k before
pub next-over : (v : ℕ → ℕ) (s : ℕ) (d : List ℕ) (o k : ℕ) → o + (k * s + s) ≤ length d → over (over d o (values v s k)) (o + k * s) (be_bytes s (v k)) ≡ over d o (values v s (k + 1))
next-over v s d o k h =
    let L : length (values v s k) ≡ k * s = length-values v s k in
    let B : length (be_bytes s (v k)) ≡ s = length-be_bytes s (v k) in
    rw values-next
    (ap (λ (a : ℕ). over (over d o (values v s k)) (o + a) (be_bytes s (v k))) (sym L) ∙ over-over d o (values v s k) (be_bytes s (v k)) (omega arith))

pub values-turn : (v : ℕ → ℕ) (s : ℕ) (d : List ℕ) (o k : ℕ) {x : ℕ} {ys zs : List ℕ} → o + (k * s + s) ≤ length d → ys ≡ over d o (values v s k) → x ≡ v k
    → zs ≡ over ys (o + k * s) (be_bytes s x) → zs ≡ over d o (values v s (k + 1))
values-turn v s d o k h ey ex ez = rw (ez, ex, ey) (next-over v s d o k h)

-- n more samples, right after the k before
pub values_run : (v w : ℕ → ℕ) (s : ℕ) (d : List ℕ) (o k n : ℕ) {ys zs : List ℕ} → o + k * s + n * s ≤ length d → ys ≡ over d o (values v s k)
    → zs ≡ over ys (o + k * s) (values w s n) → ((j : ℕ) → j < n → w j ≡ v (k + j)) → zs ≡ over d o (values v s (k + n))
values_run v w s d o k n h ey ez right =
    let L : length (values v s k) ≡ k * s = length-values v s k in
    let N : length (values (λ j. v (k + j)) s n) ≡ n * s = length-values (λ j. v (k + j)) s n in
    ez ∙ ap₂ (λ (y : List ℕ) (vs : List ℕ). over y (o + k * s) vs) ey (values_ext w (λ j. v (k + j)) s n right)
    ∙ ap (λ (a : ℕ). over (over d o (values v s k)) (o + a) (values (λ j. v (k + j)) s n)) (sym L)
    ∙ over-over d o (values v s k) (values (λ j. v (k + j)) s n) (omega arith)
    ∙ ap (over d o) (sym (values-add v s k n))

-- ---- read from bytes

-- the bytes of a number read from bytes are those bytes
pub be_bytes-be_at : (xs : List ℕ) (p s : ℕ) → Bytes xs → p + s ≤ length xs → be_bytes s (be_at xs p s) ≡ take s (drop p xs)
unfolding be_bytes be_at
be_bytes-be_at xs p zero b h = refl
be_bytes-be_at xs p (suc s) b h =
    let x< : get_or xs (p + s) 0 < 256 = b (p + s) in
    let q : (be_at xs p s * 256 + get_or xs (p + s) 0) / 256 ≡ be_at xs p s = omega arith in
    let m : (be_at xs p s * 256 + get_or xs (p + s) 0) % 256 ≡ get_or xs (p + s) 0 = omega arith in
    ap₂ (λ (l : List ℕ) (x : ℕ). l ++ (x ∷ [])) (ap (be_bytes s) q ∙ be_bytes-be_at xs p s b (omega arith)) (m ∙ sym (get_or-drop p xs s 0))
    ∙ sym (take-suc (drop p xs) s 0 (omega (arith, length-drop p xs)))

pub side-by-side : (xs : List ℕ) (from s n : ℕ) → Bytes xs → from + n * s ≤ length xs → values (side_by_side xs from s) s n ≡ take (n * s) (drop from xs)
unfolding values side_by_side
side-by-side xs from s zero b h = sym (ap (λ (a : ℕ). take a (drop from xs)) (zero-mul s))
side-by-side xs from s (suc n) b h =
    let e : suc n * s ≡ n * s + s = suc-mul n s in
    ap₂ ◌++◌ (side-by-side xs from s n b (omega arith)) (be_bytes-be_at xs (from + n * s) s b (omega arith) ∙ ap (take s) (sym (drop-drop (n * s) from xs)))
    ∙ sym (take-add (n * s) s (drop from xs)) ∙ ap (λ (a : ℕ). take a (drop from xs)) (sym e)
