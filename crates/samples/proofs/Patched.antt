-- Laws of a list some of whose samples are replaced.
-- Assumes nothing.
use mathlib.Core.Path.{◌≡◌, refl, sym, ap, ◌∙◌}
use mathlib.Core.Bool.{Bool, true, false}
use mathlib.Core.List.{List, [], ◌∷◌, ◌++◌}
use Prim.Native.Nat.{ℕ, zero, suc, ◌+◌, ◌-◌, ◌*◌, ◌/◌, ◌%◌, ◌≤◌, ◌<◌}
use native.Mathlib.Nat.{div-add-mod', div-mul-le_self, le-div_iff_mul-le, div-lt_iff_lt-mul, mod-lt, add-mul, mul-le-mul_right}
use native.Mathlib.Numerals.{add-one}
use native.Mathlib.Decide.{ℕ_discrete, dec_lt}
use native.Mathlib.Omega.{arith}
use lib.Dec.{leb, ltb}
use lib.ListN.{length, get_or, length-append, get_or-append}
use lib.Seq.{ext_get_or, get_or_at}
use lib.Arith.{digits_lt}
use borrow.Author.Tests.{lt-ltb, le-ltb, le-leb, lt-leb}
use Rattle.bits.specs.Bits.{be_bytes}
use Rattle.common.specs.Over.{over}
use Rattle.common.proofs.Over.{length_over, get_or-over_in, get_or-over-before, get_or-over-after}
use Rattle.common.specs.Tests.{pick}
use Rattle.common.proofs.Tests.{true_false, pick_yes, pick_no}
use Rattle.bits.specs.Values.{values}
use Rattle.common.specs.Lists.{tabulate}
use Rattle.samples.specs.Internal.Patched.{patched}
use Rattle.bits.proofs.Values.{length-values, get_or-values}

-- ---- lists told by their elements

length-tabulate : (n : ℕ) (f : ℕ → ℕ) → length (tabulate n f) ≡ n
unfolding tabulate
length-tabulate zero f = refl
length-tabulate (suc n) f = length-append (tabulate n f) (f n ∷ []) ∙ rw (length-tabulate n f) (add-one n)

get_d_tabulate : (n : ℕ) (f : ℕ → ℕ) (i : ℕ) → i < n → get_or (tabulate n f) i 0 ≡ f i
unfolding tabulate
get_d_tabulate zero f i h = absurd (omega arith)
get_d_tabulate (suc n) f i h = go (ℕ_discrete i n) (λ l. get_d_tabulate n f i l)
  where
    go : Dec (i ≡ n) → (i < n → get_or (tabulate n f) i 0 ≡ f i) → get_or (tabulate n f ++ (f n ∷ [])) i 0 ≡ f i
    go (yes e) r = rw e (get_or_at (tabulate n f) (f n) [] 0 n (length-tabulate n f))
    go (no ne) r =
        let l : i < n = omega arith in
        get_or-append (tabulate n f) (f n ∷ []) 0 i (omega (arith, length-tabulate n f)) ∙ r l

pub length-patched : (s : ℕ) (v : ℕ → ℕ) (t : ℕ → Bool) (d : List ℕ) → length (patched s v t d) ≡ length d
unfolding patched
length-patched s v t d = length-tabulate (length d) _

pub get_or-patched : (s : ℕ) (v : ℕ → ℕ) (t : ℕ → Bool) (d : List ℕ) (i : ℕ) → i < length d
    → get_or (patched s v t d) i 0 ≡ pick (t (i / s)) (get_or (be_bytes s (v (i / s))) (i % s) 0) (get_or d i 0)
unfolding patched
get_or-patched s v t d i h = get_d_tabulate (length d) _ i h

-- byte i of a sample that passes, and of one that does not
patched_hit : (s : ℕ) (v : ℕ → ℕ) (t : ℕ → Bool) (d : List ℕ) (i : ℕ) → i < length d → t (i / s) ≡ true
    → get_or (patched s v t d) i 0 ≡ get_or (be_bytes s (v (i / s))) (i % s) 0
patched_hit s v t d i h e = get_or-patched s v t d i h ∙ pick_yes _ _ e

patched-kept : (s : ℕ) (v : ℕ → ℕ) (t : ℕ → Bool) (d : List ℕ) (i : ℕ) → i < length d → t (i / s) ≡ false
    → get_or (patched s v t d) i 0 ≡ get_or d i 0
patched-kept s v t d i h e = get_or-patched s v t d i h ∙ pick_no _ _ e

-- the sample of a byte starts at it or before
starts : (i s n : ℕ) → i < n → i / s * s < n
starts i s n h = omega (arith, div-mul-le_self i s)

-- ---- equal where it matters

-- tests and values are compared for the samples that the list reaches into, values only where the test is passed
pub patched_ext : (s : ℕ) (v w : ℕ → ℕ) (t u : ℕ → Bool) (d : List ℕ) → ((n : ℕ) → n * s < length d → t n ≡ u n)
    → ((n : ℕ) → n * s < length d → t n ≡ true → v n ≡ w n) → patched s v t d ≡ patched s w u d
patched_ext s v w t u d et ev =
    ext_get_or 0 (patched s v t d) (patched s w u d) (length-patched s v t d ∙ sym (length-patched s w u d))
    (λ i h. go i (omega (arith, length-patched s v t d)) (t (i / s)) refl)
  where
    go : (i : ℕ) → i < length d → (b : Bool) → t (i / s) ≡ b → get_or (patched s v t d) i 0 ≡ get_or (patched s w u d) i 0
    go i h true e =
        let l : i / s * s < length d = starts i s (length d) h in
        patched_hit s v t d i h e
        ∙ ap (λ (x : ℕ). get_or (be_bytes s x) (i % s) 0) (ev (i / s) l e)
        ∙ sym (patched_hit s w u d i h (sym (et (i / s) l) ∙ e))
    go i h false e =
        patched-kept s v t d i h e ∙ sym (patched-kept s w u d i h (sym (et (i / s) (starts i s (length d) h)) ∙ e))

pub patched-none : (s : ℕ) (v : ℕ → ℕ) (t : ℕ → Bool) (d : List ℕ) → ((n : ℕ) → n * s < length d → t n ≡ false) → patched s v t d ≡ d
patched-none s v t d e =
    ext_get_or 0 (patched s v t d) d (length-patched s v t d)
    (λ i h.
    let l : i < length d = omega (arith, length-patched s v t d) in
    patched-kept s v t d i l (e (i / s) (starts i s (length d) l)))

-- ---- two patches of the same values are one

pub patched-patched : (s : ℕ) (v : ℕ → ℕ) (t u r : ℕ → Bool) (d : List ℕ) → ((n : ℕ) → n * s < length d → u n ≡ true → r n ≡ true)
    → ((n : ℕ) → n * s < length d → u n ≡ false → r n ≡ t n) → patched s v u (patched s v t d) ≡ patched s v r d
patched-patched s v t u r d yes-u no-u =
    ext_get_or 0 (patched s v u e) (patched s v r d) (length-patched s v u e ∙ length-patched s v t d ∙ sym (length-patched s v r d))
    (λ i h. go i (omega (arith, length-patched s v u e)) (u (i / s)) (t (i / s)) refl refl)
  where
    e : List ℕ
    e = patched s v t d

    go : (i : ℕ) → i < length e → (a b : Bool) → u (i / s) ≡ a → t (i / s) ≡ b → get_or (patched s v u e) i 0 ≡ get_or (patched s v r d) i 0
    go i h true b p q =
        let l : i < length d = omega (arith, length-patched s v t d) in
        patched_hit s v u e i h p ∙ sym (patched_hit s v r d i l (yes-u (i / s) (starts i s (length d) l) p))
    go i h false true p q =
        let l : i < length d = omega (arith, length-patched s v t d) in
        patched-kept s v u e i h p ∙ patched_hit s v t d i l q
        ∙ sym (patched_hit s v r d i l (no-u (i / s) (starts i s (length d) l) p ∙ q))
    go i h false false p q =
        let l : i < length d = omega (arith, length-patched s v t d) in
        patched-kept s v u e i h p ∙ patched-kept s v t d i l q
        ∙ sym (patched-kept s v r d i l (no-u (i / s) (starts i s (length d) l) p ∙ q))

-- ---- a run of samples

-- m samples from sample a on are one patch
run_is_patch : (s : ℕ) (v w : ℕ → ℕ) (u : ℕ → Bool) (d : List ℕ) (a m : ℕ) → 0 < s → a * s + m * s ≤ length d
    → ((j : ℕ) → j < m → w j ≡ v (a + j)) → ((n : ℕ) → a ≤ n → n < a + m → u n ≡ true) → ((n : ℕ) → (a ≤ n → n < a + m → ⊥) → u n ≡ false)
    → over d (a * s) (values w s m) ≡ patched s v u d
run_is_patch s v w u d a m pos fits right in-u out-u =
    ext_get_or 0 (over d (a * s) (values w s m)) (patched s v u d) (same ∙ sym (length-patched s v u d))
    (λ i h. go i (omega (arith, same)) (dec_lt i (a * s)) (dec_lt i (a * s + m * s)))
  where
    L : length (values w s m) ≡ m * s
    L = length-values w s m

    room : a * s + length (values w s m) ≤ length d
    room = omega (arith, length-values w s m)

    same : length (over d (a * s) (values w s m)) ≡ length d
    same = length_over d (a * s) (values w s m) (omega (arith, length-values w s m))

    before : (i : ℕ) → i < a * s → a ≤ i / s → ⊥
    before i h l = omega (arith, mul-le-mul_right s l, div-mul-le_self i s)

    after : (i : ℕ) → a * s + m * s ≤ i → i / s < a + m → ⊥
    after i h l = omega (arith, digits_lt l (mod-lt i pos), div-add-mod' i s, add-mul a m s)

    go : (i : ℕ) → i < length d → Dec (i < a * s) → Dec (i < a * s + m * s)
        → get_or (over d (a * s) (values w s m)) i 0 ≡ get_or (patched s v u d) i 0
    go i h (yes l) e =
        get_or-over-before d (a * s) (values w s m) i 0 (omega arith) l
        ∙ sym (patched-kept s v u d i h (out-u (i / s) (λ p q. before i l p)))
    go i h (no l) (no k) =
        get_or-over-after d (a * s) (values w s m) i 0 room (omega (arith, L))
        ∙ sym (patched-kept s v u d i h (out-u (i / s) (λ p q. after i (omega arith) q)))
    go i h (no l) (yes k) =
        let lo : a ≤ i / s = (le-div_iff_mul-le pos).1 (omega arith) in
        let hi : i / s < a + m = (div-lt_iff_lt-mul pos).1 (omega (arith, add-mul a m s)) in
        let q : ℕ = i / s - a in
        let e : a + q ≡ i / s = omega arith in
        let qm : q < m = omega arith in
        let js : i % s < s = mod-lt i pos in
        let spot : a * s + (q * s + i % s) ≡ i = omega (arith, ap (λ (x : ℕ). x * s) e, add-mul a q s, div-add-mod' i s) in
        ap (λ (x : ℕ). get_or (over d (a * s) (values w s m)) x 0) (sym spot)
        ∙ get_or-over_in d (a * s) (values w s m) (q * s + i % s) 0 room (omega (arith, L, digits_lt qm js))
        ∙ get_or-values w s m q (i % s) qm js
        ∙ ap (λ (x : ℕ). get_or (be_bytes s x) (i % s) 0) (right q qm ∙ ap v e)
        ∙ sym (patched_hit s v u d i h (in-u (i / s) lo hi))

-- is n one of the m from a on
between : ℕ → ℕ → ℕ → Bool
between a m n = pick (leb a n) (ltb n (a + m)) false

between-yes : (a m n : ℕ) → a ≤ n → n < a + m → between a m n ≡ true
unfolding between
between-yes a m n h l = pick_yes _ _ (le-leb a n h) ∙ lt-ltb n (a + m) l

between-no : (a m n : ℕ) → (a ≤ n → n < a + m → ⊥) → between a m n ≡ false
unfolding between
between-no a m n out = go (dec_lt n a) (dec_lt n (a + m))
  where
    go : Dec (n < a) → Dec (n < a + m) → between a m n ≡ false
    go (yes h) l = pick_no _ _ (lt-leb a n h)
    go (no h) (no l) = pick_yes _ _ (le-leb a n (omega arith)) ∙ le-ltb n (a + m) (omega arith)
    go (no h) (yes l) = absurd (out (omega arith) l)

between-facts : (a m n : ℕ) → between a m n ≡ true → (a ≤ n) × (n < a + m)
between-facts a m n e = go (dec_lt n a) (dec_lt n (a + m))
  where
    go : Dec (n < a) → Dec (n < a + m) → (a ≤ n) × (n < a + m)
    go (no h) (yes l) = (omega arith, l)
    go (yes h) l = true_false (sym e ∙ between-no a m n (λ p q. omega arith))
    go (no h) (no l) = true_false (sym e ∙ between-no a m n (λ p q. omega arith))

-- m samples put from sample a on: a patch of those that passed before and of these
pub patched_run : (s : ℕ) (v w : ℕ → ℕ) (t u : ℕ → Bool) (d : List ℕ) (a m : ℕ) {ys zs : List ℕ} → 0 < s → a * s + m * s ≤ length d
    → ys ≡ patched s v t d → zs ≡ over ys (a * s) (values w s m) → ((j : ℕ) → j < m → w j ≡ v (a + j))
    → ((n : ℕ) → a ≤ n → n < a + m → u n ≡ true) → ((n : ℕ) → (a ≤ n → n < a + m → ⊥) → u n ≡ t n)
    → zs ≡ patched s v u d
patched_run s v w t u d a m pos fits ey ez right in-u out-u =
    ez ∙ ap (λ (l : List ℕ). over l (a * s) (values w s m)) ey
    ∙ run_is_patch s v w (between a m) (patched s v t d) a m pos (omega (arith, length-patched s v t d)) right (between-yes a m) (between-no a m)
    ∙ patched-patched s v t (between a m) u d
    (λ n l e. let f = between-facts a m n e in in-u n f.0 f.1)
    (λ n l e. out-u n (λ p q. true_false (sym (between-yes a m n p q) ∙ e)))

-- all of the first n samples
pub patched-all : (s : ℕ) (v : ℕ → ℕ) (t : ℕ → Bool) (d : List ℕ) (n : ℕ) → 0 < s → n * s ≤ length d
    → ((k : ℕ) → k < n → t k ≡ true) → ((k : ℕ) → n ≤ k → k * s < length d → t k ≡ false) → patched s v t d ≡ over d 0 (values v s n)
patched-all s v t d n pos fits yes-t no-t =
    patched_ext s v v t (between 0 n) d same (λ k l e. refl)
    ∙ sym (run_is_patch s v v (between 0 n) d 0 n pos (omega arith) (λ j l. ap v (omega arith)) (between-yes 0 n) (between-no 0 n))
    ∙ ap (λ (o : ℕ). over d o (values v s n)) (omega arith)
  where
    same : (k : ℕ) → k * s < length d → t k ≡ between 0 n k
    same k l = go (dec_lt k n)
      where
        go : Dec (k < n) → t k ≡ between 0 n k
        go (yes h) = yes-t k h ∙ sym (between-yes 0 n k (omega arith) (omega arith))
        go (no h) = no-t k (omega arith) l ∙ sym (between-no 0 n k (λ p q. omega arith))
