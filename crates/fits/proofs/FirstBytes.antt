-- Samples that have no bit above their width: the laws of the loops that ask.
-- Assumes nothing.
use Prim.Native.Nat.{ℕ, zero, suc, ◌+◌, ◌-◌, ◌*◌, ◌/◌, ◌%◌, ◌^◌, max, ◌≤◌, ◌<◌}
use mathlib.Core.Path.{◌≡◌, refl, sym, ap, ap₂, ◌∙◌, subst, subst₂}
use mathlib.Core.Bool.{Bool, true, false, ◌&&◌}
use mathlib.Core.List.{List, [], ◌∷◌}
use native.Mathlib.Decide.{ℕ_discrete, dec_lt}
use native.Mathlib.Nat.{zero-mul, suc-mul, div-eq_of_eq-mul_left, le-div_iff_mul-le, mul_assoc, add-mul, mul-le-mul_right, mod-lt, div-mul-le_self, div-add-mod', zero-add, add-zero}
use native.Mathlib.Omega.{arith}
use borrow.Author.Tests.{ltb-true, lt-ltb}
use denote.Param.Members.{Mut}
use denote.Ref.{Bor}
use lib.Arith.{digits_div, digits_lt}
use lib.Dec.{ltb}
use lib.ListN.{length, get_or, take, drop, length-take, length-drop}
use lib.Pow.{pow-add}
use lib.Seq.{get_or-take, get_or-drop, drop-drop}
use Rattle.std.specs.Bool.{MatchBool, IsTrue}
use Rattle.std.specs.Fn.{Called}
use Rattle.std.specs.Iterator.Runs.{Run, IsChunksExactRun, AllItemsGive, AnyItemGives, CallKeepsClosure}
use Rattle.std.specs.List.{IsSubsliceAt}
use Rattle.std.specs.Simd.{first_chunks}
use Rattle.std.specs.Option.{IfSome, IsSomeAnd, option_map}
use Rattle.std.proofs.Common.{Option, Some, None}
use Rattle.common.specs.Tests.{all_below}
use Rattle.common.proofs.Tests.{both_yes, below_at, all-below, below_fails, below_ext, below-and, below-nested, below-swap}
use Rattle.bits.specs.Bits.{be_at, bits_at, Bytes}
use Rattle.fits.specs.Internal.Rows.{first_bytes_below, greatest_of_four}
use Rattle.bits.proofs.Bits.{bits_at_lt, bits_at-add, within}
use Rattle.bits.proofs.BigEndian.{bits_at-bytes, be_at_lt}

-- ---- samples one after another

-- what `chunks_exact(size).all(..)` answers, where the closure asks a sample's first byte
module _ {S F : Type 0} {steps : S → Option (Bor (List ℕ)) → S → Type 0} (p : Run steps) (g : Mut F (Bor (List ℕ) × Unit {0}) Bool) (f : F) (xs : List ℕ) (size limit : ℕ) where
  abbrev Asks : Type 0
  Asks = (x : Bor (List ℕ)) (b : Bool) (q : F) → Called g f (x, tt) b q → (q ≡ f) × (b ≡ ltb (get_or x.now 0 0) limit)

  keeps : Asks → CallKeepsClosure g f
  keeps asks a b q called = (asks a.0 b q called).0

  some : {A : Type 0} (o : Option A) (y : A) (P : A → Type 0) → option_map (λ z. z) o ≡ Some y → IfSome o P → IsSomeAnd o P
  some None y P e h = cc
  some (Some x) y P e h = h

  any : {A : Type 0} (l : List A) → 0 < length l → A
  any [] h = absurd (omega arith)
  any (x ∷ l) h = x

  -- sample k is there
  there : (P : Bor (List ℕ) → Type 0) (k : ℕ) → k < p.len → IfSome (p.at k) P → IsSomeAnd (p.at k) P
  there P k h = let d = any p.items (omega (arith, p.long)) in some (p.at k) _ P (p.reads k d h)

  -- what the closure answered at sample k
  told : (k : ℕ) (b : Bool) (o : Option (Bor (List ℕ))) → 0 < size → Asks
      → IfSome o (λ x. (length x.now ≡ size) × (k * size + size ≤ length xs) × IsSubsliceAt size xs (k * size) x.now)
      → IsSomeAnd o (λ x. Called g f (x, tt) b f) → b ≡ ltb (get_or xs (k * size) 0) limit
  told k b None h asks is said = absurd said
  told k b (Some x) h asks is said =
      (asks x b f said).1 ∙ ap (λ (y : ℕ). ltb y limit) (is.2.2 0 0 h ∙ ap (λ (i : ℕ). get_or xs i 0) (add-zero (k * size)))

  answer : (r : Bool) → 0 < size → IsChunksExactRun p size xs → MatchBool r (IsTrue p.whole × AllItemsGive p g f true) (AnyItemGives p g f false) → Asks
      → r ≡ first_bytes_below xs size limit
  unfolding first_bytes_below
  answer true h run all asks =
      sym (all-below (length xs / size) _ (λ k l.
      sym (told k true (p.at k) h asks (run.2 k) (there _ k (rw (run.1 all.0) l) (all.1 (keeps asks) k)))))
  answer false h run fails asks =
      let k = fails (keeps asks) in
      let l : p.len ≤ length xs / size = (le-div_iff_mul-le h).1 run.0 in
      sym (below_fails (length xs / size) _ k.0 (omega (arith, k.1)) (sym (told k.0 false (p.at k.0) h asks (run.2 k.0) k.2)))

  pub chunks_below : (r : Bool) {n : ℕ} {ys : List ℕ} → 0 < size → n ≡ size → ys ≡ xs → (0 < n → IsChunksExactRun p n ys)
      → MatchBool r (IsTrue p.whole × AllItemsGive p g f true) (AnyItemGives p g f false) → Asks → r ≡ first_bytes_below xs size limit
  chunks_below r h e d run said asks = answer r h (subst₂ (IsChunksExactRun p) e d (run (rw e h))) said asks

-- ---- the greatest byte at each place of four rows

-- the greatest of f 0 to f (n - 1)
unfoldable pub greatest : (ℕ → ℕ) → ℕ → ℕ
greatest f zero = 0
greatest f (suc n) = max (greatest f n) (f n)

pub greatest_lt : (f : ℕ → ℕ) (n limit : ℕ) → 0 < limit → ((k : ℕ) → k < n → f k < limit) → greatest f n < limit
unfolding greatest
greatest_lt f zero limit h l = h
greatest_lt f (suc n) limit h l = omega (arith, greatest_lt f n limit h (λ k q. l k (omega arith)), l n (omega arith))

pub lt_greatest : (f : ℕ → ℕ) (n limit : ℕ) → greatest f n < limit → (k : ℕ) → k < n → f k < limit
unfolding greatest
lt_greatest f zero limit h k l = absurd (omega arith)
lt_greatest f (suc n) limit h k l = go (ℕ_discrete k n) (lt_greatest f n limit (omega arith) k) (omega arith)
  where
    go : Dec (k ≡ n) → (k < n → f k < limit) → f n < limit → f k < limit
    go (yes q) r m = subst (λ (i : ℕ). f i < limit) (sym q) m
    go (no q) r m = r (omega arith)

-- it is below the limit exactly when all are
greatest_tells : (f : ℕ → ℕ) (n limit : ℕ) → 0 < limit → ltb (greatest f n) limit ≡ all_below n (λ q. ltb (f q) limit)
greatest_tells f n limit h =
    both_yes _ _
    (λ lt. all-below n _ (λ k l. lt-ltb _ _ (lt_greatest f n limit (ltb-true _ _ lt) k l)))
    (λ all. lt-ltb _ _ (greatest_lt f n limit h (λ k l. ltb-true _ _ (below_at n _ all k l))))

four_is : (xs : List ℕ) (j : ℕ) → greatest_of_four xs j ≡ greatest (λ r. get_or xs (r * 128 + j) 0) 4
unfolding greatest_of_four greatest
four_is xs j =
    let e : get_or xs (0 + j) 0 ≡ get_or xs j 0 = ap (λ (i : ℕ). get_or xs i 0) (zero-add j) in
    omega arith

four_tells : (xs : List ℕ) (j limit : ℕ) → 0 < limit → ltb (greatest_of_four xs j) limit ≡ all_below 4 (λ r. ltb (get_or xs (r * 128 + j) 0) limit)
four_tells xs j limit h = ap (λ (x : ℕ). ltb x limit) (four_is xs j) ∙ greatest_tells (λ r. get_or xs (r * 128 + j) 0) 4 limit h

-- ---- rows of whole samples

pub samples_of : (xs : List ℕ) (size limit : ℕ) {n : ℕ} → length xs / size ≡ n → first_bytes_below xs size limit ≡ all_below n (λ k. ltb (get_or xs (k * size) 0) limit)
unfolding first_bytes_below
samples_of xs size limit e = ap (λ (n : ℕ). all_below n (λ k. ltb (get_or xs (k * size) 0) limit)) e

-- n bytes hold n / size samples, with none cut
whole : (n size : ℕ) → n % size ≡ 0 → n / size * size ≡ n
whole n size e = omega (arith, div-add-mod' n size)

-- the first byte of sample i of row q, where a row of n bytes holds in_row samples
first_byte_lem : (size in_row q i n : ℕ) → in_row * size ≡ n → (q * in_row + i) * size ≡ q * n + i * size
first_byte_lem size in_row q i n e = add-mul (q * in_row) i size ∙ ap (λ (x : ℕ). x + i * size) (mul_assoc q in_row size ∙ ap (λ (x : ℕ). q * x) e)

-- the samples after the first k
after : (n size k : ℕ) → 0 < size → k ≤ n / size → (n - k * size) / size ≡ n / size - k
after n size k pos l =
    let e : (n / size - k) * size + k * size ≡ n / size * size
    = sym (add-mul (n / size - k) k size) ∙ ap (λ (x : ℕ). x * size) (let q : n / size - k + k ≡ n / size = omega arith in q) in
    let f : n - k * size ≡ (n / size - k) * size + n % size = omega (arith, e, div-add-mod' n size) in
    ap (λ (x : ℕ). x / size) f ∙ digits_div (n / size - k) (mod-lt n pos)

get_or-first_chunks : {X : Type 0} (n k q : ℕ) (xs : List X) → q < k → get_or (first_chunks n k xs) q [] ≡ take n (drop (q * n) xs)
get_or-first_chunks n zero q xs h = absurd (omega arith)
get_or-first_chunks n (suc k) zero xs h = ap (λ (i : ℕ). take n (drop i xs)) (sym (zero-mul n))
get_or-first_chunks n (suc k) (suc q) xs h =
    get_or-first_chunks n k q (drop n xs) (omega arith) ∙ ap (take n) (drop-drop (q * n) n xs ∙ ap (λ (i : ℕ). drop i xs) (omega (arith, suc-mul q n)))

module _ (size limit : ℕ) (pos : 0 < size) (cut : 128 % size ≡ 0) (some : 0 < limit) where
  -- four rows of samples
  in_four : 4 * (128 / size) * size ≡ 512
  in_four = mul_assoc 4 (128 / size) size ∙ ap (λ (x : ℕ). 4 * x) (whole 128 size cut)

  four_rows : (xs : List ℕ) → length xs ≡ 512 → first_bytes_below xs size limit ≡ all_below (128 / size) (λ i. ltb (greatest_of_four xs (i * size)) limit)
  four_rows xs l =
      samples_of xs size limit (ap (λ (n : ℕ). n / size) l ∙ div-eq_of_eq-mul_left pos (sym in_four))
      ∙ sym (below-nested 4 (128 / size) (λ k. ltb (get_or xs (k * size) 0) limit))
      ∙ sym (below-swap (128 / size) 4 (λ i r. ltb (get_or xs ((r * (128 / size) + i) * size) 0) limit))
      ∙ below_ext (128 / size) _ _ (λ i h.
      below_ext 4 _ _ (λ r k. ap (λ (x : ℕ). ltb (get_or xs x 0) limit) (first_byte_lem size (128 / size) r i 128 (whole 128 size cut)))
      ∙ sym (four_tells xs (i * size) limit some))

  -- each place of `tops` has the greatest byte there of all rows
  pub tops_tell : (fours : List (List ℕ)) (tops : List ℕ) → length tops ≡ 128 → ((q : ℕ) → q < length fours → length (get_or fours q []) ≡ 512)
      → ((j : ℕ) → j < 128 → get_or tops j 0 ≡ greatest (λ q. greatest_of_four (get_or fours q []) j) (length fours))
      → first_bytes_below tops size limit ≡ all_below (length fours) (λ q. first_bytes_below (get_or fours q []) size limit)
  tops_tell fours tops l ls t =
      samples_of tops size limit (ap (λ (n : ℕ). n / size) l)
      ∙ below_ext (128 / size) _ _ (λ i h.
      ap (λ (x : ℕ). ltb x limit) (t (i * size) (omega (arith, within i (128 / size) size h, whole 128 size cut)))
      ∙ greatest_tells (λ q. greatest_of_four (get_or fours q []) (i * size)) (length fours) limit some)
      ∙ below-swap (128 / size) (length fours) (λ i q. ltb (greatest_of_four (get_or fours q []) (i * size)) limit)
      ∙ below_ext (length fours) _ _ (λ q h. sym (four_rows (get_or fours q []) (ls q h)))

  -- what `as_chunks` cuts off, and the rest
  chunks_tell : (xs : List ℕ) → (all_below (length xs / 512) (λ q. first_bytes_below (get_or (first_chunks 512 (length xs / 512) xs) q []) size limit)
      && first_bytes_below (drop (length xs / 512 * 512) xs) size limit) ≡ first_bytes_below xs size limit
  chunks_tell xs =
      ap₂ ◌&&◌
      (below_ext m _ _ (λ q h. chunk q h) ∙ below-nested m (4 * (128 / size)) (λ k. ltb (get_or xs (k * size) 0) limit))
      rest
      ∙ below-and (m * (4 * (128 / size))) (length xs / size) (λ k. ltb (get_or xs (k * size) 0) limit) before
      ∙ sym (samples_of xs size limit refl)
    where
      m : ℕ
      m = length xs / 512

      fill : m * (4 * (128 / size)) * size ≡ m * 512
      fill = mul_assoc m (4 * (128 / size)) size ∙ ap (λ (x : ℕ). m * x) in_four

      before : m * (4 * (128 / size)) ≤ length xs / size
      before = (le-div_iff_mul-le pos).1 (omega (arith, fill, div-mul-le_self (length xs) 512))

      chunk : (q : ℕ) → q < m → first_bytes_below (get_or (first_chunks 512 m xs) q []) size limit
          ≡ all_below (4 * (128 / size)) (λ i. ltb (get_or xs ((q * (4 * (128 / size)) + i) * size) 0) limit)
      chunk q h =
          let l : length (take 512 (drop (q * 512) xs)) ≡ 512 = simp (length-take, length-drop) (omega (arith, div-mul-le_self (length xs) 512)) in
          ap (λ (ys : List ℕ). first_bytes_below ys size limit) (get_or-first_chunks 512 m q xs h)
          ∙ samples_of _ size limit (ap (λ (n : ℕ). n / size) l ∙ div-eq_of_eq-mul_left pos (sym in_four))
          ∙ below_ext _ _ _ (λ i k. ap (λ (x : ℕ). ltb x limit)
          (get_or-take 512 (drop (q * 512) xs) (i * size) 0 (omega (arith, within i (4 * (128 / size)) size k, in_four))
          ∙ get_or-drop (q * 512) xs (i * size) 0 ∙ ap (λ (x : ℕ). get_or xs x 0) (sym (first_byte_lem size (4 * (128 / size)) q i 512 in_four))))

      rest : first_bytes_below (drop (m * 512) xs) size limit
          ≡ all_below (length xs / size - m * (4 * (128 / size))) (λ k. ltb (get_or xs ((m * (4 * (128 / size)) + k) * size) 0) limit)
      rest =
          samples_of _ size limit (ap (λ (n : ℕ). n / size) (length-drop (m * 512) xs ∙ ap (λ (x : ℕ). length xs - x) (sym fill)) ∙ after (length xs) size (m * (4 * (128 / size))) pos before)
          ∙ below_ext _ _ _ (λ k h. ap (λ (x : ℕ). ltb x limit)
          (get_or-drop (m * 512) xs (k * size) 0 ∙ ap (λ (x : ℕ). get_or xs x 0) (sym (first_byte_lem size (4 * (128 / size)) m k 512 in_four))))

  -- the same, where `told` is what was told of the fours
  pub fours_tell : (xs : List ℕ) (told : Bool) {fours : List (List ℕ)} {rest : List ℕ} → length fours ≡ length xs / 512 → fours ≡ first_chunks 512 (length xs / 512) xs
      → rest ≡ drop (length xs / 512 * 512) xs → told ≡ all_below (length fours) (λ q. first_bytes_below (get_or fours q []) size limit)
      → (told && first_bytes_below rest size limit) ≡ first_bytes_below xs size limit
  fours_tell xs told l f r t = rw (t, l, f, r) (chunks_tell xs)

-- ---- a sample and its first byte

first_of : (xs : List ℕ) (p : ℕ) → Bytes xs → bits_at xs (8 * p) 8 ≡ get_or xs p 0
unfolding be_at
first_of xs p b = bits_at-bytes xs p 1 b ∙ zero-add _ ∙ ap (λ (x : ℕ). get_or xs x 0) (add-zero p)

high_lt : (a r x y : ℕ) → a * y + r < x * y → a < x
high_lt a r x y h = go (dec_lt a x)
  where
    go : Dec (a < x) → a < x
    go (yes l) = l
    go (no n) = absurd (omega (arith, mul-le-mul_right y (let l : x ≤ a = omega arith in l)))

-- a sample is below 2 ^ width exactly when its first byte is below the limit
pub first_says : (xs : List ℕ) (p size width : ℕ) → Bytes xs → 0 < size → 8 * size < width + 8
    → ltb (get_or xs p 0) (2 ^ (width + 8 - 8 * size)) ≡ ltb (be_at xs p size) (2 ^ width)
first_says xs p size width b h l =
    both_yes _ _
    (λ all. lt-ltb _ _ (subst₂ ◌<◌ (sym split) (sym power) (digits_lt (ltb-true _ _ all) (bits_at_lt xs (8 * p + 8) m))))
    (λ all. lt-ltb _ _ (high_lt _ _ _ (2 ^ m) (subst₂ ◌<◌ split power (ltb-true _ _ all))))
  where
    m : ℕ
    m = 8 * (size - 1)

    split : be_at xs p size ≡ get_or xs p 0 * 2 ^ m + bits_at xs (8 * p + 8) m
    split =
        sym (bits_at-bytes xs p size b)
        ∙ ap (bits_at xs (8 * p)) (let e : 8 * size ≡ 8 + m = omega arith in e)
        ∙ bits_at-add xs (8 * p) 8 m
        ∙ ap (λ (x : ℕ). x * 2 ^ m + bits_at xs (8 * p + 8) m) (first_of xs p b)

    power : 2 ^ width ≡ 2 ^ (width + 8 - 8 * size) * 2 ^ m
    power = ap (λ (x : ℕ). 2 ^ x) (let e : width ≡ width + 8 - 8 * size + m = omega arith in e) ∙ pow-add 2 (width + 8 - 8 * size) m

-- samples that fill their bytes fit
pub whole-fit : (xs : List ℕ) (n size width : ℕ) → Bytes xs → width ≡ 8 * size → all_below n (λ k. ltb (be_at xs (k * size) size) (2 ^ width)) ≡ true
whole-fit xs n size width b e =
    all-below n _ (λ k l. lt-ltb _ _ (subst (λ (x : ℕ). be_at xs (k * size) size < 2 ^ x) (sym e) (be_at_lt xs (k * size) size b)))

-- the first bytes tell whether samples fit
pub first_tell : (xs : List ℕ) (n size width : ℕ) → Bytes xs → 0 < size → 8 * size < width + 8
    → all_below n (λ k. ltb (get_or xs (k * size) 0) (2 ^ (width + 8 - 8 * size))) ≡ all_below n (λ k. ltb (be_at xs (k * size) size) (2 ^ width))
first_tell xs n size width b h l = below_ext n _ _ (λ k q. first_says xs (k * size) size width b h l)
