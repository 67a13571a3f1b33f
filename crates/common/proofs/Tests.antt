-- Laws of tests: what they tell where they pass, and tests that go through a flag.
-- Assumes nothing.
use mathlib.Core.Path.{◌≡◌, refl, sym, ◌∙◌, subst}
use mathlib.Core.Bool.{Bool, true, false, ◌&&◌}
use mathlib.Core.List.{List, [], ◌∷◌}
use Prim.Native.Nat.{ℕ, zero, suc, ◌+◌, ◌-◌, ◌*◌, ◌/◌, ◌%◌, ◌≤◌, ◌<◌}
use native.Mathlib.Nat.{div-add-mod', div-lt_iff_lt-mul, mod-lt}
use native.Mathlib.Decide.{ℕ_discrete, dec_lt}
use native.Mathlib.Numerals.{add-one}
use native.Mathlib.Omega.{arith}
use lib.Arith.{digits_lt}
use lib.ListN.{get_or}
use borrow.Author.Tests.{leb-true}
use Rattle.common.specs.Tests.{every, some, within, pick, all_below}

pub true_false : {A : Type 0} → true ≡ false → A
true_false e = absurd (let z : ◌≡◌ {A = ℕ} 0 1 = cc in omega arith)

pub pick_yes {ℓ} : {A : Type ℓ} {b : Bool} (x y : A) → b ≡ true → pick b x y ≡ x
unfolding pick
pick_yes x y e = rw e

pub pick_no {ℓ} : {A : Type ℓ} {b : Bool} (x y : A) → b ≡ false → pick b x y ≡ y
unfolding pick
pick_no x y e = rw e

-- two tests that say yes together are the same
pub both_yes : (a b : Bool) → (a ≡ true → b ≡ true) → (b ≡ true → a ≡ true) → a ≡ b
both_yes true b f h = sym (f refl)
both_yes false true f h = h refl
both_yes false false f h = refl

pub every-at : (l : List Bool) → every l ≡ true → (k : ℕ) → get_or l k true ≡ true
unfolding every
every-at [] e k = refl
every-at (true ∷ l) e zero = refl
every-at (true ∷ l) e (suc k) = every-at l e k
every-at (false ∷ l) e k = true_false (sym e)

pub every-all : (l : List Bool) → ((k : ℕ) → get_or l k true ≡ true) → every l ≡ true
unfolding every
every-all [] f = refl
every-all (true ∷ l) f = every-all l (λ k. f (suc k))
every-all (false ∷ l) f = f 0

pub every-last : (b : Bool) → b ≡ every (b ∷ [])
unfolding every
every-last true = refl
every-last false = refl

pub some-last : (b : Bool) → b ≡ some (b ∷ [])
unfolding some
some-last true = refl
some-last false = refl

pub record Within (lo hi x : ℕ) : Type 0 where
  pub low : lo ≤ x
  pub high : x ≤ hi

pub within-facts : (lo hi x : ℕ) → within lo hi x ≡ true → Within lo hi x
unfolding within
within-facts lo hi x e = let a = every-at _ e in record { low = leb-true lo x (a 0); high = leb-true x hi (a 1) }

both : (a b : Bool) → a ≡ true → b ≡ true → every (a ∷ b ∷ []) ≡ true
unfolding every
both a b e f = rw (e, f)

first-fails : (a b : Bool) → a ≡ false → every (a ∷ b ∷ []) ≡ false
unfolding every
first-fails a b e = rw e

second-fails : (a b : Bool) → b ≡ false → every (a ∷ b ∷ []) ≡ false
unfolding every
second-fails true b e = rw e
second-fails false b e = refl

pub below_at : (n : ℕ) (f : ℕ → Bool) → all_below n f ≡ true → (k : ℕ) → k < n → f k ≡ true
unfolding all_below
below_at zero f e k h = absurd (omega arith)
below_at (suc n) f e k h = go (ℕ_discrete k n) (λ l. below_at n f (every-at _ e 0) k l)
  where
    go : Dec (k ≡ n) → (k < n → f k ≡ true) → f k ≡ true
    go (yes q) r = subst (λ (x : ℕ). f x ≡ true) (sym q) (every-at _ e 1)
    go (no q) r = r (omega arith)

pub all-below : (n : ℕ) (f : ℕ → Bool) → ((k : ℕ) → k < n → f k ≡ true) → all_below n f ≡ true
unfolding all_below
all-below zero f h = refl
all-below (suc n) f h = both (all_below n f) (f n) (all-below n f (λ k l. h k (omega arith))) (h n (omega arith))

-- one more passes, as a loop's `n + 1` has it
pub below_next : (n : ℕ) (f : ℕ → Bool) → all_below n f ≡ true → f n ≡ true → all_below (n + 1) f ≡ true
unfolding all_below
below_next n f e h = rw add-one (both (all_below n f) (f n) e h)

pub below_fails : (n : ℕ) (f : ℕ → Bool) (k : ℕ) → k < n → f k ≡ false → all_below n f ≡ false
unfolding all_below
below_fails zero f k h e = absurd (omega arith)
below_fails (suc n) f k h e = go (ℕ_discrete k n) (λ l. below_fails n f k l e)
  where
    go : Dec (k ≡ n) → (k < n → all_below n f ≡ false) → every (all_below n f ∷ f n ∷ []) ≡ false
    go (yes q) r = second-fails (all_below n f) (f n) (subst (λ (x : ℕ). f x ≡ false) q e)
    go (no q) r = first-fails (all_below n f) (f n) (r (omega arith))

-- tests that agree
pub below_ext : (n : ℕ) (f h : ℕ → Bool) → ((k : ℕ) → k < n → f k ≡ h k) → all_below n f ≡ all_below n h
below_ext n f h e =
    both_yes _ _
    (λ all. all-below n h (λ k l. sym (e k l) ∙ below_at n f all k l))
    (λ all. all-below n f (λ k l. e k l ∙ below_at n h all k l))

-- where the first a pass, those after them decide
pub below_more : (a n : ℕ) (f : ℕ → Bool) → a ≤ n → all_below a f ≡ true → all_below (n - a) (λ k. f (a + k)) ≡ all_below n f
below_more a n f l t =
    both_yes _ _
    (λ all. all-below n f (λ k h. go all k h (dec_lt k a)))
    (λ all. all-below (n - a) _ (λ k h. below_at n f all (a + k) (omega arith)))
  where
    go : all_below (n - a) (λ k. f (a + k)) ≡ true → (k : ℕ) → k < n → Dec (k < a) → f k ≡ true
    go all k h (yes q) = below_at a f t k q
    go all k h (no q) = subst (λ (x : ℕ). f x ≡ true) (let e : a + (k - a) ≡ k = omega arith in e) (below_at (n - a) _ all (k - a) (omega arith))

-- and where one of the first a does not, all do not
pub below_less : (a n : ℕ) (f : ℕ → Bool) → a ≤ n → all_below a f ≡ false → all_below n f ≡ false
below_less a n f l t = fails (all_below n f) (λ all. all-below a f (λ k h. below_at n f all k (omega arith)))
  where
    fails : (b : Bool) → (b ≡ true → all_below a f ≡ true) → b ≡ false
    fails true h = sym (h refl) ∙ t
    fails false h = refl

-- the first a, and those after them
pub below-and : (a n : ℕ) (f : ℕ → Bool) → a ≤ n → (all_below a f && all_below (n - a) (λ k. f (a + k))) ≡ all_below n f
below-and a n f l = go (all_below a f) refl
  where
    go : (b : Bool) → all_below a f ≡ b → (b && all_below (n - a) (λ k. f (a + k))) ≡ all_below n f
    go true t = below_more a n f l t
    go false t = sym (below_less a n f l t)

-- n by n
pub below-nested : (a n : ℕ) (f : ℕ → Bool) → all_below a (λ q. all_below n (λ i. f (q * n + i))) ≡ all_below (a * n) f
below-nested a n f =
    both_yes _ _
    (λ all. all-below (a * n) f (λ k h. one all k h (positive k n h)))
    (λ all. all-below a _ (λ q h. all-below n _ (λ i l. below_at (a * n) f all (q * n + i) (digits_lt h l))))
  where
    positive : (k m : ℕ) → k < a * m → 0 < m
    positive k zero h = absurd (omega arith)
    positive k (suc m) h = omega arith

    one : all_below a (λ q. all_below n (λ i. f (q * n + i))) ≡ true → (k : ℕ) → k < a * n → 0 < n → f k ≡ true
    one all k h pos =
        subst (λ (x : ℕ). f x ≡ true) (div-add-mod' k n)
        (below_at n _ (below_at a _ all (k / n) ((div-lt_iff_lt-mul pos).1 h)) (k % n) (mod-lt k pos))

-- by rows, or by columns
pub below-swap : (a n : ℕ) (f : ℕ → ℕ → Bool) → all_below a (λ i. all_below n (f i)) ≡ all_below n (λ q. all_below a (λ i. f i q))
below-swap a n f =
    both_yes _ _
    (λ all. all-below n _ (λ q h. all-below a _ (λ i l. below_at n _ (below_at a _ all i l) q h)))
    (λ all. all-below a _ (λ i l. all-below n _ (λ q h. below_at a _ (below_at n _ all q h) i l)))
