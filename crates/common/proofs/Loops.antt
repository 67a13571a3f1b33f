-- What a turn of a loop brings about, and two and three loops inside each other.
-- Assumes nothing.
use Prim.Native.Nat.{ℕ, zero, suc, ◌<◌}
use mathlib.Core.Path.{◌≡◌, sym, subst}
use mathlib.Core.Logic.{◌≢◌}
use native.Mathlib.Omega.{arith}
use native.Mathlib.Decide.{ℕ_discrete}
use Rattle.common.specs.Turns.{iter}
use Rattle.common.proofs.Turns.{iter_keep}

-- what turn k brings about, given what every turn keeps, and every other turn keeps
pub iter_hit : {A : Type 0} (P Q : A → Type 0) (n : ℕ) (f : ℕ → A → A) (a : A) (k : ℕ) → k < n
    → ((j : ℕ) → j < n → (x : A) → P x → P (f j x))
    → ((x : A) → P x → Q (f k x))
    → ((j : ℕ) → j < n → j ≢ k → (x : A) → Q x → Q (f j x))
    → P a → Q (iter n f a)
unfolding iter
iter_hit P Q zero f a k h s hit keep p = absurd (omega arith)
iter_hit P Q (suc n) f a k h s hit keep p =
    last (ℕ_discrete n k) (λ ne. iter_hit P Q n f a k (omega arith) (λ j l. s j (omega arith)) hit (λ j l. keep j (omega arith)) p)
  where
    last : Dec (n ≡ k) → ((n ≢ k) → Q (iter n f a)) → Q (f n (iter n f a))
    last (yes e) q =
        subst (λ (m : ℕ). Q (f m (iter n f a))) (sym e) (hit (iter n f a) (iter_keep P n f a (λ j l. s j (omega arith)) p))
    last (no ne) q = keep n (omega arith) ne (iter n f a) (q ne)

-- the same where turn k alone may end what held before it
pub iter_once : {A : Type 0} (P Q : A → Type 0) (n : ℕ) (f : ℕ → A → A) (a : A) (k : ℕ) → k < n
    → ((j : ℕ) → j < n → j ≢ k → (x : A) → P x → P (f j x))
    → ((x : A) → P x → Q (f k x))
    → ((j : ℕ) → j < n → j ≢ k → (x : A) → Q x → Q (f j x))
    → P a → Q (iter n f a)
unfolding iter
iter_once P Q zero f a k h s hit keep p = absurd (omega arith)
iter_once P Q (suc n) f a k h s hit keep p =
    last (ℕ_discrete n k)
    (λ ne. iter_once P Q n f a k (omega arith) (λ j l. s j (omega arith)) hit (λ j l. keep j (omega arith)) p)
  where
    last : Dec (n ≡ k) → ((n ≢ k) → Q (iter n f a)) → Q (f n (iter n f a))
    last (yes e) q =
        subst (λ (m : ℕ). Q (f m (iter n f a))) (sym e)
        (hit (iter n f a) (iter_keep P n f a (λ j l. s j (omega arith) (λ d. omega arith)) p))
    last (no ne) q = keep n (omega arith) ne (iter n f a) (q ne)

-- two loops, one inside the other
abbrev pub iter2 : {A : Type 0} → ℕ → ℕ → (ℕ → ℕ → A → A) → A → A
iter2 l m f a = iter l (λ i x. iter m (λ j y. f i j y) x) a

pub iter2_keep : {A : Type 0} (P : A → Type 0) (l m : ℕ) (f : ℕ → ℕ → A → A) (a : A)
    → ((i j : ℕ) → i < l → j < m → (x : A) → P x → P (f i j x)) → P a → P (iter2 l m f a)
iter2_keep P l m f a s p =
    iter_keep P l _ a (λ i hi x px. iter_keep P m _ x (λ j hj y py. s i j hi hj y py) px) p

pub iter2_once : {A : Type 0} (P Q : A → Type 0) (l m : ℕ) (f : ℕ → ℕ → A → A) (a : A) (i j : ℕ) → i < l → j < m
    → ((i' j' : ℕ) → i' < l → j' < m → (i' ≡ i → j' ≡ j → ⊥) → (x : A) → P x → P (f i' j' x))
    → ((x : A) → P x → Q (f i j x))
    → ((i' j' : ℕ) → i' < l → j' < m → (i' ≡ i → j' ≡ j → ⊥) → (x : A) → Q x → Q (f i' j' x))
    → P a → Q (iter2 l m f a)
iter2_once P Q l m f a i j hi hj before hit keep p =
    iter_once P Q l _ a i hi
    (λ i' hi' ne x px. iter_keep P m _ x (λ j' hj' y py. before i' j' hi' hj' (λ e _. ne e) y py) px)
    (λ x px. iter_once P Q m _ x j hj (λ j' hj' ne y py. before i j' hi hj' (λ _ e. ne e) y py) hit
    (λ j' hj' ne y qy. keep i j' hi hj' (λ _ e. ne e) y qy) px)
    (λ i' hi' ne x qx. iter_keep Q m _ x (λ j' hj' y qy. keep i' j' hi' hj' (λ e _. ne e) y qy) qx) p

-- three loops, each inside the one before
abbrev pub iter3 : {A : Type 0} → ℕ → ℕ → ℕ → (ℕ → ℕ → ℕ → A → A) → A → A
iter3 l m n f a = iter l (λ i x. iter m (λ j y. iter n (λ k z. f i j k z) y) x) a

pub iter3_keep : {A : Type 0} (P : A → Type 0) (l m n : ℕ) (f : ℕ → ℕ → ℕ → A → A) (a : A)
    → ((i j k : ℕ) → i < l → j < m → k < n → (x : A) → P x → P (f i j k x)) → P a → P (iter3 l m n f a)
iter3_keep P l m n f a s p =
    iter_keep P l _ a (λ i hi x px. iter_keep P m _ x (λ j hj y py. iter_keep P n _ y (λ k hk z pz. s i j k hi hj hk z pz) py) px) p

pub iter3_hit : {A : Type 0} (P Q : A → Type 0) (l m n : ℕ) (f : ℕ → ℕ → ℕ → A → A) (a : A) (i j k : ℕ) → i < l → j < m → k < n
    → ((i j k : ℕ) → i < l → j < m → k < n → (x : A) → P x → P (f i j k x))
    → ((x : A) → P x → Q (f i j k x))
    → ((i' j' k' : ℕ) → i' < l → j' < m → k' < n → (i' ≡ i → j' ≡ j → k' ≡ k → ⊥) → (x : A) → Q x → Q (f i' j' k' x))
    → P a → Q (iter3 l m n f a)
iter3_hit P Q l m n f a i j k hi hj hk s hit keep p =
    iter_hit P Q l _ a i hi
    (λ i' hi' x px. iter_keep P m _ x (λ j' hj' y py. iter_keep P n _ y (λ k' hk' z pz. s i' j' k' hi' hj' hk' z pz) py) px)
    (λ x px. iter_hit P Q m _ x j hj
    (λ j' hj' y py. iter_keep P n _ y (λ k' hk' z pz. s i j' k' hi hj' hk' z pz) py)
    (λ y py. iter_hit P Q n _ y k hk (λ k' hk' z pz. s i j k' hi hj hk' z pz) hit
    (λ k' hk' ne z qz. keep i j k' hi hj hk' (λ e₁ e₂ e₃. ne e₃) z qz) py)
    (λ j' hj' ne y qy. iter_keep Q n _ y (λ k' hk' z qz. keep i j' k' hi hj' hk' (λ e₁ e₂ e₃. ne e₂) z qz) qy) px)
    (λ i' hi' ne x qx. iter_keep Q m _ x
    (λ j' hj' y qy. iter_keep Q n _ y (λ k' hk' z qz. keep i' j' k' hi' hj' hk' (λ e₁ e₂ e₃. ne e₁) z qz) qy) qx) p
