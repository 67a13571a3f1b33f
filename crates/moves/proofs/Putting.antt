-- Laws of samples that are put one after another, for any target: what some puts do is told by the samples alone, and
-- not by their order.
-- Assumes nothing.
use Prim.Native.Nat.{ℕ, ◌+◌, ◌<◌}
use mathlib.Core.Path.{◌≡◌, refl, sym, ap, ◌∙◌}
use mathlib.Core.Logic.{◌≢◌, ◌⊎◌, inl, inr, ⊎_elim}
use mathlib.Core.List.{List}
use native.Mathlib.Omega.{arith}
use native.Mathlib.Decide.{ℕ_discrete, dec_lt}
use lib.ListN.{length}
use Rattle.common.specs.Turns.{iter}
use Rattle.common.proofs.Turns.{iter_steps}
use Rattle.moves.specs.Internal.Puts.{Samples, InRow, Target, Among, Holds, Puts}

-- two samples that share a unit agree on it
abbrev pub Agree : Target → Type 0
Agree t =
    (b r c i b' r' c' i' : ℕ) → Among t b r c → Among t b' r' c' → i < t.wide → i' < t.wide
    → t.at b r c + i ≡ t.at b' r' c' + i' → t.value b r c i ≡ t.value b' r' c' i'

-- the samples of `all` that come before turn m, and those of turn m
abbrev pub Before : Samples → (ℕ → ℕ → ℕ → ℕ) → ℕ → Samples
Before all turn m b r c = all b r c × (turn b r c < m)

abbrev pub AtTurn : Samples → (ℕ → ℕ → ℕ → ℕ) → ℕ → Samples
AtTurn all turn m b r c = all b r c × (turn b r c ≡ m)

module _ (t : Target) where
  pub puts_none : {some : Samples} (xs : List ℕ) → ((b r c : ℕ) → some b r c → ⊥) → Puts t some xs xs
  puts_none xs none =
      record {
        size = refl;
        kept = λ k. k;
        put = λ b r c a s. absurd (none b r c s);
        stays = λ b r c a h. h;
        free = λ p f. refl;
      }

  pub puts_less : {some less : Samples} {xs ys : List ℕ} → Puts t some xs ys
      → ((b r c : ℕ) → Among t b r c → less b r c → some b r c) → Puts t less xs ys
  puts_less p h =
      record {
        size = p.size;
        kept = p.kept;
        put = λ b r c a l. p.put b r c a (h b r c a l);
        stays = p.stays;
        free
            = p.free;
      }

  -- some samples and then others
  pub puts_then : {some more all : Samples} {xs ys zs : List ℕ} → Puts t some xs ys → Puts t more ys zs
      → ((b r c : ℕ) → Among t b r c → all b r c → some b r c ⊎ more b r c) → Puts t all xs zs
  puts_then p q split =
      record {
        size = q.size ∙ p.size;
        kept = λ k. q.kept (p.kept k);
        put = λ b r c a h. ⊎_elim (λ s. q.stays b r c a (p.put b r c a s)) (q.put b r c a) (split b r c a h);
        stays = λ b r c a h. q.stays b r c a (p.stays b r c a h);
        free = λ p' f. q.free p' f ∙ p.free p' f;
      }

  -- one more turn of a loop
  pub puts_turn : {all : Samples} {turn : ℕ → ℕ → ℕ → ℕ} (m : ℕ) {xs ys zs : List ℕ} → Puts t (Before all turn m) xs ys
      → Puts t (AtTurn all turn m) ys zs → Puts t (Before all turn (m + 1)) xs zs
  puts_turn {all} {turn} m p q = puts_then p q (λ b r c a h. go b r c h (dec_lt (turn b r c) m))
    where
      go : (b r c : ℕ) → Before all turn (m + 1) b r c → Dec (turn b r c < m) → Before all turn m b r c ⊎ AtTurn all
          turn m b r c
      go b r c h (yes l) = inl (h.0, l)
      go b r c h (no l) = inr (h.0, omega arith)

  -- all turns of a loop
  pub puts_turns : (all : Samples) (turn : ℕ → ℕ → ℕ → ℕ) (n : ℕ) (f : ℕ → List ℕ → List ℕ) (xs : List ℕ)
      → ((m : ℕ) → m < n → (ys : List ℕ) → length ys ≡ length xs → (t.keeps xs → t.keeps ys)
      → Puts t (AtTurn all turn m) ys (f m ys))
      → ((b r c : ℕ) → Among t b r c → all b r c → turn b r c < n) → Puts t all xs (iter n f xs)
  puts_turns all turn n f xs step last =
      puts_less
      (iter_steps (λ m ys. Puts t (Before all turn m) xs ys) n f xs
      (λ m l ys p. puts_turn m p (step m l ys p.size p.kept))
      (puts_none xs (λ b r c h. omega arith)))
      (λ b r c a h. (h, last b r c a h))

  -- n samples put, the x-th being sample (b x, r x, c x)
  pub puts_run : {some : Samples} {xs ys : List ℕ} → Agree t → (n : ℕ) (b r c : ℕ → ℕ) → length ys ≡ length xs
      → (t.keeps xs → t.keeps ys)
      → ((x : ℕ) → x < n → Among t (b x) (r x) (c x)) → ((x : ℕ) → x < n → Holds t ys (b x) (r x) (c x))
      → ((p : ℕ) → ((x i : ℕ) → x < n → i < t.wide → p ≢ t.at (b x) (r x) (c x) + i) → t.unit ys p ≡ t.unit xs p)
      → ((b' r' c' : ℕ) → Among t b' r' c' → some b' r' c' → (x : ℕ) × (x < n) × (b' ≡ b x) × (r' ≡ r x) × (c' ≡ c x))
      → Puts t some xs ys
  puts_run {xs = xs} {ys = ys} agree n b r c size kept among hit other run =
      record {
        size = size;
        kept = kept;
        put = λ b' r' c' a s. let q = run b' r' c' a s in moved b' r' c' q.0 q.2 q.3 q.4
            (hit q.0 q.1);
        stays = λ b' r' c' a h i l. stays b' r' c' a h i l (ℕ_discrete _ _);
        free = λ p f. other p (λ x i l m. f _ _ _ i (among x l) m);
      }
    where
      moved : (b' r' c' x : ℕ) → b' ≡ b x → r' ≡ r x → c' ≡ c x → Holds t ys (b x) (r x) (c x) → Holds t ys b' r' c'
      moved b' r' c' x eb er ec h = rw (eb, er, ec) h

      stays : (b' r' c' : ℕ) → Among t b' r' c' → Holds t xs b' r' c' → (i : ℕ) → i < t.wide
          → Dec (t.unit ys (t.at b' r' c' + i) ≡ t.value b' r' c' i) → t.unit ys (t.at b' r' c' + i)
          ≡ t.value b' r' c' i
      stays b' r' c' a h i l (yes e) = e
      stays b' r' c' a h i l (no ne) =
          other _ (λ x j m k e.
          ne (ap (t.unit ys) e ∙ hit x m j k ∙ sym (agree b' r' c' i (b x) (r x) (c x) j a (among x m) l k e))) ∙ h i l

  -- a row's samples and then those after them
  pub row_then : (b r c n m : ℕ) {xs ys zs : List ℕ} → Puts t (InRow b r c n) xs ys → Puts t (InRow b r (c + n) m) ys zs
      → Puts t (InRow b r c (n + m)) xs zs
  row_then b r c n m p q = puts_then p q (λ b' r' c' a h. go b' r' c' h (dec_lt c' (c + n)))
    where
      go : (b' r' c' : ℕ) → InRow b r c (n + m) b' r' c' → Dec (c' < c + n) → InRow b r c n b' r' c' ⊎ InRow b r
          (c + n) m b' r' c'
      go b' r' c' h (yes l) = inl (h.0, h.1, h.2, l)
      go b' r' c' h (no l) = inr (h.0, h.1, omega arith, omega (arith, h.3))

  -- what is known of every unit is known of the list: all samples put, in whatever order
  pub puts_same : {some more : Samples} {xs ys zs : List ℕ} → Puts t some xs ys → Puts t more xs zs
      → ((b r c : ℕ) → Among t b r c → some b r c × more b r c) → (p : ℕ) → t.unit ys p ≡ t.unit zs p
  puts_same {ys = ys} {zs = zs} y z all p = go (ℕ_discrete _ _)
    where
      go : Dec (t.unit ys p ≡ t.unit zs p) → t.unit ys p ≡ t.unit zs p
      go (yes e) = e
      go (no ne) =
          y.free p none ∙ sym (z.free p none)
        where
          none : (b r c i : ℕ) → Among t b r c → i < t.wide → p ≢ t.at b r c + i
          none b r c i a l e =
              let q = all b r c a in
              ne (ap (t.unit ys) e ∙ y.put b r c a q.0 i l ∙ sym (z.put b r c a q.1 i l)
              ∙ ap (t.unit zs) (sym e))
