-- Laws of a list with a run of its elements replaced.
-- Assumes nothing.
use mathlib.Core.Path.{◌≡◌, sym, ap, ap₂, ◌∙◌}
use mathlib.Core.List.{List, [], ◌∷◌, ◌++◌, append_assoc, append-nil}
use Prim.Native.Nat.{ℕ, ◌+◌, ◌-◌, ◌≤◌, ◌<◌}
use native.Mathlib.Nat.{add-zero, zero-add, add_assoc}
use native.Mathlib.Numerals.{add-one}
use native.Mathlib.Omega.{arith}
use borrow.Rule.Slice.PartMut.{put_mid}
use lib.ListN.{length, get_or, set, take, drop, replicate, length-append, length-take, length-drop, length-replicate, take-append-drop, get_or-append}
use Rattle.common.specs.Over.{over}
use lib.Seq.{length-take-le, take_at, drop_at, drop-drop, set_split, get_or-take, get_or-drop, get_or-append-add, append_snoc, take-take, take-add, drop-append-le}

module _ {ℓ} {A : Type ℓ} where
  pub over_none : (d : List A) (o : ℕ) → over d o [] ≡ d
  unfolding over
  over_none d o = simp (add-zero, append-nil, take-append-drop)

  pub length_over : (d : List A) (o : ℕ) (vs : List A) → o + length vs ≤ length d → length (over d o vs) ≡ length d
  unfolding over
  length_over d o vs h = simp (length-append, length-take, length-drop) (omega arith)

  -- the elements before, those put, those after
  pub take-over : (d : List A) (o : ℕ) (vs : List A) → o + length vs ≤ length d → take (o + length vs) (over d o vs) ≡ take o d ++ vs
  unfolding over
  take-over d o vs h = take_at (take o d ++ vs) (drop (o + length vs) d) (o + length vs) (simp (length-append, length-take) (omega arith))

  pub drop-over : (d : List A) (o : ℕ) (vs : List A) → o + length vs ≤ length d → drop (o + length vs) (over d o vs) ≡ drop (o + length vs) d
  unfolding over
  drop-over d o vs h = drop_at (take o d ++ vs) (drop (o + length vs) d) (o + length vs) (simp (length-append, length-take) (omega arith))

  -- a run put right after another is one run
  pub over-over : (d : List A) (o : ℕ) (vs ws : List A) → o + length vs + length ws ≤ length d → over (over d o vs) (o + length vs) ws ≡ over d o (vs ++ ws)
  unfolding over
  over-over d o vs ws h =
      ap₂ (λ (a b : List A). a ++ ws ++ b)
      (take-over d o vs (omega arith))
      (sym (drop-drop (length ws) (o + length vs) (over d o vs)) ∙ ap (drop (length ws)) (drop-over d o vs (omega arith)) ∙ drop-drop (length ws) (o + length vs) d
      ∙ ap (λ (n : ℕ). drop n d) (add_assoc o (length vs) (length ws) ∙ ap (λ (n : ℕ). o + n) (sym (length-append vs ws))))
      ∙ ap (λ (a : List A). a ++ drop (o + length (vs ++ ws)) d) (append_assoc (take o d) vs ws)

  -- one store
  pub over-one : (d : List A) (o : ℕ) (v : A) → o < length d → over d o (v ∷ []) ≡ set d o v
  unfolding over
  over-one d o v h = append_snoc (take o d) v (drop (o + 1) d) ∙ ap (λ (n : ℕ). take o d ++ v ∷ drop n d) (add-one o) ∙ sym (set_split d o v h)

  -- a store right after a run is a run of one more
  pub set-over : (d : List A) (o : ℕ) (vs : List A) (v : A) → o + length vs < length d → set (over d o vs) (o + length vs) v ≡ over d o (vs ++ (v ∷ []))
  set-over d o vs v h =
      let l : o + length vs ≤ length d = omega arith in
      let k : o + length vs < length (over d o vs) = rw length_over h in
      sym (over-one (over d o vs) (o + length vs) v k) ∙ over-over d o vs (v ∷ []) (omega arith)

  pub get_or-over_in : (d : List A) (o : ℕ) (vs : List A) (i : ℕ) (z : A) → o + length vs ≤ length d → i < length vs → get_or (over d o vs) (o + i) z ≡ get_or vs i z
  unfolding over
  get_or-over_in d o vs i z h l =
      let e : length (take o d) ≡ o = length-take-le o d (omega arith) in
      let k : o + i < length (take o d ++ vs) = simp (length-append, e) (omega arith) in
      get_or-append (take o d ++ vs) (drop (o + length vs) d) z (o + i) k
      ∙ ap (λ (n : ℕ). get_or (take o d ++ vs) (n + i) z) (sym e) ∙ get_or-append-add (take o d) vs i z

  pub get_or-over-after : (d : List A) (o : ℕ) (vs : List A) (i : ℕ) (z : A) → o + length vs ≤ length d → o + length vs ≤ i → get_or (over d o vs) i z ≡ get_or d i z
  get_or-over-after d o vs i z h l =
      let e : o + length vs + (i - (o + length vs)) ≡ i = omega arith in
      ap (λ (n : ℕ). get_or (over d o vs) n z) (sym e) ∙ sym (get_or-drop (o + length vs) (over d o vs) (i - (o + length vs)) z)
      ∙ ap (λ (a : List A). get_or a (i - (o + length vs)) z) (drop-over d o vs h)
      ∙ get_or-drop (o + length vs) d (i - (o + length vs)) z ∙ ap (λ (n : ℕ). get_or d n z) e

  pub get_or-over-before : (d : List A) (o : ℕ) (vs : List A) (i : ℕ) (z : A) → o ≤ length d → i < o → get_or (over d o vs) i z ≡ get_or d i z
  unfolding over
  get_or-over-before d o vs i z h l =
      let e : length (take o d) ≡ o = length-take-le o d h in
      let k : i < length (take o d ++ vs) = simp (length-append, e) (omega arith) in
      get_or-append (take o d ++ vs) (drop (o + length vs) d) z i k
      ∙ get_or-append (take o d) vs z i (omega arith) ∙ get_or-take o d i z l

  -- a run put in a part that was lent, `&mut d[a..a + k]`, is a run of the whole. The left side is `borrow.Rule.Slice.PartMut.put_mid a k d ..`
  pub over-part : (d : List A) (a k o : ℕ) (vs : List A) → o + length vs ≤ k → a + k ≤ length d
      → take a d ++ (over (take k (drop a d)) o vs ++ drop k (drop a d)) ≡ over d (a + o) vs
  unfolding over
  over-part d a k o vs h l =
      let m : List A = take k (drop a d) in
      let rest : List A = drop k (drop a d) in
      let n : length m ≡ k = simp (length-take, length-drop) (omega arith) in
      let e₁ : take o m ≡ take o (drop a d) = take-take o k (drop a d) (omega arith) in
      let e₂ : drop (o + length vs) m ++ rest ≡ drop (a + o + length vs) d =
      sym (drop-append-le (o + length vs) m rest (omega arith)) ∙ ap (drop (o + length vs)) (take-append-drop k (drop a d)) ∙ drop-drop (o + length vs) a d
      ∙ ap (λ (i : ℕ). drop i d) (sym (add_assoc a o (length vs))) in
      rw (e₁, take-add a o d) (simp append_assoc (ap (λ (z : List A). take a d ++ (take o (drop a d) ++ (vs ++ z))) e₂))

-- ---- a part that was written whole, as by `fill` or `copy_from_slice`

module _ {A : Type 0} where
  -- `d[a..a + k]`
  pub part_over : (d : List A) (a k : ℕ) (ws vs : List A) → ws ≡ vs → length vs ≡ k → put_mid a k d ws ≡ over d a vs
  unfolding over
  part_over d a k ws vs w e =
      ap (λ (l : List A). take a d ++ (l ++ drop k (drop a d))) w
      ∙ sym (append_assoc (take a d) vs (drop k (drop a d)))
      ∙ ap (λ (l : List A). take a d ++ vs ++ l) (drop-drop k a d ∙ ap (λ (n : ℕ). drop (a + n) d) (sym e))

  -- `d[..n]`, filled with v
  pub front_filled : (d : List A) (n : ℕ) (v : A) {ws : List A} → n ≤ length d → ws ≡ replicate (length (take n d)) v → ws ++ drop n d ≡ over d 0 (replicate n v)
  unfolding over
  front_filled d n v h e = rw (e, length-take-le n d h, zero-add, length-replicate {A = A} n v)

  -- a front put in place of those of two lists that go on alike
  pub front-same : (d e : List A) (n : ℕ) (v : A) → drop n d ≡ drop n e → over d 0 (replicate n v) ≡ over e 0 (replicate n v)
  unfolding over
  front-same d e n v h = rw (zero-add, length-replicate {A = A} n v, h)
