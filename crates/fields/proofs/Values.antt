-- Laws of named values: which one bytes are, and how it is written.
-- Assumes nothing.
use mathlib.Core.Path.{◌≡◌, refl, sym, ap, ap₂, ◌∙◌, subst}
use mathlib.Core.Bool.{Bool, true, false}
use mathlib.Core.List.{List, [], ◌∷◌}
use Prim.Native.Nat.{ℕ, suc, ◌+◌, ◌<◌}
use native.Mathlib.Numerals.{add-one}
use borrow.Author.Tests.{eqb-true, eq-eqb}
use lib.Dec.{eqb}
use lib.ListN.{length, get_or, drop}
use lib.Seq.{drop-cons}
use Rattle.std.specs.Str.{bytes_eq}
use Rattle.std.proofs.lemmas.Bool.Decides.{same_from_decides}
use Rattle.std.proofs.lemmas.Slice.Eq.{bytes_eq-Decides}
use Rattle.common.specs.Tests.{every, some, pick}
use Rattle.layout.specs.declared.InterleaveMode.{InterleaveMode}
use Rattle.layout.specs.declared.InterleaveMode.TheVariants.{B, P, R, S}
use Rattle.fields.specs.declared.named.PixelValueType.{PixelValueType}
use Rattle.fields.specs.declared.named.PixelValueType.TheVariants.{UnsignedInt, SignedInt, Real, Complex, BiLevel}
use Rattle.fields.specs.declared.named.PixelJustification.{PixelJustification}
use Rattle.fields.specs.declared.named.PixelJustification.TheVariants.{Right, Left}
use Rattle.fields.specs.declared.named.ImageCompression.{ImageCompression}
use Rattle.fields.specs.declared.named.ImageCompression.TheVariants.{NC, NM}
use Rattle.fields.specs.Named.{same_bytes, is_named, value_of, pvtypes, pvtype_text, pjusts, pjust_text}
use Rattle.fields.specs.Named.{ics, ic_text, imodes, imode_text}
use Rattle.common.proofs.Tests.{true_false, every-at, some-last}

-- ---- the same bytes

pub same_refl : (xs : List ℕ) → same_bytes xs xs ≡ true
unfolding same_bytes every
same_refl [] = refl
same_refl (x ∷ xs) = rw (eq-eqb x x refl, same_refl xs)

pub same_eq : (xs ys : List ℕ) → same_bytes xs ys ≡ true → xs ≡ ys
unfolding same_bytes
same_eq [] [] e = refl
same_eq [] (y ∷ ys) e = true_false (sym e)
same_eq (x ∷ xs) [] e = true_false (sym e)
same_eq (x ∷ xs) (y ∷ ys) e =
    let a = every-at (eqb x y ∷ same_bytes xs ys ∷ []) e in
    ap₂ ◌∷◌ (eqb-true x y (a 0)) (same_eq xs ys (a 1))

-- `==` on slices tells the same
pub bytes_eq_same : (xs ys : List ℕ) → bytes_eq xs ys ≡ same_bytes xs ys
bytes_eq_same xs ys =
    same_from_decides (bytes_eq xs ys) (same_bytes xs ys) (bytes_eq-Decides xs ys)
    (same_eq xs ys, λ e. subst (λ (zs : List ℕ). same_bytes xs zs ≡ true) e (same_refl xs))

-- ---- values

module _ {A : Type 0} (written : A → List ℕ) (bytes : List ℕ) where
  -- the value found is written so exactly where one of the values is
  found-by : (vs : List A) (other : A) → same_bytes bytes (written other) ≡ false
      → same_bytes bytes (written (value_of written vs other bytes)) ≡ is_named written vs bytes
  unfolding value_of is_named pick some
  found-by [] other e = e
  found-by (v ∷ vs) other e = go (same_bytes bytes (written v)) refl (found-by vs other e)
    where
      go : (b : Bool) → same_bytes bytes (written v) ≡ b
          → same_bytes bytes (written (value_of written vs other bytes)) ≡ is_named written vs bytes
          → same_bytes bytes (written (pick b v (value_of written vs other bytes))) ≡ some (b ∷ is_named written vs bytes ∷ [])
      go true f r = f
      go false f r = r ∙ some-last (is_named written vs bytes)

  pub named_by : (v : A) (vs : List A) → same_bytes bytes (written (value_of written (v ∷ vs) v bytes)) ≡ is_named written (v ∷ vs) bytes
  unfolding value_of is_named pick some
  named_by v vs = go (same_bytes bytes (written v)) refl
    where
      go : (b : Bool) → same_bytes bytes (written v) ≡ b
          → same_bytes bytes (written (pick b v (value_of written vs v bytes))) ≡ some (b ∷ is_named written vs bytes ∷ [])
      go true f = f
      go false f = found-by vs v f ∙ some-last (is_named written vs bytes)

  -- so bytes that are named are those of the value found
  pub named-text : (v : A) (vs : List A) → is_named written (v ∷ vs) bytes ≡ true → bytes ≡ written (value_of written (v ∷ vs) v bytes)
  named-text v vs e = same_eq bytes (written (value_of written (v ∷ vs) v bytes)) (named_by v vs ∙ e)

-- ---- a list of values gone through

module _ {A : Type 0} (written : A → List ℕ) (bytes : List ℕ) where
  -- what the values from an index on tell, where the value at it is written so, and where it is not
  pub record Here (vs : List A) (v : A) : Type 0 where
    pub is_there : is_named written vs bytes ≡ true
    pub value : (other : A) → value_of written vs other bytes ≡ v

  pub record Later (vs rest : List A) : Type 0 where
    pub is_there : is_named written rest bytes ≡ is_named written vs bytes
    pub value : (other : A) → value_of written rest other bytes ≡ value_of written vs other bytes

  -- the loop's list is ws, and it looks at index k
  pub named_here : {ws vs : List A} {k : ℕ} {v : A} → ws ≡ vs → k < length ws → v ≡ get_or ws k v
      → bytes_eq bytes (written v) ≡ true → Here (drop k vs) v
  unfolding value_of is_named pick some
  named_here {ws = ws} {vs = vs} {k = k} {v = v} all h e t =
      let d : drop k ws ≡ v ∷ drop (suc k) ws = drop-cons ws k v h ∙ ap (λ x. x ∷ drop (suc k) ws) (sym e) in
      let s : same_bytes bytes (written v) ≡ true = sym (bytes_eq_same bytes (written v)) ∙ t in
      rw (← all, d) (record { is_there = rw s; value = λ other. rw s })

  pub named_later : {ws vs : List A} {k : ℕ} {v : A} → ws ≡ vs → k < length ws → v ≡ get_or ws k v
      → bytes_eq bytes (written v) ≡ false → Later (drop k vs) (drop (k + 1) vs)
  unfolding value_of is_named pick some
  named_later {ws = ws} {vs = vs} {k = k} {v = v} all h e t =
      let d : drop k ws ≡ v ∷ drop (suc k) ws = drop-cons ws k v h ∙ ap (λ x. x ∷ drop (suc k) ws) (sym e) in
      let s : same_bytes bytes (written v) ≡ false = sym (bytes_eq_same bytes (written v)) ∙ t in
      rw (← all, add-one, d) (record { is_there = rw s (some-last _); value = λ other. rw s })

-- ---- each value comes back from its text, which has its field's length

pub pvtype_back : (v : PixelValueType)
    → (is_named pvtype_text pvtypes (pvtype_text v) ≡ true) × (value_of pvtype_text pvtypes UnsignedInt (pvtype_text v) ≡ v) × (length (pvtype_text v) ≡ 3)
unfolding is_named value_of same_bytes some every pick
pvtype_back UnsignedInt = (refl, refl, refl)
pvtype_back SignedInt = (refl, refl, refl)
pvtype_back Real = (refl, refl, refl)
pvtype_back Complex = (refl, refl, refl)
pvtype_back BiLevel = (refl, refl, refl)

pub pjust_back : (v : PixelJustification)
    → (is_named pjust_text pjusts (pjust_text v) ≡ true) × (value_of pjust_text pjusts Right (pjust_text v) ≡ v) × (length (pjust_text v) ≡ 1)
unfolding is_named value_of same_bytes some every pick
pjust_back Right = (refl, refl, refl)
pjust_back Left = (refl, refl, refl)

pub ic_back : (v : ImageCompression)
    → (is_named ic_text ics (ic_text v) ≡ true) × (value_of ic_text ics NC (ic_text v) ≡ v) × (length (ic_text v) ≡ 2)
unfolding is_named value_of same_bytes some every pick
ic_back NC = (refl, refl, refl)
ic_back NM = (refl, refl, refl)

pub imode_back : (v : InterleaveMode)
    → (is_named imode_text imodes (imode_text v) ≡ true) × (value_of imode_text imodes B (imode_text v) ≡ v) × (length (imode_text v) ≡ 1)
unfolding is_named value_of same_bytes some every pick
imode_back B = (refl, refl, refl)
imode_back P = (refl, refl, refl)
imode_back R = (refl, refl, refl)
imode_back S = (refl, refl, refl)
