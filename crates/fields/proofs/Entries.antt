-- Laws of fields: what was put is read.
-- Assumes nothing.
use mathlib.Core.Path.{◌≡◌, refl, sym, ◌∙◌}
use mathlib.Core.List.{List, [], ◌∷◌, ◌++◌, append_assoc}
use Prim.Native.Nat.{ℕ, zero, suc, ◌+◌, ◌≤◌, ◌<◌}
use native.Mathlib.Nat.{le_refl, le_of_suc-le-suc, not-suc-le-zero}
use native.Mathlib.Omega.{arith}
use lib.ListN.{length, get_or, take, drop, length-take, length-drop}
use lib.Seq.{ext_get_or, get_or-take, get_or-drop, drop-drop, length-take-le}
use Rattle.common.specs.Over.{over}
use Rattle.fields.specs.declared.Field.{Field}
use Rattle.fields.specs.Fields.{bytes_in, Entry, put, put_all}
use Rattle.common.proofs.Over.{length_over, get_or-over_in, get_or-over-before}

pub length-bytes_in : (part : List ℕ) (f : Field) → f.at + f.size ≤ length part → length (bytes_in part f) ≡ f.size
unfolding bytes_in
length-bytes_in part f h = simp (length-take, length-drop) (omega arith)

-- the field's bytes one by one
pub get_or-bytes_in : (part : List ℕ) (f : Field) (i : ℕ) → i < f.size → get_or (bytes_in part f) i 0 ≡ get_or part (f.at + i) 0
unfolding bytes_in
get_or-bytes_in part f i h = get_or-take f.size (drop f.at part) i 0 h ∙ get_or-drop f.at part i 0

-- a field is its bytes
bytes_in-is : (part : List ℕ) (f : Field) (bytes : List ℕ) → f.at + f.size ≤ length part → length bytes ≡ f.size
    → ((i : ℕ) → i < f.size → get_or part (f.at + i) 0 ≡ get_or bytes i 0) → bytes_in part f ≡ bytes
bytes_in-is part f bytes h l e =
    let n : length (bytes_in part f) ≡ f.size = length-bytes_in part f h in
    ext_get_or 0 (bytes_in part f) bytes (n ∙ sym l)
    (λ i k. get_or-bytes_in part f i (omega arith) ∙ e i (omega arith))

-- the front of an output holds the field as the output does
pub bytes_in-front : (part : List ℕ) (n : ℕ) (f : Field) → f.at + f.size ≤ n → n ≤ length part → bytes_in (take n part) f ≡ bytes_in part f
bytes_in-front part n f h l =
    let k : length (take n part) ≡ n = length-take-le n part l in
    bytes_in-is (take n part) f (bytes_in part f) (omega arith) (length-bytes_in part f (omega arith))
    (λ i j. get_or-take n part (f.at + i) 0 (omega arith) ∙ sym (get_or-bytes_in part f i j))

-- ---- entries

-- an entry that is as long as its field and inside n bytes
pub record Fits (n : ℕ) (e : Entry) : Type 0 where
  pub long : length e.bytes ≡ e.place.size
  pub inside : e.place.at + e.place.size ≤ n

pub length-put : (part : List ℕ) (e : Entry) → Fits (length part) e → length (put part e) ≡ length part
length-put part e f = length_over part e.place.at e.bytes (omega (arith, f.long, f.inside))

pub bytes_in-put : (part : List ℕ) (e : Entry) → Fits (length part) e → bytes_in (put part e) e.place ≡ e.bytes
bytes_in-put part e f =
    let l : length (put part e) ≡ length part = length-put part e f in
    bytes_in-is (put part e) e.place e.bytes (omega (arith, l, f.inside)) f.long
    (λ i h. get_or-over_in part e.place.at e.bytes i 0 (omega (arith, f.long, f.inside)) (omega (arith, f.long)))

-- a field that ends before the entry's begins is kept
pub bytes_in-before : (part : List ℕ) (e : Entry) (f : Field) → Fits (length part) e → f.at + f.size ≤ e.place.at
    → bytes_in (put part e) f ≡ bytes_in part f
bytes_in-before part e f t h =
    let l : length (put part e) ≡ length part = length-put part e t in
    let i : f.at + f.size ≤ length part = omega (arith, t.inside) in
    bytes_in-is (put part e) f (bytes_in part f) (omega arith) (length-bytes_in part f i)
    (λ j k. get_or-over-before part e.place.at e.bytes (f.at + j) 0 (omega (arith, t.inside)) (omega arith) ∙ sym (get_or-bytes_in part f j k))

-- the left side is `borrow.Rule.Slice.PartMut.put_mid a k d v`: what a part that was lent, `&mut d[a..a + k]`, leaves
pub put-part : (d : List ℕ) (a k : ℕ) (v : List ℕ) → length v ≡ k → take a d ++ (v ++ drop k (drop a d)) ≡ over d a v
unfolding over
put-part d a k v e = rw (← e, drop-drop) (sym (append_assoc (take a d) v (drop (a + length v) d)))

-- ---- entries one after the other

-- entries that follow each other from index k on, each as long as its field and inside n bytes
abbrev pub Laid : ℕ → ℕ → List Entry → Type 0
Laid n k [] = Unit {0}
Laid n k (e ∷ es) = (k ≤ e.place.at) × Fits n e × Laid n (e.place.at + e.place.size) es

-- a field before them is kept
laid-keeps : (n k : ℕ) (part : List ℕ) (es : List Entry) (f : Field) → length part ≡ n → f.at + f.size ≤ k → Laid n k es
    → bytes_in (put_all part es) f ≡ bytes_in part f
laid-keeps n k part [] f l h t = refl
laid-keeps n k part (e ∷ es) f l h t =
    let fits : Fits (length part) e = rw l t.1 in
    laid-keeps n (e.place.at + e.place.size) (put part e) es f (length-put part e fits ∙ l) (omega (arith, t.0)) t.2
    ∙ bytes_in-before part e f fits (omega (arith, t.0))

-- and each of them is read as it was put; the last argument of get_or is never met
pub laid_reads : (n k : ℕ) (part : List ℕ) (es : List Entry) (none : Entry) → length part ≡ n → Laid n k es
    → (i : ℕ) → i < length es → bytes_in (put_all part es) (get_or es i none).place ≡ (get_or es i none).bytes
laid_reads n k part [] none l t i h = absurd (not-suc-le-zero h)
laid_reads n k part (e ∷ es) none l t zero h =
    let fits : Fits (length part) e = rw l t.1 in
    laid-keeps n (e.place.at + e.place.size) (put part e) es e.place (length-put part e fits ∙ l) (le_refl _) t.2
    ∙ bytes_in-put part e fits
laid_reads n k part (e ∷ es) none l t (suc i) h =
    let fits : Fits (length part) e = rw l t.1 in
    laid_reads n (e.place.at + e.place.size) (put part e) es none (length-put part e fits ∙ l) t.2 i (le_of_suc-le-suc h)

pub length-put_all : (n k : ℕ) (part : List ℕ) (es : List Entry) → length part ≡ n → Laid n k es → length (put_all part es) ≡ n
length-put_all n k part [] l t = l
length-put_all n k part (e ∷ es) l t =
    let fits : Fits (length part) e = rw l t.1 in
    length-put_all n (e.place.at + e.place.size) (put part e) es (length-put part e fits ∙ l) t.2
