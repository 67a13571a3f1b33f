-- The plain frame's own spelling and windows are the bytes of the calls.
-- Assumes nothing.
use Prim.Native.Nat.{ℕ, zero, suc, ◌+◌, ◌*◌, ◌/◌, ◌%◌, ◌^◌, ◌≤◌, ◌<◌}
use mathlib.Core.Path.{◌≡◌, refl, sym, ap, ap₂, ◌∙◌}
use mathlib.Core.Bool.{Bool, true, false}
use mathlib.Core.List.{List, [], ◌∷◌, ◌++◌}
use native.Mathlib.Omega.{arith}
use native.Mathlib.Nat.{pow-suc, div-div-eq-div-mul, mul_comm, add-zero, zero-add, mod-lt, div-add-mod', add-div_left, add-mod_left, suc-mul, mul-le-mul_right, div-eq_of_lt, mod-eq_of_lt}
use lib.Arith.{digits_lt, digits_div, digits_mod}
use lib.ListN.{length, get_or, take, drop, length-drop}
use lib.Seq.{take-suc, get_or-drop}
use mathlib.Core.List.{append-nil, append_assoc}
use Rattle.bits.specs.Bits.{be_at, be_bytes}
use Rattle.common.specs.Questions.{outcome}
use Rattle.common.specs.Over.{over}
use Rattle.grid.specs.declared.Grid.{Grid}
use Rattle.common.specs.Tests.{pick}
use Rattle.grid.specs.Sizes.{sample_bytes, actual_rows, actual_columns}
use Rattle.grid.specs.Layout.{Sample}
use Rattle.layout.specs.Bands.{band_count, band_at}
use Rattle.bits.specs.Values.{values}
use Rattle.bits.proofs.Values.{values_ext, values-add}
use Rattle.calls.specs.Orders.{Window}
use Rattle.calls.specs.Reads.{bytes_of, filled}
use Rattle.calls.specs.Writes.{data_at}
use Rattle.frame.specs.PlainFrame.{Frame, as_number, whole_in_data, number_in_data, as_bytes, each_from, each_of, window_band, frame_bytes, frame_window_by}

-- ---- a number in bytes

as_bytes-last : (s v : ℕ) → as_bytes (suc s) v ≡ as_bytes s (v / 256) ++ (v % 256 ∷ [])
unfolding as_bytes
as_bytes-last zero v = ap (λ (x : ℕ). x % 256 ∷ []) (let e : v / 256 ^ 0 ≡ v = omega arith in e)
as_bytes-last (suc s) v =
    ap₂ (λ (x : ℕ) (l : List ℕ). x % 256 ∷ l)
    (ap (λ (x : ℕ). v / x) (pow-suc 256 s ∙ mul_comm (256 ^ s) 256) ∙ sym (div-div-eq-div-mul v 256 (256 ^ s)))
    (as_bytes-last s v)

pub as_bytes-is : (s v : ℕ) → as_bytes s v ≡ be_bytes s v
unfolding be_bytes as_bytes
as_bytes-is zero v = refl
as_bytes-is (suc s) v = as_bytes-last s v ∙ ap (λ (l : List ℕ). l ++ (v % 256 ∷ [])) (as_bytes-is s (v / 256))

as_number-last : (n : ℕ) (xs : List ℕ) (y : ℕ) → as_number n (xs ++ (y ∷ [])) ≡ as_number n xs * 256 + y
unfolding as_number
as_number-last n [] y = refl
as_number-last n (x ∷ xs) y = as_number-last (n * 256 + x) xs y

pub as_number-is : (dat : List ℕ) (k s : ℕ) → k + s ≤ length dat → as_number 0 (take s (drop k dat)) ≡ be_at dat k s
unfolding be_at as_number
as_number-is dat k zero h = refl
as_number-is dat k (suc s) h =
    ap (as_number 0) (take-suc (drop k dat) s 0 (omega (arith, length-drop k dat)))
    ∙ as_number-last 0 (take s (drop k dat)) (get_or (drop k dat) s 0)
    ∙ ap₂ (λ (a b : ℕ). a * 256 + b) (as_number-is dat k s (omega arith)) (get_or-drop k dat s 0)

-- where the data has its exact length, each sample's bytes are in it
module _ (g : Grid) (row column : ℕ) (dat : List ℕ) (e : length dat ≡ g.bands * actual_rows g row * actual_columns g column * sample_bytes g) where
  pub whole_is : (b r c : ℕ) → Sample g row column b r c
      → whole_in_data g row column dat b r c ≡ be_at dat (((b * actual_rows g row + r) * actual_columns g column + c) * sample_bytes g) (sample_bytes g)
  unfolding whole_in_data
  whole_is b r c t =
      let o : ℕ = (b * actual_rows g row + r) * actual_columns g column + c in
      let h : o < g.bands * actual_rows g row * actual_columns g column = digits_lt (digits_lt t.in_b t.in_r) t.in_c in
      as_number-is dat (o * sample_bytes g) (sample_bytes g) (omega (arith, e, mul-le-mul_right (sample_bytes g) h, suc-mul o (sample_bytes g)))

  pub data_is : (b r c : ℕ) → Sample g row column b r c → number_in_data g row column dat b r c ≡ data_at g row column dat b r c
  unfolding number_in_data data_at
  data_is b r c t = ap (λ (x : ℕ). x % 2 ^ g.nbpp) (whole_is b r c t)

-- ---- one after the other

each_from_ext : (f h : ℕ → List ℕ) (k n : ℕ) → ((j : ℕ) → f j ≡ h j) → each_from f k n ≡ each_from h k n
unfolding each_from
each_from_ext f h k zero e = refl
each_from_ext f h k (suc n) e = ap₂ ◌++◌ (e k) (each_from_ext f h (suc k) n e)

each_from-next : (f : ℕ → List ℕ) (k n : ℕ) → each_from f (suc k) n ≡ each_from (λ j. f (suc j)) k n
unfolding each_from
each_from-next f k zero = refl
each_from-next f k (suc n) = ap (λ (l : List ℕ). f (suc k) ++ l) (each_from-next f (suc k) n)

each_of-is : (f : ℕ → List ℕ) (ks : List ℕ) → each_of f ks ≡ each_from (λ k. f (get_or ks k 0)) 0 (length ks)
unfolding each_of each_from
each_of-is f [] = refl
each_of-is f (b ∷ ks) = ap (λ (l : List ℕ). f b ++ l) (each_of-is f ks ∙ sym (each_from-next (λ k. f (get_or (b ∷ ks) k 0)) 0 (length ks)))

values-zero : (v : ℕ → ℕ) (s : ℕ) → values v s zero ≡ []
unfolding values
values-zero v s = refl

-- values, the first in front
values-front : (v : ℕ → ℕ) (s n : ℕ) → values v s (suc n) ≡ be_bytes s (v 0) ++ values (λ j. v (suc j)) s n
unfolding values
values-front v s zero = sym (append-nil (be_bytes s (v 0)))
values-front v s (suc n) =
    ap (λ (l : List ℕ). l ++ be_bytes s (v (suc n))) (values-front v s n) ∙ append_assoc (be_bytes s (v 0)) (values (λ j. v (suc j)) s n) (be_bytes s (v (suc n)))

-- a row
each_from-values : (s : ℕ) (f : ℕ → ℕ) (k n : ℕ) → each_from (λ x. as_bytes s (f x)) k n ≡ values (λ j. f (k + j)) s n
unfolding each_from
each_from-values s f k zero = sym (values-zero _ s)
each_from-values s f k (suc n) =
    ap₂ ◌++◌ (as_bytes-is s (f k) ∙ ap (λ (x : ℕ). be_bytes s (f x)) (sym (add-zero k)))
    (each_from-values s f (suc k) n ∙ values_ext _ _ s n (λ j l. ap f (omega arith)))
    ∙ sym (values-front (λ j. f (k + j)) s n)

-- rows of c each
each_from-rows : (s c : ℕ) (v : ℕ → ℕ → ℕ) (k n : ℕ) → 0 < c → each_from (λ y. values (v y) s c) k n ≡ values (λ j. v (k + j / c) (j % c)) s (n * c)
unfolding each_from
each_from-rows s c v k zero h =
    let e : 0 * c ≡ 0 = omega arith in
    sym (ap (values (λ j. v (k + j / c) (j % c)) s) e ∙ values-zero _ s)
each_from-rows s c v k (suc n) h =
    ap₂ ◌++◌
    (values_ext _ _ s c (λ j l. ap₂ v (let z : j / c ≡ 0 = div-eq_of_lt l in omega arith) (sym (mod-eq_of_lt l))))
    (each_from-rows s c v (suc k) n h
    ∙ values_ext _ _ s (n * c) (λ j l. ap₂ v (let z : (c + j) / c ≡ j / c + 1 = add-div_left j h in omega arith) (sym (add-mod_left c j))))
    ∙ sym (values-add (λ j. v (k + j / c) (j % c)) s c (n * c)) ∙ ap (values (λ j. v (k + j / c) (j % c)) s) (omega (arith, suc-mul n c))

-- ---- the window

module _ (f : Frame) (w : Window) (rows-pos : 0 < w.rows) (columns-pos : 0 < w.columns) where
  abbrev s : ℕ
  s = sample_bytes f.grid

  abbrev sample : ℕ → ℕ → ℕ → ℕ
  sample k r c = f.numbers (band_at w.bands k) (w.row + r) (w.column + c)

  band-is : (b : ℕ) → window_band f w b ≡ values (λ j. f.numbers b (w.row + j / w.columns) (w.column + j % w.columns)) s (w.rows * w.columns)
  unfolding window_band
  band-is b =
      each_from_ext _ _ w.row w.rows (λ y. each_from-values s (λ x. f.numbers b y x) w.column w.columns)
      ∙ each_from-rows s w.columns (λ y j. f.numbers b y (w.column + j)) w.row w.rows columns-pos

  bands-by : (a : Bool) → pick a (each_from (window_band f w) 0 f.grid.bands) (each_of (window_band f w) w.bands.list)
      ≡ each_from (λ k. window_band f w (pick a k (get_or w.bands.list k 0))) 0 (pick a f.grid.bands (length w.bands.list))
  unfolding pick
  bands-by true = refl
  bands-by false = each_of-is (window_band f w) w.bands.list

  -- the digits of a sample's number in the window
  digits : (n : ℕ) → sample (0 + n / (w.rows * w.columns)) (n % (w.rows * w.columns) / w.columns) (n % (w.rows * w.columns) % w.columns)
      ≡ sample (n / w.columns / w.rows) (n / w.columns % w.rows) (n % w.columns)
  digits n =
      let c : ℕ = n % w.columns in
      let r : ℕ = n / w.columns % w.rows in
      let q : ℕ = n / w.columns / w.rows in
      let hc : c < w.columns = mod-lt n columns-pos in
      let hr : r < w.rows = mod-lt (n / w.columns) rows-pos in
      let l : r * w.columns + c < w.rows * w.columns = digits_lt hr hc in
      let e : n ≡ q * (w.rows * w.columns) + (r * w.columns + c)
      = sym (div-add-mod' n w.columns) ∙ ap (λ (m : ℕ). m * w.columns + c) (sym (div-add-mod' (n / w.columns) w.rows)) ∙ regroup q w.rows w.columns r c in
      let d : n / (w.rows * w.columns) ≡ q = ap (λ (m : ℕ). m / (w.rows * w.columns)) e ∙ digits_div q l in
      let m : n % (w.rows * w.columns) ≡ r * w.columns + c = ap (λ (m : ℕ). m % (w.rows * w.columns)) e ∙ digits_mod q l in
      λ i. sample ((zero-add (n / (w.rows * w.columns)) ∙ d) i) ((ap (λ (x : ℕ). x / w.columns) m ∙ digits_div r hc) i) ((ap (λ (x : ℕ). x % w.columns) m ∙ digits_mod r hc) i)
    where
      regroup : (q a b r c : ℕ) → (q * a + r) * b + c ≡ q * (a * b) + (r * b + c)
      regroup q a b r c = omega arith

  pub window_bytes_lem : frame_bytes f w ≡ bytes_of s (band_count f.grid.bands w.bands) w.rows w.columns sample
  unfolding frame_bytes bytes_of band_count band_at
  window_bytes_lem =
      let N : ℕ = band_count f.grid.bands w.bands in
      bands-by w.bands.all
      ∙ each_from_ext _ _ 0 N (λ k. band-is (band_at w.bands k))
      ∙ each_from-rows s (w.rows * w.columns) (λ k j. sample k (j / w.columns) (j % w.columns)) 0 N (omega (arith, digits_lt {q = 0} {m = w.rows} {r = 0} {c = w.columns} rows-pos columns-pos))
      ∙ values_ext _ _ s _ (λ n l. digits n)
      ∙ ap (values (λ n. sample (n / w.columns / w.rows) (n / w.columns % w.rows) (n % w.columns)) s) (regroup N w.rows w.columns)
    where
      regroup : (a b c : ℕ) → a * (b * c) ≡ a * b * c
      regroup a b c = omega arith

-- the plain frame's window is that of its numbers
pub window-by : (k : ℕ) (f : Frame) (w : Window) (out : List ℕ) → (k ≡ 0 → (0 < w.rows) × (0 < w.columns))
    → frame_window_by k f w out
    ≡ filled k (sample_bytes f.grid) (band_count f.grid.bands w.bands) w.rows w.columns
    (λ b r c. f.numbers (band_at w.bands b) (w.row + r) (w.column + c)) out
unfolding frame_window_by outcome over band_count
window-by zero f w out p =
    let h = p refl in
    let e = window_bytes_lem f w h.0 h.1 in
    λ i. record {
      shape = record { number = 0; bands = pick w.bands.all f.grid.bands (length w.bands.list); rows = w.rows; columns = w.columns };
      out = e i ++ drop (sym (zero-add (length (e i))) i) out;
    }
window-by (suc k) f w out p = refl
