-- A window on an image that holds the plain frame's numbers gives those numbers, and two such images answer alike.
-- Assumes nothing.
use Prim.Native.Nat.{ℕ, zero, suc, ◌+◌, ◌-◌, ◌*◌, ◌/◌, ◌%◌, ◌≤◌, ◌<◌}
use mathlib.Core.Path.{◌≡◌, refl, sym, ap, ap₂, ◌∙◌, subst}
use mathlib.Core.Bool.{Bool, true, false}
use mathlib.Core.List.{List, [], ◌∷◌}
use native.Mathlib.Omega.{arith}
use native.Mathlib.Nat.{div-add-mod', mod-eq_of_lt}
use lib.Dec.{leb, ltb, lit<}
use lib.ListN.{length, get_or, take, length-take}
use lib.Seq.{take_at}
use Rattle.bits.specs.Bits.{bit_of}
use Rattle.common.specs.Questions.{outcome}
use Rattle.common.specs.Over.{over}
use Rattle.bits.proofs.Bits.{bits_at-is}
use Rattle.widths.specs.declared.Widths.{Widths}
use Rattle.widths.specs.Widths.{takes}
use Rattle.grid.specs.declared.Grid.{Grid}
use Rattle.common.specs.Questions.{ask}
use Rattle.common.specs.Tests.{every, pick, all_below}
use Rattle.common.specs.Rounding.{ceil_div}
use Rattle.grid.specs.Check.{Accepted, q2}
use Rattle.grid.specs.Sizes.{sample_bytes, image_bytes}
use Rattle.grid.specs.Layout.{block_end, SampleBit}
use Rattle.common.proofs.Questions.{ask-inv, ask-yes, ask-no}
use Rattle.grid.proofs.Accepted.{Facts, facts, grid-inv, grid-open, grid_barred}
use Rattle.grid.proofs.SamplePlaces.{ends}
use Rattle.layout.specs.Bands.{Bands, band_count, band_at, q8, q9}
use Rattle.calls.specs.Orders.{Window, q7_window, q10, window_number}
use Rattle.calls.specs.Answers.{Filled}
use Rattle.calls.specs.Reads.{sample_at, picture_at, bytes_of, filled, window_of, window}
use Rattle.frame.specs.Demand3.{SamePicture, Alike}
use Rattle.frame.proofs.ListBits.{bit_at-take}
use Rattle.frame.proofs.ImageNumbers.{Holding}
use Rattle.layout.proofs.Listed.{band_lt}
use Rattle.calls.proofs.WindowLaws.{InPicture, q10-facts, q7-at, q7-whole, sample_of, bytes_of_ext, length-bytes_of}

-- ---- what a window's number 0 tells

pub record WindowFacts (g : Grid) (n : ℕ) (w : Window) : Type 0 where
  pub picture : InPicture g w
  pub band : (k : ℕ) → k < band_count g.bands w.bands → band_at w.bands k < g.bands
  pub end : (r c : ℕ) → r < w.rows → c < w.columns → block_end g ((w.row + r) / g.nppbv) ((w.column + c) / g.nppbh) ≤ n

pub window-facts : (ws : Widths) (g : Grid) → Facts g → (n : ℕ) (w : Window) (m : ℕ) → window_number ws g n w m ≡ 0
    → WindowFacts g n w
unfolding window_number
window-facts ws g f n w m e =
    let a = ask-inv 10 (q10 g w) _ (lit< tt) (grid-inv ws g _ e).1 in
    let b = ask-inv 7 (q7_window g n w) _ (lit< tt) a.1 in
    let c = ask-inv 8 (q8 g.bands w.bands) _ (lit< tt) b.1 in
    let p = q10-facts g w a.0 in
    record { picture = p; band = band_lt g.bands w.bands c.0; end = q7-at g f n w p b.0 }

-- ---- the bytes of two answers with the same number

filled_ext : (n s bands rows columns : ℕ) (f h : ℕ → ℕ → ℕ → ℕ) (out : List ℕ) → (n ≡ 0 → bytes_of s bands rows columns f ≡ bytes_of s bands rows columns h)
    → filled n s bands rows columns f out ≡ filled n s bands rows columns h out
unfolding outcome
filled_ext zero s bands rows columns f h out e =
    λ i. record { shape = record { number = 0; bands = bands; rows = rows; columns = columns }; out = over out 0 (e refl i) }
filled_ext (suc n) s bands rows columns f h out e = refl

filled-alike : (n s bands rows columns : ℕ) (f h : ℕ → ℕ → ℕ → ℕ) (out out' : List ℕ) → (n ≡ 0 → bytes_of s bands rows columns f ≡ bytes_of s bands rows columns h)
    → Alike (bands * rows * columns * s) (filled n s bands rows columns f out) (filled n s bands rows columns h out')
unfolding outcome over
filled-alike zero s bands rows columns f h out out' e =
    record {
      shape = refl;
      bytes = λ z. take_at (bytes_of s bands rows columns f) _ _ (length-bytes_of s bands rows columns f) ∙ e refl
          ∙ sym (take_at (bytes_of s bands rows columns h) _ _ (length-bytes_of s bands rows columns h));
    }
filled-alike (suc n) s bands rows columns f h out out' e = record { shape = refl; bytes = λ z. absurd (omega arith) }

-- ---- one image

module _ (g : Grid) (f : Facts g) (image₀ image : List ℕ) (numbers : ℕ → ℕ → ℕ → ℕ) (held : Holding g image₀ image numbers) (n : ℕ) where
  -- one number, where the first n bytes reach the end of its block
  pub picture-is : (b y x : ℕ) → b < g.bands → y < g.nrows → x < g.ncols → block_end g (y / g.nppbv) (x / g.nppbh) ≤ length (take n image)
      → picture_at g (take n image) b y x ≡ numbers b y x
  unfolding picture_at sample_at
  picture-is b y x hb hy hx he =
      bits_at-is (take n image) _ g.nbpp (numbers b y x)
      (λ i hi.
      let t : SampleBit g (y / g.nppbv) (x / g.nppbh) b (y % g.nppbv) (x % g.nppbh) i = record { sample = sample_of g f b y x hb hy hx; in_i = hi } in
      bit_at-take n image _ (omega (arith, ends g f _ _ _ _ _ i t, length-take n image))
      ∙ held.sample_bits _ _ b _ _ i t
      ∙ ap₂ (λ (u v : ℕ). bit_of (numbers b u v) (g.nbpp - suc i)) (div-add-mod' y g.nppbv) (div-add-mod' x g.nppbh))
      ∙ mod-eq_of_lt (held.small b y x)

  pub window-is : (ws : Widths) (w : Window) (out : List ℕ)
      → window ws g (take n image) w out ≡ window_of ws g numbers (length (take n image)) w out
  unfolding window window_of
  window-is ws w out =
      filled_ext _ _ _ _ _ _ _ out (λ e.
      let q = window-facts ws g f _ w _ e in
      bytes_of_ext _ _ _ _ _ _ q.picture.rows-pos q.picture.columns-pos (λ k r c hk hr hc.
      picture-is _ _ _ (q.band k hk) (omega (arith, q.picture.rows_end)) (omega (arith, q.picture.columns-end)) (q.end r c hr hc)))

-- the same numbers in the picture give the same window
pub numbers_ext : (ws : Widths) (g : Grid) → Accepted g → (numbers numbers' : ℕ → ℕ → ℕ → ℕ)
    → ((b y x : ℕ) → b < g.bands → y < g.nrows → x < g.ncols → numbers b y x ≡ numbers' b y x)
    → (n : ℕ) (w : Window) (out : List ℕ) → window_of ws g numbers n w out ≡ window_of ws g numbers' n w out
unfolding window_of
numbers_ext ws g a numbers numbers' same n w out =
    filled_ext _ _ _ _ _ _ _ out (λ e.
    let q = window-facts ws g (facts g a) n w _ e in
    bytes_of_ext _ _ _ _ _ _ q.picture.rows-pos q.picture.columns-pos (λ k r c hk hr hc.
    same _ _ _ (q.band k hk) (omega (arith, q.picture.rows_end)) (omega (arith, q.picture.columns-end))))

-- ---- two images

-- on a whole image of an accepted grid questions 1, 3, 4 and 7 have no part in a window's number
abbrev pub rest_number : Widths → Grid → Window → ℕ → ℕ
rest_number ws g w m =
    ask 2 (q2 ws g)
    (ask 10 (q10 g w)
    (ask 8 (q8 g.bands w.bands)
    (ask 9 (q9 (band_count g.bands w.bands) w.rows w.columns (sample_bytes g) m) 0)))

pub number-whole : (ws : Widths) (g : Grid) → Accepted g → (n : ℕ) (w : Window) (m : ℕ) → image_bytes g ≤ n
    → window_number ws g n w m ≡ rest_number ws g w m
unfolding window_number
number-whole ws g a n w m h = go (q2 ws g) refl
  where
    go : (t : Bool) → q2 ws g ≡ t → window_number ws g n w m ≡ rest_number ws g w m
    go true e =
        grid-open ws g _ a e ∙ ap (ask 10 (q10 g w)) (ask-yes 7 _ (q7-whole g (facts g a) n w h)) ∙ sym (ask-yes 2 _ e)
    go false e = grid_barred ws g _ a e ∙ sym (ask-no 2 _ e)

module _ (g h : Grid) (sp : SamePicture g h) where
  same_count : (bs : Bands) → band_count g.bands bs ≡ band_count h.bands bs
  unfolding band_count
  same_count bs = ap (λ (n : ℕ). pick bs.all n (length bs.list)) sp.bands

  same_size : sample_bytes g ≡ sample_bytes h
  same_size = ap (λ (n : ℕ). ceil_div n 8) sp.nbpp

  same-q2 : (ws : Widths) → q2 ws g ≡ q2 ws h
  same-q2 ws = ap (takes ws) sp.nbpp

  same-q8 : (bs : Bands) → q8 g.bands bs ≡ q8 h.bands bs
  unfolding q8
  same-q8 bs = ap (λ (n : ℕ). pick bs.all true (all_below (length bs.list) (λ k. ltb (get_or bs.list k 0) n))) sp.bands

  same-q10 : (w : Window) → q10 g w ≡ q10 h w
  unfolding q10
  same-q10 w =
      ap₂ (λ (y x : ℕ). every (leb 1 w.rows ∷ leb 1 w.columns ∷ leb (w.row + w.rows) y ∷ leb (w.column + w.columns) x ∷ [])) sp.nrows sp.ncols

  same_rest : (ws : Widths) (w : Window) (m m' : ℕ) → m ≡ m' → rest_number ws g w m ≡ rest_number ws h w m'
  same_rest ws w m m' e =
      λ i. ask 2 (same-q2 ws i)
      (ask 10 (same-q10 w i) (ask 8 (same-q8 w.bands i) (ask 9 (q9 (same_count w.bands i) w.rows w.columns (same_size i) (e i)) 0)))

-- the same picture, the same numbers and outputs of one length: the same answer and bytes, whatever the modes and block sizes
pub alike : (ws : Widths) (g h : Grid) → Accepted g → Accepted h → SamePicture g h → (n n' : ℕ) → image_bytes g ≤ n → image_bytes h ≤ n'
    → (numbers numbers' : ℕ → ℕ → ℕ → ℕ)
    → ((b y x : ℕ) → b < g.bands → y < g.nrows → x < g.ncols → numbers b y x ≡ numbers' b y x)
    → (w : Window) (out out' : List ℕ) → length out ≡ length out'
    → Alike (band_count g.bands w.bands * w.rows * w.columns * sample_bytes g) (window_of ws g numbers n w out) (window_of ws h numbers' n' w out')
unfolding window_of
alike ws g h a a' sp n n' fits fits' numbers numbers' e w out out' le =
    subst (λ (x : Filled). Alike (band_count g.bands w.bands * w.rows * w.columns * sample_bytes g) (window_of ws g numbers n w out) x) same
    (filled-alike (window_number ws g n w (length out)) (sample_bytes g) (band_count g.bands w.bands) w.rows w.columns (at numbers) (at numbers') out out' (λ z.
    let q = window-facts ws g (facts g a) n w (length out) z in
    bytes_of_ext _ _ _ _ _ _ q.picture.rows-pos q.picture.columns-pos (λ k r c hk hr hc.
    e _ _ _ (q.band k hk) (omega (arith, q.picture.rows_end)) (omega (arith, q.picture.columns-end)))))
  where
    at : (ℕ → ℕ → ℕ → ℕ) → ℕ → ℕ → ℕ → ℕ
    at values k r c = values (band_at w.bands k) (w.row + r) (w.column + c)

    number : window_number ws g n w (length out) ≡ window_number ws h n' w (length out')
    number =
        number-whole ws g a n w (length out) fits ∙ same_rest g h sp ws w (length out) (length out') le
        ∙ sym (number-whole ws h a' n' w (length out') fits')

    same : filled (window_number ws g n w (length out)) (sample_bytes g) (band_count g.bands w.bands) w.rows w.columns (at numbers') out' ≡ window_of ws h numbers' n' w out'
    same = λ i. filled (number i) (same_size g h sp i) (same_count g h sp w.bands i) w.rows w.columns (at numbers') out'
