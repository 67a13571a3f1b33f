-- Laws of an order: each area and each piece is a part of the whole, and each sample is in one of them.
-- Assumes nothing.
use Prim.Native.Nat.{ℕ, zero, suc, ◌+◌, ◌-◌, ◌*◌, ◌/◌, ◌%◌, ◌^◌, min, ◌≤◌, ◌<◌}
use mathlib.Core.Path.{◌≡◌, refl, sym, ap, ◌∙◌}
use mathlib.Core.Bool.{Bool, true, false}
use mathlib.Core.List.{List}
use native.Mathlib.Omega.{arith}
use native.Mathlib.Decide.{dec_lt}
use native.Mathlib.Nat.{mod-lt, div-add-mod', div-lt_iff_lt-mul, mul-le-mul_right, suc-mul}
use borrow.Author.Tests.{lt-ltb, le-ltb}
use lib.Dec.{ltb}
use lib.Arith.{digits_lt, digits_div, digits_mod}
use Rattle.common.proofs.Tests.{pick_yes, pick_no}
use Rattle.common.proofs.Arith.{part-start, part_lt, rest_lt, ceil_le, prod_le}
use Rattle.layout.specs.declared.BlockLayout.{BlockLayout}
use Rattle.moves.specs.declared.order.Cut.{Cut}
use Rattle.moves.specs.declared.order.Span.{Span}
use Rattle.moves.specs.declared.order.Area.{Area}
use Rattle.moves.specs.declared.order.Piece.{Piece}
use Rattle.moves.specs.declared.order.Order.{Order}
use Rattle.moves.specs.declared.order.Way.{Way}
use Rattle.moves.specs.declared.order.Way.TheVariants.{Rows, Pixels, Runs}
use Rattle.moves.specs.Internal.Orders.{part_of, next_part, RightCut, SpanIn, InSpan, area_count, area_of}
use Rattle.moves.specs.Internal.Orders.{advanced, next_area, AreaIn, InArea, piece_of}
use Rattle.moves.specs.Internal.Orders.{RightCuts, PieceIn, InPiece}
use Rattle.moves.specs.Internal.Orders.{WayFits, PixelBands, Listed, ListedOrder, AreaMoves, Chosen}
use Rattle.moves.specs.Internal.Puts.{Samples, Target, Among, Puts}
use Rattle.moves.proofs.Putting.{Before, puts_none, puts_less, puts_turn}

-- ---- parts of a length

-- the part of a cut from a number on
abbrev span_from : Cut → ℕ → Span
span_from c from = record { from = from; count = min c.most (c.length - from) }

pub part-starts : (c : Cut) → RightCut c → (p : ℕ) → p < c.parts → p * c.most < c.length
part-starts c r p h = part-start c.length c.most p r.some (rw r.parts_are at h)

span_in : (c : Cut) → RightCut c → (p : ℕ) → p < c.parts → SpanIn c.length (part_of c p)
span_in c r p h = let l = part-starts c r p h in record { some = omega (arith, r.some); ends = omega arith }

-- the part that x is in
in_span : (c : Cut) → RightCut c → (x : ℕ) → x < c.length → InSpan (part_of c (x / c.most)) x
in_span c r x h =
    let e = div-add-mod' x c.most in
    record { low = omega arith; high = omega (arith, rest_lt c.length c.most x r.some h) }

parts_lt : (c : Cut) → RightCut c → (x : ℕ) → x < c.length → x / c.most < c.parts
parts_lt c r x h = rw r.parts_are (part_lt c.length c.most x r.some h)

-- the part after a part starts where it ends, and after the last one is the first
module _ (c : Cut) (r : RightCut c) (p : ℕ) where
  pub part-next : p + 1 < c.parts → next_part c (part_of c p) ≡ part_of c (p + 1)
  part-next h =
      let l = part-starts c r (p + 1) h in
      let e : p * c.most + min c.most (c.length - p * c.most) ≡ (p + 1) * c.most = omega (arith, suc-mul p c.most) in
      ap (span_from c) (rw e (pick_yes _ 0 (lt-ltb _ _ l)))

  pub part-first : p < c.parts → (p + 1 < c.parts → ⊥) → next_part c (part_of c p) ≡ part_of c 0
  part-first h last =
      let l = part-starts c r p h in
      let m : c.length ≤ (p + 1) * c.most = whole (dec_lt ((p + 1) * c.most) c.length) in
      let e : p * c.most + min c.most (c.length - p * c.most) ≡ c.length = omega (arith, suc-mul p c.most) in
      ap (span_from c) (rw e (pick_no _ 0 (le-ltb c.length c.length (omega arith))) ∙ z)
    where
      z : 0 ≡ 0 * c.most
      z = omega arith

      whole : Dec ((p + 1) * c.most < c.length) → c.length ≤ (p + 1) * c.most
      whole (yes l) =
          let e : ((p + 1) * c.most + 0) / c.most ≡ p + 1 = digits_div (p + 1) r.some in
          absurd (last (rw e at (parts_lt c r ((p + 1) * c.most + 0) (omega arith))))
      whole (no l) = omega arith

-- ---- areas

-- the parts of rows and columns that area a has
pub record Parts (o : Order) (a : ℕ) : Type 0 where
  pub some-columns : 0 < o.columns.parts
  pub in_rows : a / o.columns.parts < o.rows.parts
  pub in_columns : a % o.columns.parts < o.columns.parts

pub parts : (o : Order) (a : ℕ) → a < area_count o → Parts o a
parts o a h =
    let hc : 0 < o.columns.parts = pos o.columns.parts o.rows.parts a h in
    record { some-columns = hc; in_rows = (div-lt_iff_lt-mul hc).1 h; in_columns = mod-lt a hc }
  where
    pos : (n m k : ℕ) → k < m * n → 0 < n
    pos zero m k h = absurd (omega arith)
    pos (suc n) m k h = omega arith

-- the digits of the number after a
next-digits : (n a : ℕ) → 0 < n → a % n + 1 < n → ((a + 1) % n ≡ a % n + 1) × ((a + 1) / n ≡ a / n)
next-digits n a h l =
    let e : a + 1 ≡ a / n * n + (a % n + 1) = omega (arith, div-add-mod' a n) in
    (ap (λ (x : ℕ). x % n) e ∙ digits_mod (a / n) l, ap (λ (x : ℕ). x / n) e ∙ digits_div (a / n) l)

carried_digits : (n a : ℕ) → 0 < n → (a % n + 1 < n → ⊥) → ((a + 1) % n ≡ 0) × ((a + 1) / n ≡ a / n + 1)
carried_digits n a h l =
    let m = mod-lt a h in
    let e : a + 1 ≡ (a / n + 1) * n + 0 = omega (arith, div-add-mod' a n, suc-mul (a / n) n) in
    (ap (λ (x : ℕ). x % n) e ∙ digits_mod (a / n + 1) h, ap (λ (x : ℕ). x / n) e ∙ digits_div (a / n + 1) h)

-- a part begins at 0 exactly if it is the first
later_from : (c : Cut) → RightCut c → (p : ℕ) → ltb 0 ((p + 1) * c.most) ≡ true
later_from c r p = lt-ltb 0 ((p + 1) * c.most) (omega (arith, suc-mul p c.most, r.some))

first-from : (c : Cut) → ltb 0 (0 * c.most) ≡ false
first-from c = le-ltb 0 (0 * c.most) (omega arith)

-- the area after an area, as its two cases have it
module _ (o : Order) (a : Area) {c : Span} (ec : c ≡ next_part o.columns a.columns) where
  pub columns-go_on : 0 < c.from → record { rows = a.rows; columns = c } ≡ next_area o a
  columns-go_on h =
      let r : Span = next_part o.rows a.rows in
      sym (pick_yes _ _ (lt-ltb 0 c.from h)) ∙ ap (λ (s : Span). advanced s r a) ec

  pub rows-go_on : {r : Span} → r ≡ next_part o.rows a.rows → c.from ≤ 0
      → record { rows = r; columns = c } ≡ next_area o a
  rows-go_on {r} er first = sym (pick_no _ _ (le-ltb 0 c.from first)) ∙ (λ i. advanced (ec i) (er i) a)

-- what follows area a, by how far its columns go
module _ (o : Order) (q : RightCuts o) (a : ℕ) (h : a + 1 < area_count o) where
  abbrev m : ℕ
  m = o.columns.parts

  abbrev next-rows : Span
  next-rows = next_part o.rows (area_of o a).rows

  here : Parts o a
  here = parts o a (omega arith)

  -- area a + 1 by its two digits
  as_next : (r c : ℕ) → (a + 1) / m ≡ r → (a + 1) % m ≡ c
      → record { rows = part_of o.rows r; columns = part_of o.columns c } ≡ area_of o (a + 1)
  as_next r c er ec = λ i. record { rows = part_of o.rows (sym er i); columns = part_of o.columns (sym ec i) }

  more-columns : a % m + 1 < m → next_area o (area_of o a) ≡ area_of o (a + 1)
  more-columns l =
      let e = next-digits m a here.some-columns l in
      ap (λ (s : Span). advanced s next-rows (area_of o a)) (part-next o.columns q.columns-cut (a % m) l)
      ∙ pick_yes _ _ (later_from o.columns q.columns-cut (a % m)) ∙ as_next _ _ e.1 e.0

  more_rows : (a % m + 1 < m → ⊥) → next_area o (area_of o a) ≡ area_of o (a + 1)
  more_rows l =
      let e = carried_digits m a here.some-columns l in
      let i : a / m + 1 < o.rows.parts = rw e.1 at (parts o (a + 1) h).in_rows in
      ap (λ (s : Span). advanced s next-rows (area_of o a))
      (part-first o.columns q.columns-cut (a % m) here.in_columns l)
      ∙ pick_no _ _ (first-from o.columns)
      ∙ ap (λ (s : Span). record { rows = s; columns = part_of o.columns 0 })
      (part-next o.rows q.rows_cut (a / m) i)
      ∙ as_next _ _ e.1 e.0

  area_next : next_area o (area_of o a) ≡ area_of o (a + 1)
  area_next = go (dec_lt (a % m + 1) m)
    where
      go : Dec (a % m + 1 < m) → next_area o (area_of o a) ≡ area_of o (a + 1)
      go (yes l) = more-columns l
      go (no l) = more_rows l

-- which area a sample is in
abbrev pub area_number : Order → ℕ → ℕ → ℕ
area_number o r c = r / o.rows.most * o.columns.parts + c / o.columns.most

module _ (o : Order) (q : RightCuts o) (r c : ℕ) (hr : r < o.rows.length) (hc : c < o.columns.length) where
  number_lt : area_number o r c < area_count o
  number_lt = digits_lt (parts_lt o.rows q.rows_cut r hr) (parts_lt o.columns q.columns-cut c hc)

  in_area : (a b : ℕ) → area_number o r c ≡ a → InArea (area_of o a) b r c
  in_area a b e =
      let lc = parts_lt o.columns q.columns-cut c hc in
      let er : a / o.columns.parts ≡ r / o.rows.most
      = ap (λ (x : ℕ). x / o.columns.parts) (sym e) ∙ digits_div _ lc in
      let ec : a % o.columns.parts ≡ c / o.columns.most
      = ap (λ (x : ℕ). x % o.columns.parts) (sym e) ∙ digits_mod _ lc in
      record {
        in_r = rw er (in_span o.rows q.rows_cut r hr);
        in_c = rw ec (in_span o.columns q.columns-cut c hc);
      }

-- ---- an order that was chosen

-- fewer rows, or fewer bands, go the same way
way_area : (w : Way) (l : BlockLayout) (b r r' y : ℕ) → r' ≡ min r y → 0 < r' → WayFits w l b r → WayFits w l b r'
way_area Rows l b r r' y er hr w = w
way_area Pixels l b r r' y er hr w = (w.0, omega (arith, w.1), w.2, w.3)
way_area Runs l b r r' y er hr w = (omega (arith, w.0), w.1)

way_piece : (w : Way) (l : BlockLayout) (b r b' x : ℕ) → b' ≡ min b x → 0 < b' → WayFits w l b r → WayFits w l b' r
way_piece Rows l b r b' x eb hb w = (w.0, omega (arith, w.1))
way_piece Pixels l b r b' x eb hb w = w
way_piece Runs l b r b' x eb hb w = (w.0, omega (arith, w.1))

-- a part of as many as there are is all of them
listed_piece : (w : Way) (all : Bool) (bands most p : ℕ) → p * most < bands → ListedOrder w all bands most
    → Listed w all bands (record { from = p * most; count = min most (bands - p * most) })
listed_piece Rows all bands most p h x = tt
listed_piece Runs all bands most p h x = tt
listed_piece Pixels all bands most p h x =
    let z = none p most (omega (arith, x.1)) in
    (x.0, z, omega (arith, x.1))
  where
    none : (p n : ℕ) → p * n < n → p * n ≡ 0
    none zero n h = omega arith
    none (suc p) n h = absurd (omega (arith, suc-mul p n))

listed-order : (w : Way) (all : Bool) (together bands most : ℕ) → (0 < together → (all ≡ false) × (together ≡ bands))
    → PixelBands w together most → ListedOrder w all bands most
listed-order Rows all together bands most few x = tt
listed-order Runs all together bands most few x = tt
listed-order Pixels all together bands most few x = let f = few x.0 in (f.0, x.1 ∙ f.1)

module _ {l : BlockLayout} {together bands rows columns : ℕ} {o : Order}
    (ch : Chosen l together bands rows columns o) where
  -- as many areas as samples of a band at most
  le_parts : {c : Cut} {n : ℕ} → RightCut c → c.length ≡ n → c.parts ≤ n
  le_parts {c} r e = rw (r.parts_are, sym e) (ceil_le c.length c.most r.some)

  pub areas_fit : bands * rows * columns < 2 ^ 64 → 0 < bands → area_count o < 2 ^ 64
  areas_fit h some =
      let le = prod_le _ _ rows columns (le_parts ch.right.rows_cut ch.rows_are)
      (le_parts ch.right.columns-cut ch.columns_are) in
      let one = mul-le-mul_right (rows * columns) some in
      omega arith

  pub order_listed : (all : Bool) → (0 < together → (all ≡ false) × (together ≡ bands))
      → ListedOrder o.way all bands o.bands.most
  order_listed all few = listed-order o.way all together bands o.bands.most few ch.pixels

  module _ (a : ℕ) (h : a < area_count o) {q : Area} (e : q ≡ area_of o a) where
    pub area_within : AreaIn o.rows.length o.columns.length q
    area_within =
        let p = parts o a h in
        rw e
        (record {
          in_rows = span_in o.rows ch.right.rows_cut _ p.in_rows;
          in_columns = span_in o.columns ch.right.columns-cut _ p.in_columns;
        })

    pub area_follows : {r : Area} → r ≡ next_area o q → a + 1 < area_count o → r ≡ area_of o (a + 1)
    area_follows er l = er ∙ ap (next_area o) e ∙ area_next o ch.right a l

    pub area-moves : bands < 2 ^ 64 → AreaMoves l bands rows columns o q
    area-moves fits =
        let i = area_within in
        let r : q.rows.count ≡ min o.rows.most _ = ap (λ (x : Area). x.rows.count) e in
        record {
          bands-cut = ch.right.bands-cut;
          bands_are = ch.bands_are;
          parts-fit = omega (arith, le_parts ch.right.bands-cut ch.bands_are);
          inside = rw (sym ch.rows_are, sym ch.columns_are) i;
          way-fits = way_area o.way l _ _ _ _ r i.in_rows.some ch.way-fits;
        }

-- ---- a piece of an area

module _ {l : BlockLayout} {bands rows columns : ℕ} {o : Order} {q : Area} (mv : AreaMoves l bands rows columns o q)
    (p : ℕ) (h : p < o.bands.parts) where
  pub piece_starts : p * o.bands.most < o.bands.length
  piece_starts = part-starts o.bands mv.bands-cut p h

  module _ {x : Piece} (e : x ≡ piece_of o q p) where
    pub piece_inside : PieceIn bands rows columns x
    piece_inside =
        rw (e, sym mv.bands_are)
        (record {
          in_bands = span_in o.bands mv.bands-cut p h;
          in_rows = mv.inside.in_rows;
          in_columns = mv.inside.in_columns;
        })

    pub piece_way : WayFits o.way l x.bands.count x.rows.count
    piece_way =
        rw e
        (way_piece o.way l _ _ _ _ refl (span_in o.bands mv.bands-cut p h).some mv.way-fits)

    pub piece_listed : (all : Bool) → ListedOrder o.way all bands o.bands.most
        → Listed o.way all bands x.bands
    piece_listed all listed =
        rw (e, sym mv.bands_are)
        (listed_piece o.way all o.bands.length o.bands.most p piece_starts (rw mv.bands_are listed))

-- ---- a loop over the bands of an area, part by part

abbrev pub PartsBefore : Order → Area → ℕ → Samples
PartsBefore o q p = Before (InArea q) (λ b r c. b / o.bands.most) p

pub no-parts : (t : Target) (o : Order) (q : Area) (xs : List ℕ) → Puts t (PartsBefore o q 0) xs xs
no-parts t o q xs = puts_none t xs (λ b r c h. omega (arith, h.1))

module _ (t : Target) {l : BlockLayout} {rows columns : ℕ} {o : Order} {q : Area}
    (mv : AreaMoves l t.bands rows columns o q) where
  pub parts-turn : (p : ℕ) {x : Piece} {xs ys zs : List ℕ} → x ≡ piece_of o q p → Puts t (PartsBefore o q p) xs ys
      → Puts t (InPiece x) ys zs → Puts t (PartsBefore o q (p + 1)) xs zs
  parts-turn p e before now =
      puts_turn t p before
      (puts_less t now (λ b r c a h.
      rw e
      (record {
        in_b = rw (← h.1) (in_span o.bands mv.bands-cut b (omega (arith, a.in_b, mv.bands_are)));
        in_r = h.0.in_r;
        in_c = h.0.in_c;
      })))

  pub parts-done : (p : ℕ) {xs ys : List ℕ} → p ≡ o.bands.parts → Puts t (PartsBefore o q p) xs ys
      → Puts t (InArea q) xs ys
  parts-done p e x =
      puts_less t x (λ b r c a h.
      (h, rw e (parts_lt o.bands mv.bands-cut b (omega (arith, a.in_b, mv.bands_are)))))

-- ---- a loop over all areas

-- the samples of the areas before area a
abbrev pub AreasBefore : Order → ℕ → Samples
AreasBefore o a = Before (λ b r c. Unit {0}) (λ b r c. area_number o r c) a

module _ (t : Target) {l : BlockLayout} {together : ℕ} {o : Order}
    (ch : Chosen l together t.bands t.rows t.columns o) where
  pub area_turn : (a : ℕ) {q : Area} {xs ys zs : List ℕ} → q ≡ area_of o a → Puts t (AreasBefore o a) xs ys
      → Puts t (InArea q) ys zs → Puts t (AreasBefore o (a + 1)) xs zs
  area_turn a e x y =
      puts_turn t a x
      (puts_less t y (λ b r c i h.
      rw e
      (in_area o ch.right r c (omega (arith, i.in_r, ch.rows_are)) (omega (arith, i.in_c, ch.columns_are)) a b
      h.1)))

  pub areas_done : (a : ℕ) → a ≡ area_count o → (b r c : ℕ) → Among t b r c → AreasBefore o a b r c
  areas_done a e b r c i = (
    tt,
    rw e (number_lt o ch.right r c (omega (arith, i.in_r, ch.rows_are)) (omega (arith, i.in_c, ch.columns_are))),
  )
