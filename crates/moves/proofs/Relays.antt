-- Laws of samples taken from one layout to another: along a line, in parts of a line, and line by line.
-- Assumes nothing.
use Prim.Native.Nat.{ℕ, ◌+◌, ◌-◌, ◌*◌, ◌%◌, ◌^◌, ◌≤◌, ◌<◌, min}
use mathlib.Core.Path.{◌≡◌, refl, sym, ap, ap₂, ◌∙◌}
use mathlib.Core.Logic.{◌⊎◌, inl, inr}
use mathlib.Core.List.{List}
use native.Mathlib.Omega.{arith}
use native.Mathlib.Decide.{dec_lt}
use native.Mathlib.Nat.{mod-lt, div-add-mod', div-lt_iff_lt-mul}
use lib.Arith.{digits_lt, digits_div, digits_mod}
use lib.ListN.{length}
use Rattle.bits.specs.Bits.{Bytes, bits_at, put_bits}
use Rattle.rows.proofs.WholeBytes.{last_row}
use Rattle.samples.specs.Internal.Samples.{spaced}
use Rattle.samples.proofs.Copied.{copied_spaced}
use Rattle.layout.specs.declared.InterleaveMode.{InterleaveMode}
use Rattle.layout.specs.declared.InterleaveMode.TheVariants.{B, P, R, S}
use Rattle.layout.specs.Order.{ordinal}
use Rattle.layout.specs.declared.BlockLayout.{BlockLayout}
use Rattle.layout.specs.Internal.Layout.{run_size, ordinal_in, bit_of, place, block_end, Sample, Sound}
use Rattle.layout.proofs.Places.{ordinal_in_runs, order_place, ends, place-le}
use Rattle.layout.proofs.Spaced.{stays}
use Rattle.moves.specs.declared.runs.Run.{Run}
use Rattle.moves.specs.Internal.Puts.{Samples}
use Rattle.moves.specs.Internal.Stores.{put_all}
use Rattle.moves.specs.Internal.Relays.{bits_of, Relayable, RunAt, Relaid}
use Rattle.moves.specs.Internal.Relays.{lines_of, line_of, line_size, band_in, column_in}
use Rattle.moves.specs.Internal.Relays.{Line, InLine, InWholeLine, InLines}
use Rattle.moves.proofs.Putting.{Before, puts_less, puts_then, puts_turn}
use Rattle.moves.proofs.Stored.{image_run, put-done}

-- ---- along a line

-- the order counts on by one from sample to sample
along_line : (m : InterleaveMode) (n v h b r x : ℕ) → b < lines_of m n
    → ordinal m n v h (band_in m n b x) r (column_in m n x) ≡ ordinal m n v h b r 0 + x
along_line B n v h b r x k = omega arith
along_line P n v h b r x k = omega (arith, div-add-mod' x n)
along_line R n v h b r x k = omega arith
along_line S n v h b r x k = omega arith

-- each is a sample of the block
line_sample : (m : InterleaveMode) (n h b x : ℕ) → 0 < n → b < lines_of m n → x < line_size m n h
    → (band_in m n b x < n) × (column_in m n x < h)
line_sample B n h b x p k l = (k, l)
line_sample P n h b x p k l = (mod-lt x p, (div-lt_iff_lt-mul p).1 l)
line_sample R n h b x p k l = (k, l)
line_sample S n h b x p k l = (k, l)

-- each sample of the block is in a line
line_of_lt : (m : InterleaveMode) (n b : ℕ) → b < n → line_of m b < lines_of m n
line_of_lt B n b h = h
line_of_lt P n b h = omega arith
line_of_lt R n b h = h
line_of_lt S n b h = h

in_a_line : (m : InterleaveMode) (n h b c : ℕ) → b < n → c < h
    → (x : ℕ) × (x < line_size m n h) × (b ≡ band_in m n (line_of m b) x) × (c ≡ column_in m n x)
in_a_line B n h b c hb hc = (c, hc, refl, refl)
in_a_line P n h b c hb hc = (c * n + b, digits_lt {q = c} {m = h} hc hb, sym (digits_mod c hb), sym (digits_div c hb))
in_a_line R n h b c hb hc = (c, hc, refl, refl)
in_a_line S n h b c hb hc = (c, hc, refl, refl)

-- inside a run the bits go on
bit_along : (l : BlockLayout) (n x : ℕ) → n % run_size l + x < run_size l → bit_of l (n + x) ≡ bit_of l n + x * l.nbpp
bit_along l n x h =
    let q = stays n x (run_size l) (omega arith) h in
    ap₂ (λ (k y : ℕ). 8 * (l.first + k * l.apart) + y * l.nbpp) q.0 q.1 ∙ omega arith

-- ---- a line in a layout

-- line b of row r in a layout of mode m, n bands and h columns
pub record LineIn (l : BlockLayout) (m : InterleaveMode) (n h b r : ℕ) : Type 0 where
  pub sound : Sound l
  pub mode : l.mode ≡ m
  pub bands : l.bands ≡ n
  pub columns : l.columns ≡ h
  pub in_b : b < lines_of m n
  pub in_r : r < l.rows

module _ {l : BlockLayout} {m : InterleaveMode} {n h b r : ℕ} (i : LineIn l m n h b r) where
  sample_in : (x : ℕ) → x < line_size m n h → Sample l (band_in m n b x) r (column_in m n x)
  sample_in x k =
      let p : 0 < n = omega (arith, i.sound.some-bands, i.bands) in
      let q = line_sample m n h b x p i.in_b k in
      record { in_b = omega (arith, q.0, i.bands); in_r = i.in_r; in_c = omega (arith, q.1, i.columns) }

  order_in : (x : ℕ) → ordinal_in l (band_in m n b x) r (column_in m n x) ≡ ordinal_in l b r 0 + x
  order_in x = rw (i.mode, i.bands) (along_line m n l.run_rows l.run_columns b r x i.in_b)

  -- its samples are in the runs
  pub in_runs : (x : ℕ) → x < line_size m n h → ordinal_in l b r 0 + x < l.bands * run_size l
  in_runs x k = omega (arith, order_in x, ordinal_in_runs l i.sound _ _ _ (sample_in x k))

  -- those after its first d that are in one run
  place_in : (d x : ℕ) (run : Run) → RunAt l (ordinal_in l b r 0 + d) run → x < run.count
      → place l (band_in m n b (d + x)) r (column_in m n (d + x)) ≡ run.at + x * l.nbpp
  unfolding place
  place_in d x run q k =
      ap (bit_of l) (order_in (d + x) ∙ omega arith)
      ∙ bit_along l (ordinal_in l b r 0 + d) x (omega (arith, q.count-is))
      ∙ ap (λ (a : ℕ). a + x * l.nbpp) (sym q.starts)

  -- k of them end inside the block
  pub part_ends : (d k : ℕ) (run : Run) → RunAt l (ordinal_in l b r 0 + d) run → 0 < k → k ≤ run.count
      → d + k ≤ line_size m n h → (run.at + k * l.nbpp ≤ 8 * block_end l) × (run.at + k * l.nbpp ≤ 2 ^ 59)
  part_ends d k run q some most inside =
      let x : ℕ = k - 1 in
      let t = sample_in (d + x) (omega arith) in
      let e = place_in d x run q (omega arith) in
      let w = last_row k l.nbpp some in
      (omega (arith, ends l i.sound _ _ _ t), omega (arith, place-le l i.sound _ _ _ t))

-- a run has a sample left
run_some : (l : BlockLayout) (n : ℕ) (run : Run) → Sound l → n < l.bands * run_size l → RunAt l n run
    → 0 < run.count
run_some l n run f h q = omega (arith, q.count-is, mod-lt n (order_place l f n h).size-pos)

-- ---- a line on both sides

-- k samples of a line after its first d, in one run of each layout
pub record Part (from to : BlockLayout) (b r d k : ℕ) (given taken : Run) : Type 0 where
  pub given-is : RunAt from (ordinal_in from b r 0 + d) given
  pub taken-is : RunAt to (ordinal_in to b r 0 + d) taken
  pub some : 0 < k
  pub given-le : k ≤ given.count
  pub taken-le : k ≤ taken.count
  pub inside : d + k ≤ line_size to.mode to.bands to.columns

module _ {from to : BlockLayout} {n m : ℕ} (t : Relayable from to n m) {b r : ℕ} (i : Line to b r) where
  pub line_to : LineIn to to.mode to.bands to.columns b r
  line_to =
      record { sound = t.sound_to; mode = refl; bands = refl; columns = refl; in_b = i.in_b; in_r = i.in_r }

  pub line_from : LineIn from to.mode to.bands to.columns b r
  line_from =
      let s = t.same in
      record {
        sound = t.sound_from;
        mode = sym s.mode;
        bands = sym s.bands;
        columns = sym s.columns;
        in_b = i.in_b;
        in_r = omega (arith, i.in_r, s.rows);
      }

  -- as many as there are in both runs
  pub part_is : (d : ℕ) (given taken : Run) {x y k most size : ℕ} → x ≡ ordinal_in from b r 0 → y ≡ ordinal_in to b r 0
      → RunAt from (x + d) given → RunAt to (y + d) taken → size ≡ line_size to.mode to.bands to.columns
      → d < size → most ≡ min given.count taken.count → k ≡ min (size - d) most → Part from to b r d k given taken
  part_is d given taken ex ey qf qt es h em ek =
      let g = rw ex at qf in
      let q = rw ey at qt in
      let k : d < line_size to.mode to.bands to.columns = omega arith in
      record {
        given-is = g;
        taken-is = q;
        some =
            omega (
              arith,
              run_some from _ given t.sound_from (in_runs line_from d k) g,
              run_some to _ taken t.sound_to (in_runs line_to d k) q,
            );
        given-le = omega arith;
        taken-le = omega arith;
        inside = omega arith;
      }

  module _ {d k : ℕ} {given taken : Run} (p : Part from to b r d k given taken) where
    -- their bits are there on both sides, and can be counted
    pub part_fits : (given.at + k * to.nbpp ≤ 8 * n) × (taken.at + k * to.nbpp ≤ 8 * m)
        × (given.at + k * to.nbpp ≤ 2 ^ 59) × (taken.at + k * to.nbpp ≤ 2 ^ 59)
    part_fits =
        let g = part_ends line_from d k given p.given-is p.some p.given-le p.inside in
        let q = part_ends line_to d k taken p.taken-is p.some p.taken-le p.inside in
        let e = ap (λ (w : ℕ). k * w) t.same.nbpp in (
          omega (arith, g.0, t.from_held),
          omega (arith, q.0, t.to_held),
          omega (arith, g.1),
          omega (arith, q.1),
        )

    -- copied, they are put
    pub part_put : (scratch : List ℕ) {xs ys : List ℕ} → length xs ≡ m
        → ys ≡ put_bits xs taken.at (k * to.nbpp) (bits_at scratch given.at (k * to.nbpp))
        → Relaid from scratch to (InLine to b r d k) xs ys
    unfolding spaced
    part_put scratch es e =
        let w : ℕ = to.nbpp in
        image_run to t.sound_to (bits_of from scratch) (spaced scratch given.at w w) k taken.at w
        (λ x. band_in to.mode to.bands b (d + x)) (λ _. r) (λ x. column_in to.mode to.bands (d + x))
        (omega (arith, es, t.to_held)) (omega arith)
        (λ x h. sample_in line_to (d + x) (omega (arith, p.inside)))
        (λ x h. place_in line_to d x taken p.taken-is (omega (arith, p.taken-le)))
        (λ x h.
        ap (λ (z : ℕ). z % 2 ^ w)
        (ap (λ (z : ℕ). bits_at scratch (given.at + x * z) z) t.same.nbpp
        ∙ ap (λ (z : ℕ). bits_at scratch z from.nbpp)
        (sym (place_in line_from d x given p.given-is (omega (arith, p.given-le))))))
        (copied_spaced scratch given.at taken.at w k _ e)
        (λ b' r' c' a h.
        let f : d + (h.x - d) ≡ h.x = omega (arith, h.low-le) in (
          h.x - d,
          omega (arith, h.low-le, h.x_lt),
          h.eq_b ∙ ap (band_in to.mode to.bands b) (sym f),
          h.eq_r,
          h.eq_c ∙ ap (column_in to.mode to.bands) (sym f),
        ))

-- the lines before line k of each row
abbrev pub LinesBefore : BlockLayout → ℕ → Samples
LinesBefore to k = Before (λ b r c. Unit {0}) (λ b r c. line_of to.mode b) k

-- the lines b of the rows before row k
abbrev pub RowsBefore : BlockLayout → (b k : ℕ) → Samples
RowsBefore to b k = Before (InLines to b) (λ b' r c. r) k

module _ (from : BlockLayout) (scratch : List ℕ) (to : BlockLayout) where
  -- samples of a line put so far, and those of another part
  pub line_then : (b r d k : ℕ) {xs ys zs : List ℕ}
      → Relaid from scratch to (InLine to b r 0 d) xs ys → Relaid from scratch to (InLine to b r d k) ys zs
      → Relaid from scratch to (InLine to b r 0 (d + k)) xs zs
  line_then b r d k p q = puts_then _ p q (λ b' r' c' a h. go b' r' c' h (dec_lt h.x d))
    where
      go : (b' r' c' : ℕ) → (h : InLine to b r 0 (d + k) b' r' c') → Dec (h.x < d)
          → InLine to b r 0 d b' r' c' ⊎ InLine to b r d k b' r' c'
      go b' r' c' h (yes l) =
          inl (record { x = h.x; low-le = h.low-le; x_lt = omega arith; eq_b = h.eq_b; eq_r = h.eq_r; eq_c = h.eq_c })
      go b' r' c' h (no l) =
          inr
          (record {
            x = h.x;
            low-le = omega arith;
            x_lt = omega (arith, h.x_lt);
            eq_b = h.eq_b;
            eq_r = h.eq_r;
            eq_c = h.eq_c;
          })

  -- ---- line by line

  -- one more line b, that of row k
  pub rows_turn : (b k : ℕ) {xs ys zs : List ℕ} → Relaid from scratch to (RowsBefore to b k) xs ys
      → Relaid from scratch to (InWholeLine to b k) ys zs → Relaid from scratch to (RowsBefore to b (k + 1)) xs zs
  rows_turn b k p q =
      puts_turn _ k p
      (puts_less _ q
      (λ b' r' c' a h.
      let o = in_a_line to.mode to.bands to.columns b' c' a.in_b a.in_c in
      record {
        x = o.0;
        low-le = omega arith;
        x_lt = omega (arith, o.1);
        eq_b = o.2 ∙ ap (λ (z : ℕ). band_in to.mode to.bands z o.0) h.0;
        eq_r = h.1;
        eq_c = o.3;
      }))

  pub rows_done : (b k : ℕ) {xs ys : List ℕ} → to.rows ≤ k → Relaid from scratch to (RowsBefore to b k) xs ys
      → Relaid from scratch to (InLines to b) xs ys
  rows_done b k h p = puts_less _ p (λ b' r' c' a g. (g, omega (arith, a.in_r)))

  -- one more line of each row
  pub block_turn : (k : ℕ) {xs ys zs : List ℕ}
      → Relaid from scratch to (LinesBefore to k) xs ys → Relaid from scratch to (InLines to k) ys zs
      → Relaid from scratch to (LinesBefore to (k + 1)) xs zs
  block_turn k p q = puts_turn _ k p (puts_less _ q (λ b r c a h. h.1))

  pub block_done : {xs ys : List ℕ} → Sound to → Bytes xs → block_end to ≤ length xs → (k : ℕ)
      → lines_of to.mode to.bands ≤ k → Relaid from scratch to (LinesBefore to k) xs ys
      → ys ≡ put_all to (bits_of from scratch) xs
  block_done f bytes held k h p =
      put-done to f _ bytes held p (λ b r c a. (tt, omega (arith, line_of_lt to.mode to.bands b a.in_b)))
