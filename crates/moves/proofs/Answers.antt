-- Samples of a part put into an answer, in any order: only which of them are put counts.
-- Assumes nothing.
use Prim.Native.Nat.{ℕ, ◌+◌, ◌-◌, ◌*◌, ◌/◌, ◌%◌, ◌≤◌, ◌<◌}
use mathlib.Core.Path.{◌≡◌, refl, sym, ap, ◌∙◌}
use mathlib.Core.Logic.{◌≢◌}
use mathlib.Core.Bool.{Bool, true, false}
use mathlib.Core.List.{List}
use native.Mathlib.Omega.{arith}
use native.Mathlib.Decide.{dec_lt}
use native.Mathlib.Nat.{mod-lt, div-add-mod', div-lt_iff_lt-mul}
use lib.Arith.{digits_lt, digits_div}
use lib.ListN.{length, get_or}
use lib.Seq.{ext_get_or}
use Rattle.bits.specs.Bits.{be_bytes}
use Rattle.common.specs.Over.{over}
use Rattle.common.proofs.Over.{length_over, get_or-over_in, get_or-over-before, get_or-over-after}
use Rattle.layout.specs.Bands.{Bands, band_count, band_at}
use Rattle.common.proofs.Arith.{two_digits, three_digits}
use Rattle.common.proofs.Tests.{true_false, pick_yes, pick_no}
use Rattle.bits.specs.Values.{values}
use Rattle.bits.proofs.Values.{length-values, get_or-values}
use Rattle.samples.proofs.Patched.{length-patched, get_or-patched}
use Rattle.layout.specs.declared.BlockLayout.{BlockLayout}
use Rattle.layout.specs.Internal.Layout.{sample_bytes}
use Rattle.moves.specs.declared.part.Part.{Part}
use Rattle.moves.specs.Internal.Parts.{band_of, row_of, column_of, sample_at, part_sample, in_part, part_read, answer_number, answer_target}
use Rattle.moves.specs.Internal.Puts.{Samples, Among, Puts}
use Rattle.moves.proofs.Rect.{inside, within_rect, rect_part, number-of, digits_of}
use Rattle.moves.proofs.Putting.{Agree, puts_run}

module _ (l : BlockLayout) (src : List ℕ) (p : Part) (bs : Bands) (rows columns : ℕ)
    (pos : 0 < sample_bytes l) (to_rows : p.to_row + p.rows ≤ rows) (to_columns : p.to_column + p.columns
    ≤ columns) where
  answer-agree : Agree (answer_target l src p bs rows columns)
  answer-agree k i j y k' i' j' y' a a' h h' e =
      let q = two_digits (sample_bytes l) (answer_number p rows columns k i j) y (answer_number p rows columns k' i' j') y' h h'
      e in
      let d = three_digits rows columns k (p.to_row + i) (p.to_column + j) k' (p.to_row + i') (p.to_column + j')
      (omega (arith, a.in_r)) (omega (arith, a'.in_r)) (omega (arith, a.in_c)) (omega (arith, a'.in_c)) q.0 in
      same d.0 (omega arith) (omega arith) q.1
    where
      byte : ℕ → ℕ → ℕ → ℕ → ℕ
      byte k i j y = get_or (be_bytes (sample_bytes l) (sample_at l src (band_at bs k) (p.r + i) (p.c + j))) y 0

      same : k ≡ k' → i ≡ i' → j ≡ j' → y ≡ y' → byte k i j y ≡ byte k' i' j' y'
      same ek ei ej ey = cc

  -- n samples, the x-th of which is sample (k x, i x, j x) of the part, put side by side from index `to` on
  pub answer_run : {some : Samples} {xs ys : List ℕ} (w : ℕ → ℕ) (n to : ℕ) (k i j : ℕ → ℕ) → to + n * sample_bytes l
      ≤ length xs
      → ((x : ℕ) → x < n → Among (answer_target l src p bs rows columns) (k x) (i x) (j x))
      → ((x : ℕ) → x < n → answer_number p rows columns (k x) (i x) (j x) * sample_bytes l ≡ to + x * sample_bytes l)
      → ((x : ℕ) → x < n → w x ≡ sample_at l src (band_at bs (k x)) (p.r + i x) (p.c + j x))
      → ys ≡ over xs to (values w (sample_bytes l) n)
      → ((k' i' j' : ℕ) → Among (answer_target l src p bs rows columns) k' i' j' → some k' i' j'
      → (x : ℕ) × (x < n) × (k' ≡ k x) × (i' ≡ i x) × (j' ≡ j x))
      → Puts (answer_target l src p bs rows columns) some xs ys
  answer_run {some} {xs} {ys} w n to k i j fits are starts right e run =
      rw e
      (puts_run (answer_target l src p bs rows columns) answer-agree n k i j (length_over xs to _ room) (λ _. tt) are hit
      (λ q ne. other q ne (dec_lt q to) (dec_lt q (to + n * sample_bytes l))) run)
    where
      room : to + length (values w (sample_bytes l) n) ≤ length xs
      room = omega (arith, length-values w (sample_bytes l) n)

      hit : (x : ℕ) → x < n → (y : ℕ) → y < sample_bytes l
          → get_or (over xs to (values w (sample_bytes l) n)) (answer_number p rows columns (k x) (i x) (j x) *
          sample_bytes l + y) 0
          ≡ get_or (be_bytes (sample_bytes l) (sample_at l src (band_at bs (k x)) (p.r + i x) (p.c + j x))) y 0
      hit x h y m =
          ap (λ (q : ℕ). get_or (over xs to (values w (sample_bytes l) n)) q 0)
          (let q : answer_number p rows columns (k x) (i x) (j x) * sample_bytes l + y ≡ to + (x * sample_bytes l + y)
          = omega (arith, starts x h) in q)
          ∙ get_or-over_in xs to (values w (sample_bytes l) n) (x * sample_bytes l + y) 0 room
          (omega (arith, length-values w (sample_bytes l) n, digits_lt {q = x} {m = n} h m))
          ∙ get_or-values w (sample_bytes l) n x y h m
          ∙ ap (λ (z : ℕ). get_or (be_bytes (sample_bytes l) z) y 0) (right x h)

      other : (q : ℕ) → ((x y : ℕ) → x < n → y < sample_bytes l → q ≢ answer_number p rows columns (k x) (i x) (j x) *
          sample_bytes l + y)
          → Dec (q < to) → Dec (q < to + n * sample_bytes l) → get_or (over xs to (values w (sample_bytes l) n)) q 0
          ≡ get_or xs q 0
      other q ne (yes h) d = get_or-over-before xs to (values w (sample_bytes l) n) q 0 (omega arith) h
      other q ne (no h) (no g) =
          get_or-over-after xs to (values w (sample_bytes l) n) q 0 room (omega (arith, length-values w (sample_bytes l) n))
      other q ne (no h) (yes g) =
          let x : ℕ = (q - to) / sample_bytes l in
          let m : x < n = (div-lt_iff_lt-mul pos).1 (omega arith) in
          absurd (ne x ((q - to) % sample_bytes l) m (mod-lt (q - to) pos)
          (omega (arith, starts x m, div-add-mod' (q - to) (sample_bytes l))))

  -- all samples put, in whatever order
  pub answer-done : {some : Samples} {out after : List ℕ} → Puts (answer_target l src p bs rows columns) some out after
      → ((k i j : ℕ) → Among (answer_target l src p bs rows columns) k i j → some k i j) → after
      ≡ part_read l src p bs rows columns out
  unfolding part_sample
  answer-done {some} {out} {after} z all =
      ext_get_or 0 after (part_read l src p bs rows columns out) (z.size ∙ sym (length-patched s _ _ out))
      (λ x h. go x (omega (arith, z.size)) (in_part p count rows columns (x / s)) refl)
    where
      s : ℕ
      s = sample_bytes l

      count : ℕ
      count = band_count l.bands bs

      go : (x : ℕ) → x < length out → (t : Bool) → in_part p count rows columns (x / s) ≡ t → get_or after x 0
          ≡ get_or (part_read l src p bs rows columns out) x 0
      go x h true e =
          let n : ℕ = x / s in
          let t = inside _ _ _ _ _ rows columns n (rect_part p count rows columns n ∙ e) in
          let k : ℕ = band_of rows columns n in
          let i : ℕ = row_of rows columns n - p.to_row in
          let j : ℕ = column_of columns n - p.to_column in
          let ei : p.to_row + i ≡ row_of rows columns n = omega (arith, t.row_from) in
          let ej : p.to_column + j ≡ column_of columns n = omega (arith, t.column-from) in
          let q : answer_number p rows columns k i j ≡ n = rw (ei, ej) (sym (number-of rows columns n)) in
          let o : x ≡ answer_number p rows columns k i j * s + x % s = sym (div-add-mod' x s)
          ∙ ap (λ (y : ℕ). y * s + x % s) (sym q) in
          let a : Among (answer_target l src p bs rows columns) k i j
          = record {
            in_b = t.band_lt;
            in_r = omega (arith, t.row_to, t.row_from);
            in_c
                = omega (arith, t.column_to, t.column-from);
          } in
          ap (λ (y : ℕ). get_or after y 0) o ∙ z.put k i j a (all k i j a) (x % s) (mod-lt x pos)
          ∙ sym (get_or-patched s _ _ out x h ∙ pick_yes _ _ e)
      go x h false e =
          z.free x (λ k i j y a m o.
          let q : x / s ≡ answer_number p rows columns k i j = ap (λ (y : ℕ). y / s) o
          ∙ digits_div (answer_number p rows columns k i j) m in
          let d = digits_of rows columns k (p.to_row + i) (p.to_column + j) (x / s) (omega (arith, a.in_r))
          (omega (arith, a.in_c)) q in
          true_false
          (sym (within_rect count p.to_row p.rows p.to_column p.columns rows columns (x / s)
          (record {
            band_lt = rw d.band a.in_b;
            row_from = omega (arith, d.row);
            row_to = omega (arith, d.row, a.in_r);
            column-from = omega (arith, d.column);
            column_to = omega (arith, d.column, a.in_c);
          })) ∙ rect_part p count rows columns (x / s) ∙ e))
          ∙ sym (get_or-patched s _ _ out x h ∙ pick_no _ _ e)
