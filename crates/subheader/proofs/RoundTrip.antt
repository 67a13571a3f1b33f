-- A written subheader reads as the same fields, or is refused by 2 with a table that bars its width; a read one, written
-- again, reads as the same.
-- Assumes nothing.
use mathlib.Core.Path.{◌≡◌, refl, sym, ap, ◌∙◌}
use mathlib.Core.Bool.{Bool, true, false}
use mathlib.Core.List.{List, []}
use Prim.Native.Nat.{ℕ, ◌+◌, ◌^◌, ◌≤◌, ◌<◌}
use native.Mathlib.Decide.{dec_lt}
use native.Mathlib.Omega.{arith}
use borrow.Author.Tests.{le-leb, lt-leb, eq-eqb, ne_eqb}
use lib.Dec.{lit<}
use lib.ListN.{length, get_or, take}
use lib.Seq.{length-take-le}
use Rattle.common.specs.Questions.{outcome}
use Rattle.common.specs.Tests.{every, pick}
use Rattle.common.specs.Rounding.{ceil_div}
use Rattle.common.proofs.Arith.{part-start, ceil_pos}
use Rattle.common.proofs.Questions.{ask-yes, ask-inv, outcome-yes, outcome-zero}
use Rattle.common.proofs.Tests.{pick_yes}
use Rattle.layout.specs.declared.InterleaveMode.TheVariants.{B}
use Rattle.widths.specs.declared.Widths.{Widths}
use Rattle.widths.specs.Widths.{takes}
use Rattle.grid.specs.declared.EdgeRule.{EdgeRule}
use Rattle.grid.specs.Sizes.{band_bytes}
use Rattle.grid.specs.Check.{q1, q3, q4, Accepted, ask_grid, grid_number}
use Rattle.grid.proofs.Accepted.{Side, block-sides, answered, facts, grid-yes, grid-open, grid_barred}
use Rattle.digits.specs.Digits.{are_digits, number_of, digit_bytes}
use Rattle.digits.proofs.Digits.{length-digit_bytes, digits_are, number_of_digits, number_lt}
use Rattle.fields.specs.declared.named.PixelValueType.TheVariants.{UnsignedInt}
use Rattle.fields.specs.declared.named.PixelJustification.TheVariants.{Right}
use Rattle.fields.specs.declared.named.ImageCompression.TheVariants.{NC}
use Rattle.subheader.specs.declared.ImageSubheader.{ImageSubheader}
use Rattle.fields.specs.Named.{is_named, value_of, pvtypes, pvtype_text, pjusts, pjust_text}
use Rattle.fields.specs.Named.{ics, ic_text, imodes, imode_text}
use Rattle.fields.specs.declared.Field.{Field}
use Rattle.fields.specs.Fields.{field, number, bytes_in, is_number, number_in, Entry, put_all, NROWS, NCOLS, PVTYPE, IREP}
use Rattle.fields.specs.Fields.{ICAT, ABPP, PJUST, IC, IMODE, NBPR, NBPC, NPPBH, NPPBV, NBPP, text}
use Rattle.fields.specs.Sides.{effective, written_side}
use Rattle.subheader.specs.Subheader.{ReadSubheader, parts_fit, first_numbers, third_numbers, q23, q24}
use Rattle.subheader.specs.Subheader.{grid_of_parts, fields_in, read_number, no_subheader, read_as, read_subheader}
use Rattle.subheader.specs.Subheader.{write_number, q24_write, first_entries, second_entries, third_entries, PartsOut, write_subheader}
use Rattle.subheader.specs.RoundTrip.{RuleNotWritten, Eights, read_back}
use Rattle.subheader.specs.RoundTrip.{WrittenReadsBack, OtherWidthsReadBack, ReadWrittenAgain}
use Rattle.fields.proofs.Entries.{Fits, Laid, laid_reads, length-put_all, length-bytes_in, bytes_in-front}
use Rattle.fields.proofs.Values.{pvtype_back, pjust_back, ic_back, imode_back}
use Rattle.subheader.proofs.Parts.{held, Held, numbered}

-- ---- sides of a block

-- a picture in blocks as long as it has one
one_block : (n : ℕ) → 0 < n → ceil_div n n ≡ 1
one_block n h = go (dec_lt 1 (ceil_div n n))
  where
    go : Dec (1 < ceil_div n n) → ceil_div n n ≡ 1
    go (yes l) = absurd (omega (arith, part-start n n 1 h l))
    go (no l) = omega (arith, ceil_pos n n h h)

-- the written side is meant as the side
side_back : (side picture blocks : ℕ) → Side side picture → blocks ≡ ceil_div picture side → effective (written_side side) blocks picture ≡ side
unfolding effective written_side pick every
side_back side picture blocks s e = go (dec_lt 8_192 side)
  where
    go : Dec (8_192 < side) → effective (written_side side) blocks picture ≡ side
    go (no h) = simp (le-leb side 8_192 (omega arith), ne_eqb side 0 (λ z. omega (arith, s.pos)))
    go (yes h) =
        let q : side ≡ picture = s.own h in
        let b : blocks ≡ 1 = e ∙ ap (ceil_div picture) q ∙ one_block picture (omega (arith, s.pos)) in
        simp (lt-leb side 8_192 h, eq-eqb blocks 1 b) (sym q)

written_lt : (side : ℕ) → written_side side < 10 ^ 4
unfolding written_side pick
written_lt side = go (dec_lt 8_192 side)
  where
    go : Dec (8_192 < side) → written_side side < 10 ^ 4
    go (no h) = simp (le-leb side 8_192 (omega arith)) (omega arith)
    go (yes h) = simp (lt-leb side 8_192 h) (lit< tt)

-- ---- the parts that the writer leaves

number_fits : (n at size v : ℕ) → at + size ≤ n → Fits n (number (field at size) v)
number_fits n at size v h = record { long = length-digit_bytes size v; inside = h }

text-fits : (n at size : ℕ) (xs : List ℕ) → length xs ≡ size → at + size ≤ n → Fits n (text (field at size) xs)
text-fits n at size xs l h = record { long = l; inside = h }

first-laid : (s : ImageSubheader) (n : ℕ) → Eights s → 38 ≤ n → Laid n 0 (first_entries s)
first-laid s n t h = (
  omega arith,
  number_fits n 0 8 _ (omega arith),
  (
    omega arith,
    number_fits n 8 8 _ (omega arith),
    (
      omega arith,
      text-fits n 16 3 _ (pvtype_back s.pvtype).2 (omega arith),
      (
        omega arith,
        text-fits n 19 8 _ t.irep_eight (omega arith),
        (
          omega arith,
          text-fits n 27 8 _ t.icat_eight (omega arith),
          (
            omega arith,
            number_fits n 35 2 _ (omega arith),
            (omega arith, text-fits n 37 1 _ (pjust_back s.pjust).2 (omega arith), tt),
          ),
        ),
      ),
    ),
  ),
)

second-laid : (s : ImageSubheader) (n : ℕ) → 2 ≤ n → Laid n 0 (second_entries s)
second-laid s n h = (omega arith, text-fits n 0 2 _ (ic_back s.ic).2 (omega arith), tt)

third-laid : (s : ImageSubheader) (n : ℕ) → 19 ≤ n → Laid n 0 (third_entries s)
third-laid s n h = (
  omega arith,
  text-fits n 0 1 _ (imode_back s.grid.imode).2 (omega arith),
  (
    omega arith,
    number_fits n 1 4 _ (omega arith),
    (
      omega arith,
      number_fits n 5 4 _ (omega arith),
      (
        omega arith,
        number_fits n 9 4 _ (omega arith),
        (
          omega arith,
          number_fits n 13 4 _ (omega arith),
          (omega arith, number_fits n 17 2 _ (omega arith), tt),
        ),
      ),
    ),
  ),
)

-- what get_or answers past the end of a list
none : Entry
none = text IC []

-- what stands in each field
record Written (s : ImageSubheader) (first second third : List ℕ) : Type 0 where
  first-length : length first ≡ 38
  second-length : length second ≡ 2
  third-length : length third ≡ 19
  nrows : bytes_in first NROWS ≡ digit_bytes 8 s.grid.nrows
  ncols : bytes_in first NCOLS ≡ digit_bytes 8 s.grid.ncols
  pvtype : bytes_in first PVTYPE ≡ pvtype_text s.pvtype
  irep : bytes_in first IREP ≡ s.irep
  icat : bytes_in first ICAT ≡ s.icat
  abpp : bytes_in first ABPP ≡ digit_bytes 2 s.abpp
  pjust : bytes_in first PJUST ≡ pjust_text s.pjust
  ic : bytes_in second IC ≡ ic_text s.ic
  imode : bytes_in third IMODE ≡ imode_text s.grid.imode
  nbpr : bytes_in third NBPR ≡ digit_bytes 4 s.grid.nbpr
  nbpc : bytes_in third NBPC ≡ digit_bytes 4 s.grid.nbpc
  nppbh : bytes_in third NPPBH ≡ digit_bytes 4 (written_side s.grid.nppbh)
  nppbv : bytes_in third NPPBV ≡ digit_bytes 4 (written_side s.grid.nppbv)
  nbpp : bytes_in third NBPP ≡ digit_bytes 2 s.grid.nbpp

-- entry i of a part that was written to an output of n bytes, in the front m of them
front_reads : (m n : ℕ) (part : List ℕ) (es : List Entry) → length part ≡ n → m ≤ n → Laid n 0 es → (i : ℕ) → i < length es
    → (get_or es i none).place.at + (get_or es i none).place.size ≤ m
    → bytes_in (take m (put_all part es)) (get_or es i none).place ≡ (get_or es i none).bytes
front_reads m n part es l h t i k f =
    let e : length (put_all part es) ≡ n = length-put_all n 0 part es l t in
    bytes_in-front (put_all part es) m (get_or es i none).place f (omega (arith, h, e)) ∙ laid_reads n 0 part es none l t i k

written : {ws : Widths} (s : ImageSubheader) (a b c : List ℕ) → Eights s → Held ws s (length a) (length b) (length c)
    → Written s (take 38 (put_all a (first_entries s))) (take 2 (put_all b (second_entries s))) (take 19 (put_all c (third_entries s)))
written s a b c t h =
    let la = first-laid s (length a) t h.first in
    let lb = second-laid s (length b) h.second in
    let lc = third-laid s (length c) h.third in
    let na : length (put_all a (first_entries s)) ≡ length a = length-put_all (length a) 0 a (first_entries s) refl la in
    let nb : length (put_all b (second_entries s)) ≡ length b = length-put_all (length b) 0 b (second_entries s) refl lb in
    let nc : length (put_all c (third_entries s)) ≡ length c = length-put_all (length c) 0 c (third_entries s) refl lc in
    record {
      first-length = length-take-le 38 (put_all a (first_entries s)) (omega (arith, na, h.first));
      second-length = length-take-le 2 (put_all b (second_entries s)) (omega (arith, nb, h.second));
      third-length = length-take-le 19 (put_all c (third_entries s)) (omega (arith, nc, h.third));
      nrows = front_reads 38 (length a) a (first_entries s) refl h.first la 0 (omega arith) (omega arith);
      ncols = front_reads 38 (length a) a (first_entries s) refl h.first la 1 (omega arith) (omega arith);
      pvtype = front_reads 38 (length a) a (first_entries s) refl h.first la 2 (omega arith) (omega arith);
      irep = front_reads 38 (length a) a (first_entries s) refl h.first la 3 (omega arith) (omega arith);
      icat = front_reads 38 (length a) a (first_entries s) refl h.first la 4 (omega arith) (omega arith);
      abpp = front_reads 38 (length a) a (first_entries s) refl h.first la 5 (omega arith) (omega arith);
      pjust = front_reads 38 (length a) a (first_entries s) refl h.first la 6 (omega arith) (omega arith);
      ic = front_reads 2 (length b) b (second_entries s) refl h.second lb 0 (omega arith) (omega arith);
      imode = front_reads 19 (length c) c (third_entries s) refl h.third lc 0 (omega arith) (omega arith);
      nbpr = front_reads 19 (length c) c (third_entries s) refl h.third lc 1 (omega arith) (omega arith);
      nbpc = front_reads 19 (length c) c (third_entries s) refl h.third lc 2 (omega arith) (omega arith);
      nppbh = front_reads 19 (length c) c (third_entries s) refl h.third lc 3 (omega arith) (omega arith);
      nppbv = front_reads 19 (length c) c (third_entries s) refl h.third lc 4 (omega arith) (omega arith);
      nbpp = front_reads 19 (length c) c (third_entries s) refl h.third lc 5 (omega arith) (omega arith);
    }

-- ---- read again

number_back : (part : List ℕ) (f : Field) (v : ℕ) → bytes_in part f ≡ digit_bytes f.size v → v < 10 ^ f.size → number_in part f ≡ v
number_back part f v e h = ap number_of e ∙ number_of_digits f.size v h

digits_back : (part : List ℕ) (f : Field) (v : ℕ) → bytes_in part f ≡ digit_bytes f.size v → is_number part f ≡ true
digits_back part f v e = ap are_digits e ∙ digits_are f.size v

module _ (s : ImageSubheader) (first second third : List ℕ) (w : Written s first second third) (le : s.abpp ≤ 99) (acc : Accepted s.grid) where
  fields_back : fields_in first second third s.grid.bands s.grid.edges ≡ s
  fields_back =
      let g = s.grid in
      let f = facts g acc in
      let d = block-sides g (answered g acc).q1-yes in
      rw (
        w.irep,
        w.icat,
        ap (value_of pvtype_text pvtypes UnsignedInt) w.pvtype ∙ (pvtype_back s.pvtype).1,
        ap (value_of pjust_text pjusts Right) w.pjust ∙ (pjust_back s.pjust).1,
        ap (value_of ic_text ics NC) w.ic ∙ (ic_back s.ic).1,
        ap (value_of imode_text imodes B) w.imode ∙ (imode_back g.imode).1,
        number_back first NROWS g.nrows w.nrows (omega (arith, f.sides.nrows-le)),
        number_back first NCOLS g.ncols w.ncols (omega (arith, f.sides.ncols-le)),
        number_back first ABPP s.abpp w.abpp (omega (arith, le)),
        number_back third NBPR g.nbpr w.nbpr (omega (arith, f.counts.nbpr-le)),
        number_back third NBPC g.nbpc w.nbpc (omega (arith, f.counts.nbpc-le)),
        number_back third NPPBH (written_side g.nppbh) w.nppbh (written_lt g.nppbh),
        number_back third NPPBV (written_side g.nppbv) w.nppbv (written_lt g.nppbv),
        number_back third NBPP g.nbpp w.nbpp (omega (arith, f.sides.nbpp-le)),
        side_back g.nppbh g.ncols g.nbpr d.across f.counts.across,
        side_back g.nppbv g.nrows g.nbpc d.down f.counts.down,
      )

  parts_back : q23 first second third ≡ true
  unfolding q23 parts_fit first_numbers third_numbers every
  parts_back =
      rw (
        eq-eqb _ _ w.first-length,
        eq-eqb _ _ w.second-length,
        eq-eqb _ _ w.third-length,
        digits_back first NROWS _ w.nrows,
        digits_back first NCOLS _ w.ncols,
        digits_back first ABPP _ w.abpp,
        digits_back third NBPR _ w.nbpr,
        digits_back third NBPC _ w.nbpc,
        digits_back third NPPBH _ w.nppbh,
        digits_back third NPPBV _ w.nppbv,
        digits_back third NBPP _ w.nbpp,
      )

  named_back : q24 first second third ≡ true
  unfolding q24 every
  named_back =
      rw (
        ap (is_named pvtype_text pvtypes) w.pvtype ∙ (pvtype_back s.pvtype).0,
        ap (is_named pjust_text pjusts) w.pjust ∙ (pjust_back s.pjust).0,
        ap (is_named ic_text ics) w.ic ∙ (ic_back s.ic).0,
        ap (is_named imode_text imodes) w.imode ∙ (imode_back s.grid.imode).0,
      )

  -- read with another table, whose question 2 decides
  read_back_lem : (vs : Widths) → read_subheader vs first second third s.grid.bands s.grid.edges
      ≡ pick (takes vs s.grid.nbpp) (read_as 0 s) (read_as 2 no_subheader)
  unfolding read_subheader read_number outcome pick
  read_back_lem vs = go (takes vs s.grid.nbpp) refl
    where
      number-is : read_number vs first second third s.grid.bands s.grid.edges ≡ ask_grid vs s.grid 0
      number-is =
          ask-yes 23 _ parts_back ∙ ask-yes 24 _ named_back
          ∙ ap (λ (x : ImageSubheader). ask_grid vs x.grid 0) fields_back

      go : (b : Bool) → takes vs s.grid.nbpp ≡ b → read_subheader vs first second third s.grid.bands s.grid.edges
          ≡ pick b (read_as 0 s) (read_as 2 no_subheader)
      go true e = rw (number-is ∙ grid-open vs s.grid 0 acc e) (ap (read_as 0) fields_back)
      go false e = rw (number-is ∙ grid_barred vs s.grid 0 acc e)

-- ---- the theorems

-- the questions of an accepted write
write-accepted : (ws : Widths) (s : ImageSubheader) (a b c : List ℕ) → (write_subheader ws s a b c).number ≡ 0
    → write_number ws s (length a) (length b) (length c) ≡ 0
unfolding write_subheader
write-accepted ws s a b c e = outcome-zero _ _ _ (λ (o : PartsOut). o.number) (λ k. refl) e

pub other_widths_read_back : OtherWidthsReadBack
unfolding write_subheader
other_widths_read_back ws vs s first second third t e =
    let n = write-accepted ws s first second third e in
    let h = held ws s (length first) (length second) (length third) n in
    ap (λ (o : PartsOut). read_back vs o s.grid.bands s.grid.edges) (outcome-yes _ _ n)
    ∙ read_back_lem s _ _ _ (written s first second third t h) h.abpp-le h.accepted vs

-- the table that the write was handed takes the width
pub written_reads_back : WrittenReadsBack
written_reads_back ws s first second third t e =
    let n = write-accepted ws s first second third e in
    other_widths_read_back ws ws s first second third t e ∙ pick_yes _ _ (held ws s _ _ _ n).taken

-- a read subheader: its fields, and that they can be written
record Read (ws : Widths) (first second third : List ℕ) (bands : ℕ) (edges : EdgeRule) : Type 0 where
  is : read_subheader ws first second third bands edges ≡ read_as 0 (fields_in first second third bands edges)
  eights : Eights (fields_in first second third bands edges)
  abpp-le : number_in first ABPP ≤ 99
  accepted : grid_number ws (grid_of_parts first third bands edges) ≡ 0

read : (ws : Widths) (first second third : List ℕ) (bands : ℕ) (edges : EdgeRule)
    → (read_subheader ws first second third bands edges).number ≡ 0 → Read ws first second third bands edges
unfolding read_subheader read_number grid_number
read ws first second third bands edges e =
    let n : read_number ws first second third bands edges ≡ 0 =
    outcome-zero _ _ _ (λ (r : ReadSubheader). r.number) (λ k. refl) e in
    let a = ask-inv 23 (q23 first second third) _ (lit< tt) n in
    let b = ask-inv 24 (q24 first second third) _ (lit< tt) a.1 in
    let d = numbered first second third a.0 in
    let two : length (bytes_in first ABPP) ≡ 2 = length-bytes_in first ABPP (omega arith) in
    let top : number_in first ABPP < 10 ^ 2 = rw two at (number_lt (bytes_in first ABPP) d.abpp) in
    record {
      is = outcome-yes _ _ n;
      eights = record {
        irep_eight = length-bytes_in first IREP (omega (arith, d.first-length));
        icat_eight = length-bytes_in first ICAT (omega (arith, d.first-length));
      };
      abpp-le = omega (arith, top);
      accepted = b.1;
    }

pub read-written_again : ReadWrittenAgain
unfolding write_subheader write_number q24_write
read-written_again ws first second third bands edges a b c e room =
    let r = read ws first second third bands edges e in
    let s = fields_in first second third bands edges in
    let n : write_number ws s (length a) (length b) (length c) ≡ 0 =
    ask-yes 24 _ (le-leb _ _ r.abpp-le) ∙ grid-yes ws s.grid _ r.accepted ∙ ask-yes 9 _ room in
    let z : (write_subheader ws s a b c).number ≡ 0 = ap (λ (o : PartsOut). o.number) (outcome-yes _ _ n) in
    rw r.is (z, written_reads_back ws s a b c r.eights z)

pub rule_not_written : RuleNotWritten
unfolding write_subheader write_number q24_write q1 q3 q4 band_bytes
rule_not_written ws e s first second third = refl
