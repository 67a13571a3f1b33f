-- What is read is written again, and what is written is read again; lookup in a written table; the words that the mask
-- from marks fills.
-- Assumes nothing.
use mathlib.Core.Path.{◌≡◌, refl, sym, ap, ◌∙◌}
use mathlib.Core.Bool.{true, false, not}
use mathlib.Core.List.{List, ◌++◌, append_assoc}
use mathlib.Core.Logic.{◌⊎◌, inl, inr}
use Prim.Native.Nat.{ℕ, ◌+◌, ◌*◌, ◌^◌, ◌≤◌, ◌<◌}
use native.Mathlib.Nat.{mod-eq_of_lt}
use native.Mathlib.Omega.{arith}
use lib.Arith.{digits_div}
use lib.Dec.{eqb}
use lib.ListN.{length, get_or, take, drop, length-append, get_or-append}
use lib.Seq.{take-add, get_or-append-add}
use Rattle.common.specs.Questions.{outcome}
use Rattle.common.specs.Over.{over}
use Rattle.common.specs.Tests.{pick}
use Rattle.common.proofs.Questions.{outcome-yes, outcome-zero}
use Rattle.common.proofs.Tests.{pick_yes, pick_no}
use Rattle.bits.specs.Bits.{Bytes, be_at, be_bytes}
use Rattle.bits.specs.Values.{values, side_by_side}
use Rattle.bits.proofs.Bits.{within}
use Rattle.bits.proofs.BigEndian.{length-be_bytes, be_at_lt}
use Rattle.bits.proofs.Values.{length-values, values_ext, side-by-side, be_at_ext, be_at-be_bytes, be_at-values, be_bytes-be_at}
use Rattle.layout.specs.Order.{bands_apart}
use Rattle.widths.specs.declared.Widths.{Widths}
use Rattle.grid.specs.declared.Grid.{Grid}
use Rattle.grid.specs.Layout.{Block}
use Rattle.mask.specs.declared.ImageDataMask.{ImageDataMask}
use Rattle.mask.specs.Table.{records, lookup_record, filled_block, code_bytes, table_size, mask_size, header, block_record, offset_bytes, table_bytes}
use Rattle.mask.specs.declared.Parsed.{Parsed}
use Rattle.mask.specs.Mask.{WrittenOut, written_with, not_written, no_parse, to_bytes}
use Rattle.mask.specs.Mask.{entries, parse_number, parse, mask_write_number, mark_record, mark_records, lookup_number, record_of, is_present, has_block, is_given, offset_if, get_block_offset}
use Rattle.mask.specs.RoundTrip.{own_records, own_block_records, own_pad_records, ParsedComesBack, written_mask, WrittenComesBack}
use Rattle.common.proofs.Tabulate.{length-tabulate, get_d_tabulate}
use Rattle.mask.proofs.Records.{lookup_lt}
use Rattle.mask.proofs.Numbers.{Parse, parse-facts, parse-yes, lookup-yes, MaskWrite, mask_write-facts}
use Rattle.mask.proofs.Numbers.{mask_write-yes, block-length, pad-length}
use Rattle.mask.proofs.TableWrites.{size-entries, size_is}

-- ---- read, then written

-- the bytes of a table's own records
own-bytes : (table : List ℕ) (at n : ℕ) → Bytes table → at + n * 4 ≤ length table
    → offset_bytes (own_records table at n) ≡ take (n * 4) (drop at table)
unfolding side_by_side
own-bytes table at n b h =
    ap (values (λ k. get_or (own_records table at n) k 0) 4) (length-tabulate n _)
    ∙ values_ext _ (side_by_side table at 4) 4 n (λ k l. get_d_tabulate n _ k l)
    ∙ side-by-side table at 4 n b h

-- the parts of a table in their order
parts : (t : List ℕ) (c n m : ℕ)
    → take 4 t ++ take 2 (drop 4 t) ++ take 2 (drop 6 t) ++ take 2 (drop 8 t) ++ take c (drop 10 t)
    ++ take n (drop (10 + c) t) ++ take m (drop (10 + c + n) t)
    ≡ take (10 + c + n + m) t
parts t c n m =
    simp
    (take-add (10 + c + n) m t, take-add (10 + c) n t, take-add 10 c t, take-add 8 2 t, take-add 6 2 t, take-add 4 2 t)

-- a table that parse takes, with its own size in IMDATOFF, is what a mask write makes of it
pub parsed-written : (ws : Widths) (g : Grid) (table : List ℕ) → Bytes table → parse_number ws g table ≡ 0
    → (header table).image_data_offset ≡ mask_size g (header table)
    → table_bytes g (header table) (own_block_records g table) (own_pad_records g table)
    ≡ take (mask_size g (header table)) table
unfolding table_bytes
parsed-written ws g table b z o =
    let c : ℕ = code_bytes (be_at table 8 2) in
    let n : ℕ = entries g (be_at table 4 2) in
    let m : ℕ = entries g (be_at table 6 2) in
    let t = parse-facts ws g table z in
    let size = size-entries g (header table) t.record_lengths in
    let fits : 10 + c + n * 4 + m * 4 ≤ length table = rw size at t.whole in
    rw (
      own-bytes table (10 + c) n b (omega arith),
      own-bytes table (10 + c + n * 4) m b fits,
      ← o,
      be_bytes-be_at table 0 4 b (omega arith),
      be_bytes-be_at table 4 2 b (omega arith),
      be_bytes-be_at table 6 2 b (omega arith),
      be_bytes-be_at table 8 2 b (omega arith),
      be_bytes-be_at table 10 c b (omega arith),
    )
    (parts table c (n * 4) (m * 4) ∙ ap (λ (i : ℕ). take i table) (sym size ∙ sym o))

-- what parse and the write make of their numbers
parse-number : (ws : Widths) (g : Grid) (table : List ℕ) → (parse ws g table).number ≡ 0 → parse_number ws g table ≡ 0
unfolding parse
parse-number ws g table e = outcome-zero _ _ no_parse (λ (p : Parsed). p.number) (λ n. refl) e

parse-is : (ws : Widths) (g : Grid) (table : List ℕ) → parse_number ws g table ≡ 0
    → parse ws g table ≡ record { number = 0; mask = header table; used = mask_size g (header table) }
unfolding parse
parse-is ws g table z = outcome-yes _ no_parse z

-- the write accepts a parsed table's own header and records
own-accepted : (ws : Widths) (g : Grid) (table : List ℕ) (l : ℕ) → Bytes table → parse_number ws g table ≡ 0
    → (header table).image_data_offset ≡ mask_size g (header table) → mask_size g (header table) ≤ l
    → mask_write_number ws g (header table) (length (own_block_records g table)) (length (own_pad_records g table)) l
    ≡ 0
own-accepted ws g table l b z o room =
    let t = parse-facts ws g table z in
    let size : be_at table 0 4 < 2 ^ (8 * 4) = be_at_lt table 0 4 b in
    mask_write-yes ws g (header table) _ _ l record {
      accepted = t.accepted;
      record_lengths = t.record_lengths;
      code-length = t.code-length;
      code = be_at_lt table 10 (code_bytes (be_at table 8 2)) b;
      size = omega (arith, size, o);
      block-list = length-tabulate (entries g (be_at table 4 2)) _;
      pad-list = length-tabulate (entries g (be_at table 6 2)) _;
      room = room;
    }

pub parsed_comes_back : ParsedComesBack
unfolding to_bytes
parsed_comes_back ws g table out b e o room =
    let z : parse_number ws g table ≡ 0 = parse-number ws g table e in
    let p = parse-is ws g table z in
    let own : (header table).image_data_offset ≡ mask_size g (header table)
    = sym (ap (λ (x : Parsed). x.mask.image_data_offset) p) ∙ o ∙ ap (λ (x : Parsed). x.used) p in
    rw p
    (outcome-yes _ _ (own-accepted ws g table (length out) b z own (rw p at room))
    ∙ ap (λ (l : List ℕ). written_with (record { number = 0; bytes = mask_size g (header table) }) (over out 0 l))
    (parsed-written ws g table b z own))

-- ---- written, then read

-- a number is read past one that was put as it is without that one
skip : (s v : ℕ) (ys : List ℕ) (p t : ℕ) → be_at (be_bytes s v ++ ys) (s + p) t ≡ be_at ys p t
skip s v ys p t =
    let e = length-be_bytes s v in
    be_at_ext (be_bytes s v ++ ys) ys (s + p) p t
    (λ j l. ap (λ (i : ℕ). get_or (be_bytes s v ++ ys) i 0) (omega arith) ∙ get_or-append-add (be_bytes s v) ys (p + j) 0)

-- in the first of two lists as in that list
be_at-inside : (xs ys : List ℕ) (p s : ℕ) → p + s ≤ length xs → be_at (xs ++ ys) p s ≡ be_at xs p s
be_at-inside xs ys p s h = be_at_ext (xs ++ ys) xs p p s (λ j l. get_or-append xs ys 0 (p + j) (omega arith))

-- and where it was put it is found
be_at-put : (s v : ℕ) (ys : List ℕ) → v < 2 ^ (8 * s) → be_at (be_bytes s v ++ ys) 0 s ≡ v
be_at-put s v ys h =
    be_at-inside (be_bytes s v) ys 0 s (omega (arith, length-be_bytes s v)) ∙ be_at-be_bytes s v ∙ mod-eq_of_lt h

-- a header whose numbers fit their places
record Fits (m : ImageDataMask) : Type 0 where
  offset : m.image_data_offset < 2 ^ 32
  block : m.block_mask_record_length < 2 ^ 16
  pad : m.pad_pixel_mask_record_length < 2 ^ 16
  code-length : m.pad_pixel_code_length < 2 ^ 16
  code : m.pad_pixel_code < 2 ^ (8 * code_bytes m.pad_pixel_code_length)

-- the bytes of a header, and what stands behind
abbrev headed : ImageDataMask → List ℕ → List ℕ
headed m rest =
    be_bytes 4 m.image_data_offset
    ++ (be_bytes 2 m.block_mask_record_length
    ++ (be_bytes 2 m.pad_pixel_mask_record_length
    ++ (be_bytes 2 m.pad_pixel_code_length
    ++ (be_bytes (code_bytes m.pad_pixel_code_length) m.pad_pixel_code ++ rest))))

-- a table whose header is m
record HeaderIs (m : ImageDataMask) (t : List ℕ) : Type 0 where
  offset : be_at t 0 4 ≡ m.image_data_offset
  block : be_at t 4 2 ≡ m.block_mask_record_length
  pad : be_at t 6 2 ≡ m.pad_pixel_mask_record_length
  code-length : be_at t 8 2 ≡ m.pad_pixel_code_length
  code : be_at t 10 (code_bytes m.pad_pixel_code_length) ≡ m.pad_pixel_code

headed-is : (m : ImageDataMask) (rest : List ℕ) → Fits m → HeaderIs m (headed m rest)
headed-is m rest f =
    let n : ℕ = code_bytes m.pad_pixel_code_length in
    record {
      offset = be_at-put 4 _ _ f.offset;
      block = skip 4 _ _ 0 2 ∙ be_at-put 2 _ _ f.block;
      pad = skip 4 _ _ 2 2 ∙ skip 2 _ _ 0 2 ∙ be_at-put 2 _ _ f.pad;
      code-length = skip 4 _ _ 4 2 ∙ skip 2 _ _ 2 2 ∙ skip 2 _ _ 0 2 ∙ be_at-put 2 _ _ f.code-length;
      code = skip 4 _ _ 6 n ∙ skip 2 _ _ 4 n ∙ skip 2 _ _ 2 n ∙ skip 2 _ _ 0 n ∙ be_at-put n _ _ f.code;
    }

-- what stands behind a header
behind : (m : ImageDataMask) (rest : List ℕ) (p s : ℕ)
    → be_at (headed m rest) (10 + code_bytes m.pad_pixel_code_length + p) s ≡ be_at rest p s
behind m rest p s =
    let n : ℕ = code_bytes m.pad_pixel_code_length in
    let e : 10 + n + p ≡ 4 + (2 + (2 + (2 + (n + p)))) = omega arith in
    ap (λ (i : ℕ). be_at (headed m rest) i s) e
    ∙ skip 4 _ _ _ s ∙ skip 2 _ _ _ s ∙ skip 2 _ _ _ s ∙ skip 2 _ _ _ s ∙ skip n _ _ p s

length_lt : {n : ℕ} → (n ≡ 0) ⊎ (n ≡ 4) → n < 2 ^ 16
length_lt (inl e) = omega arith
length_lt (inr e) = omega arith

fits-written : (ws : Widths) (g : Grid) (mask : ImageDataMask) (n m l : ℕ) → MaskWrite ws g mask n m l
    → Fits (written_mask g mask)
fits-written ws g mask n m l w =
    record {
      offset = omega (arith, w.size);
      block = length_lt (block-length mask w.record_lengths);
      pad = length_lt (pad-length mask w.record_lengths);
      code-length = omega (arith, w.code-length);
      code = w.code;
    }

-- a written table, with anything behind it, or nothing
module _ (ws : Widths) (g : Grid) (mask : ImageDataMask) (block_offsets pad_offsets rest : List ℕ) (l : ℕ)
    (zero : mask_write_number ws g mask (length block_offsets) (length pad_offsets) l ≡ 0)
  where
    abbrev table : List ℕ
    table = table_bytes g mask block_offsets pad_offsets ++ rest

    abbrev lists : List ℕ
    lists = offset_bytes block_offsets ++ (offset_bytes pad_offsets ++ rest)

    facts : MaskWrite ws g mask (length block_offsets) (length pad_offsets) l
    facts = mask_write-facts ws g mask (length block_offsets) (length pad_offsets) l zero

    table_is : table ≡ headed (written_mask g mask) lists
    unfolding table_bytes
    table_is = simp append_assoc

    table-length : length table ≡ mask_size g mask + length rest
    unfolding table_bytes
    table-length =
        rw (size_is ws g mask (length block_offsets) (length pad_offsets) l facts)
        (simp (length-append, length-be_bytes, length-values) (omega arith))

    header_is : HeaderIs (written_mask g mask) table
    header_is = rw table_is (headed-is (written_mask g mask) lists (fits-written ws g mask _ _ l facts))

    accepted : Parse ws g table
    unfolding table_size
    accepted =
        let h = header_is in
        record {
          accepted = facts.accepted;
          ten = rw table-length (omega arith);
          record_lengths = rw (h.block, h.pad) facts.record_lengths;
          code-length = rw h.code-length facts.code-length;
          whole = rw (h.block, h.pad, h.code-length, table-length) (omega arith);
        }

    -- it is parsed to the mask that was written
    pub written-parsed : parse ws g table ≡ record { number = 0; mask = written_mask g mask; used = mask_size g mask }
    unfolding parse outcome
    written-parsed =
        let h = header_is in
        rw (parse-yes ws g table accepted, h.offset, h.block, h.pad, h.code-length, h.code)

    -- where it has block records, each is the list's entry
    module _ (four : mask.block_mask_record_length ≡ 4) (small : (k : ℕ) → get_or block_offsets k 0 < 2 ^ 32)
        (row column band : ℕ) (block : Block g row column) (in_band : band < g.bands)
      where
        abbrev entry : ℕ
        entry = get_or block_offsets (lookup_record g row column band) 0

        pub lookup-written : record_of g table row column band ≡ entry
        unfolding block_record
        lookup-written =
            let k : ℕ = lookup_record g row column band in
            let n : ℕ = length block_offsets in
            let v : ℕ → ℕ = λ i. get_or block_offsets i 0 in
            let e : n ≡ records g = facts.block-list ∙ pick_no 0 (records g) (rw four) in
            let h : k < n = rw e (lookup_lt g row column band block in_band) in
            ap (λ (c : ℕ). be_at table (10 + code_bytes c + k * 4) 4) header_is.code-length
            ∙ ap (λ (t : List ℕ). be_at t (10 + code_bytes mask.pad_pixel_code_length + k * 4) 4) table_is
            ∙ behind (written_mask g mask) lists (k * 4) 4
            ∙ be_at-inside (values v 4 n) _ (k * 4) 4 (omega (arith, within k n 4 h, length-values v 4 n))
            ∙ be_at-values v 4 n k h (small k)

        found : lookup_number ws g table row column band ≡ 0
        found = lookup-yes ws g table row column band record { parsed = accepted; block = block; in_band = in_band }

        has-records : eqb (be_at table 4 2) 0 ≡ false
        has-records = rw (header_is.block, four)

        -- so `has_block` and `get_block_offset` answer by it
        pub has-written : has_block ws g table row column band
            ≡ record { number = 0; present = not (eqb entry 0xFFFF_FFFF) }
        unfolding has_block outcome is_present pick
        has-written = rw (found, has-records, lookup-written)

        pub offset-written : get_block_offset ws g table row column band ≡ offset_if (not (eqb entry 0xFFFF_FFFF)) entry
        unfolding get_block_offset outcome is_given pick
        offset-written = rw (found, has-records, lookup-written)

pub written_comes_back : WrittenComesBack
unfolding to_bytes over
written_comes_back ws g mask block_offsets pad_offsets out e =
    let z : mask_write_number ws g mask (length block_offsets) (length pad_offsets) (length out) ≡ 0
    = outcome-zero _ _ _ (λ (w : WrittenOut). w.answer.number) (λ n. refl) e in
    rw (outcome-yes _ (λ n. written_with (not_written n) out) z)
    (written-parsed ws g mask block_offsets pad_offsets _ (length out) z)

-- ---- the records that the mask from marks fills

-- in S a block's records stand side by side
pub filled_index : (g : Grid) (index band : ℕ) → bands_apart g.imode ≡ true → band < g.bands
    → filled_block g (index * g.bands + band) ≡ index
unfolding filled_block
filled_index g index band e h = pick_yes _ _ e ∙ digits_div index h

-- in the other modes it has one
pub filled_alone : (g : Grid) (index : ℕ) → bands_apart g.imode ≡ false → filled_block g index ≡ index
unfolding filled_block
filled_alone g index e = pick_no _ _ e

pub length-mark_records : (g : Grid) (marks : List ℕ) → length (mark_records g marks) ≡ records g
length-mark_records g marks = length-tabulate (records g) _

pub get_or-mark_records : (g : Grid) (marks : List ℕ) (k : ℕ) → k < records g
    → get_or (mark_records g marks) k 0 ≡ mark_record g marks k
get_or-mark_records g marks k h = get_d_tabulate (records g) _ k h
