-- Laws of a part that is read, as the code has it.
-- Assumes nothing.
use Rattle.std.specs.Prelude.{Some}
use Rattle.std.specs.Borrow.{Bor}
use Prim.Native.Nat.{ℕ, ◌+◌, ◌^◌, ◌≤◌, ◌<◌}
use mathlib.Core.Bool.{false}
use mathlib.Core.Path.{◌≡◌, ap, sym, ◌∙◌}
use mathlib.Core.List.{List}
use native.Mathlib.Omega.{arith}
use lib.ListN.{length, get_or}
use Rattle.layout.specs.Bands.{Bands, bands_in, band_count, band_at}
use Rattle.layout.proofs.Listed.{band_lt}
use Rattle.moves.specs.declared.order.Area.{Area}
use Rattle.moves.specs.declared.order.Order.{Order}
use Rattle.moves.specs.declared.order.Piece.{Piece}
use Rattle.moves.specs.declared.order.Way.{Way}
use Rattle.moves.specs.declared.order.Way.TheVariants.{Pixels}
use Rattle.moves.specs.declared.part_read.PartRead.{PartRead}
use Rattle.moves.specs.Internal.Parts.{answer_bytes}
use Rattle.moves.specs.Internal.Runs.{RowIn}
use Rattle.moves.specs.Internal.Orders.{area_count, area_of, Chosen}
use Rattle.moves.specs.Internal.PartReads.{asked_of, count_of, Moves, MovesArea}
use Rattle.moves.proofs.Orders.{area-moves, order_listed}
use Rattle.moves.proofs.Pieces.{Placed}
use Rattle.moves.proofs.ReadPieces.{listed-count, count_listed, listed_at}

module _ (p : PartRead) {way : Way} {q : Piece} (m : Moves p way q) where
  -- the piece on both sides
  pub placed : {n : ℕ} → answer_bytes p.layout (asked_of p) p.rows p.columns ≤ n
      → Placed p.layout (length p.src.now) p.part (asked_of p) p.rows p.columns n p.places p.planes q
  placed room =
      let t = p.readable in
      record {
        readable = record {
          accepted = t.accepted;
          reached = t.reached;
          some-rows = t.some-rows;
          some-columns = t.some-columns;
          in_rows = t.in_rows;
          in_columns = t.in_columns;
          to_rows = t.to_rows;
          to_columns = t.to_columns;
          bands_in = t.bands_in;
          room = room;
        };
        image-is = p.places_are;
        planes_are = p.planes_are;
        in-part = m.inside;
      }

  module _ {b : ℕ} (e : b ≡ band_at (asked_of p) q.bands.from) where
    -- its first band is a band of the block
    pub band_in : b < p.layout.bands
    band_in = rw e (band_lt _ _ p.readable.bands_in _ (omega (arith, m.inside.in_bands)))

    -- its first row is samples of the block
    pub row_in : RowIn (record {
      layout = p.layout;
      b = b;
      r = p.part.r + q.rows.from;
      c = p.part.c + q.columns.from;
      count = q.columns.count;
    })
    row_in =
        let t = p.readable in
        record {
          sound = t.accepted;
          in_b = band_in;
          in_r = omega (arith, m.inside.in_rows, t.in_rows);
          in_c = omega (arith, m.inside.in_columns, t.in_columns);
        }

-- the bands asked for, where they are a list
module _ (p : PartRead) {list : Bor (List ℕ)} (e : p.asked ≡ Some list) where
  pub list_count : count_of p ≡ length list.now
  list_count = ap (λ (bs : Bands). band_count p.layout.bands bs) (ap bands_in e) ∙ listed-count p.layout.bands list.now

  pub list_at : (k : ℕ) → get_or list.now k 0 ≡ band_at (asked_of p) k
  list_at k = listed_at list.now k ∙ sym (ap (λ (bs : Bands). band_at bs k) (ap bands_in e))

  -- a piece that is moved pixel by pixel has as many bands as are listed
  pub list_piece : {q : Piece} → Moves p Pixels q → length list.now ≡ q.bands.count
  list_piece m = sym list_count ∙ sym m.listed.2

-- ---- an order of the part

module _ (p : PartRead) {together n : ℕ} {o : Order} (en : n ≡ count_of p)
    (ch : Chosen p.layout together n p.part.rows p.part.columns o) where
  pub order_is : Chosen p.layout together (count_of p) p.part.rows p.part.columns o
  order_is = rw en at ch

  -- area k of it, where a list is read pixel by pixel only as a whole
  pub area_is_moved : (0 < together → ((asked_of p).all ≡ false) × (together ≡ length (asked_of p).list))
      → count_of p < 2 ^ 64 → (k : ℕ) → k < area_count o → {a : Area} → a ≡ area_of o k → MovesArea p o a
  area_is_moved few fits k h e =
      record {
        moves = area-moves order_is k h e fits;
        listed = order_listed order_is (asked_of p).all
            (λ some. let f = few some in (f.0, f.1 ∙ sym (count_listed p.layout.bands (asked_of p) f.0)));
      }
