-- A re-lay: the image holds the plain frame's numbers under full, and the marks stay.
-- Assumes nothing.
use Prim.Native.Nat.{ℕ, suc, ◌+◌, ◌-◌, ◌*◌, ◌≤◌, ◌<◌}
use mathlib.Core.Path.{◌≡◌, refl, sym, ap, ◌∙◌}
use mathlib.Core.Bool.{Bool, true, false}
use mathlib.Core.List.{List, ◌++◌}
use native.Mathlib.Omega.{arith}
use lib.ListN.{length, take, drop, length-take, take-append-drop}
use lib.Seq.{length_front, drop-append-le}
use Rattle.bits.specs.Bits.{bit_of, bit_at}
use Rattle.grid.specs.declared.EdgeRule.TheVariants.{Full}
use Rattle.grid.specs.declared.Grid.{Grid}
use Rattle.grid.specs.Sizes.{image_bytes, byte_multiple}
use Rattle.grid.specs.Layout.{place, SampleBit}
use Rattle.grid.specs.EdgeRules.{under_full}
use Rattle.grid.proofs.Accepted.{Facts}
use Rattle.grid.proofs.EdgeRules.{byte_multiples_lie_the_same}
use Rattle.grid.proofs.SamplePlaces.{inside}
use Rattle.grid.proofs.Runs.{bytes_rule, block_rule, bit_rule}
use Rattle.calls.specs.Relay.{relaid_by, relaid}
use Rattle.frame.proofs.ListBits.{bit_at-take, bit_at-left}
use Rattle.frame.proofs.Bounded.{left_below, take_below}
use Rattle.frame.proofs.RelaidBits.{relaid_sample, relaid_free, relaid_size, relaid_surplus, relaid_below}
use Rattle.frame.proofs.ImageNumbers.{Holding}
use Rattle.frame.proofs.MarksReached.{Marking}

-- the first n bytes laid anew, which came back in front of the rest
module _ (g : Grid) (f : Facts g) (image₀ image : List ℕ) (numbers : ℕ → ℕ → ℕ → ℕ)
    (held : Holding g image₀ image numbers) (n : ℕ) (fits : image_bytes g ≤ length (take n image)) where
  abbrev now : List ℕ
  now = relaid g (take n image)

  same : image_bytes (under_full g) ≡ image_bytes g
  same = bytes_rule Full g

  enough : image_bytes (under_full g) ≤ length (take n image)
  enough = omega (arith, same)

  size : length now ≡ length (take n image)
  size = relaid_size g (take n image) enough

  front : (p v : ℕ) → p < image_bytes g * 8 → bit_at now p ≡ v → bit_at (now ++ drop n image) p ≡ v
  front p v h e = bit_at-left now (drop n image) p (omega (arith, size)) ∙ e

  lent : (p v : ℕ) → p < image_bytes g * 8 → bit_at image p ≡ v → bit_at (take n image) p ≡ v
  lent p v h e = bit_at-take n image p (omega (arith, length-take n image)) ∙ e

  sample_bits : (row column b r c i : ℕ) → SampleBit (under_full g) row column b r c i
      → bit_at (now ++ drop n image) (place (under_full g) row column b r c + i)
      ≡ bit_of (numbers b (row * g.nppbv + r) (column * g.nppbh + c)) (g.nbpp - suc i)
  sample_bits row column b r c i bit =
      let bit' : SampleBit g row column b r c i = bit_rule g.edges (under_full g) row column b r c i bit in
      front _ _ (omega (arith, inside (under_full g) row column b r c i bit, same))
      (relaid_sample g (take n image) enough row column b r c i bit'
      ∙ lent _ _ (inside g row column b r c i bit') (held.sample_bits row column b r c i bit'))

  other_bits : (w : Bool) → byte_multiple g ≡ w → (p : ℕ) → p < image_bytes g * 8
      → ((row column b r c i : ℕ) → SampleBit (under_full g) row column b r c i
      → place (under_full g) row column b r c + i ≡ p → ⊥)
      → bit_at (relaid_by w g (take n image)) p ≡ 0
  unfolding relaid_by
  other_bits true e p h none =
      lent p 0 h (held.other_bits p h (λ row column b r c i bit q.
      none row column b r c i (bit_rule Full g row column b r c i bit)
      (ap (λ (x : ℕ). x + i) (byte_multiples_lie_the_same Full g row column b r c e) ∙ q)))
  other_bits false e p h none =
      relaid_free g (take n image) enough f p h
      (λ row column b r c i bit q. none row column b r c i (bit_rule Full g row column b r c i bit) q)

  pub image_relaid : Holding (under_full g) image₀ (now ++ drop n image) numbers
  image_relaid =
      record {
        size = length_front image now n size ∙ held.size;
        surplus = drop-append-le (image_bytes (under_full g)) now (drop n image) (omega (arith, size, enough))
            ∙ ap (λ (l : List ℕ). l ++ drop n image) (relaid_surplus g (take n image) enough f.sides.nbpp-pos)
            ∙ sym (drop-append-le (image_bytes (under_full g)) (take n image) (drop n image) enough)
            ∙ ap (drop (image_bytes (under_full g))) (take-append-drop n image)
            ∙ ap (λ (k : ℕ). drop k image) same ∙ held.surplus ∙ ap (λ (k : ℕ). drop k image₀) (sym same);
        small = held.small;
        bytes = λ k l. left_below 8 (image_bytes g) now (drop n image) (omega (arith, size))
            (relaid_below g (take n image) enough (image_bytes g)
            (take_below 8 (image_bytes g) n image (omega (arith, length-take n image)) held.bytes))
            k (omega (arith, same));
        sample_bits = sample_bits;
        other_bits = λ p h none. front p 0 (omega (arith, same))
            (other_bits (byte_multiple g) refl p (omega (arith, same)) none);
      }

pub marks_relaid : (g : Grid) (marks₀ marks : List ℕ) (reached : ℕ → ℕ → Bool) → Marking g marks₀ marks reached
    → Marking (under_full g) marks₀ marks reached
marks_relaid g marks₀ marks reached m =
    record {
      size = m.size;
      surplus = m.surplus;
      each = λ row column t. m.each row column (block_rule g.edges (under_full g) row column t);
      beyond = m.beyond;
      words = m.words;
    }
