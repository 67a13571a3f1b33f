-- What an accepted re-lay does, on any image.
-- Assumes nothing.
use Prim.Native.Nat.{ℕ, ◌≤◌}
use mathlib.Core.Path.{◌≡◌, refl, sym, ap, ◌∙◌}
use mathlib.Core.Bool.{Bool, true}
use mathlib.Core.List.{List}
use native.Mathlib.Omega.{arith}
use native.Mathlib.Nat.{mod-eq_of_lt}
use lib.ListN.{length, drop}
use Rattle.common.proofs.Questions.{outcome-yes}
use Rattle.bits.specs.Bits.{bit_at}
use Rattle.bits.proofs.Bits.{bits_at_lt, bits_at-bit, bits_at-is}
use Rattle.grid.specs.declared.EdgeRule.TheVariants.{Full}
use Rattle.grid.specs.declared.Grid.{Grid}
use Rattle.grid.specs.Sizes.{image_bytes, byte_multiple}
use Rattle.grid.specs.Layout.{place, Sample}
use Rattle.grid.specs.EdgeRules.{under_full}
use Rattle.grid.proofs.Accepted.{Facts, facts}
use Rattle.grid.proofs.Runs.{bytes_rule}
use Rattle.calls.specs.Reads.{sample_at}
use Rattle.calls.specs.Relay.{relaid_by, relaid, Relaid, relay}
use Rattle.calls.proofs.Numbers.{relay-facts}
use Rattle.frame.specs.RelayClaim.{RelayClaim}
use Rattle.frame.proofs.RelaidBits.{relaid_sample, relaid_free, relaid_size, relaid_surplus}

whole_by : (w : Bool) (g : Grid) (image : List ℕ) → w ≡ true → relaid_by w g image ≡ image
unfolding relaid_by
whole_by w g image e = rw e refl

sample_kept : (g : Grid) (image : List ℕ) → image_bytes (under_full g) ≤ length image
    → (row column b r c : ℕ) → Sample g row column b r c
    → sample_at (under_full g) (relaid g image) row column b r c ≡ sample_at g image row column b r c
unfolding sample_at
sample_kept g image fits row column b r c s =
    bits_at-is (relaid g image) (place (under_full g) row column b r c) g.nbpp (sample_at g image row column b r c)
    (λ i l. relaid_sample g image fits row column b r c i (record { sample = s; in_i = l })
    ∙ sym (bits_at-bit image (place g row column b r c) g.nbpp i l))
    ∙ mod-eq_of_lt (bits_at_lt image (place g row column b r c) g.nbpp)

pub relay_claim : RelayClaim
unfolding relay
relay_claim ws g image marks scratch e =
    let a = relay-facts ws g _ _ _ e in
    let same : image_bytes (under_full g) ≡ image_bytes g = bytes_rule Full g in
    let fits : image_bytes (under_full g) ≤ length image = omega (arith, same, a.bytes) in
    let f : Facts g = facts g a.accepted in
    rw (outcome-yes {A = Relaid} _ (λ n. record { number = n; grid = g; image = image; scratch = scratch }) e)
    (record {
      grid = refl;
      samples = sample_kept g image fits;
      whole = whole_by (byte_multiple g) g image;
      unused = λ w p l none. ap (λ (t : Bool). bit_at (relaid_by t g image) p) w ∙ relaid_free g image fits f p l none;
      image-length = relaid_size g image fits;
      image-surplus = ap (λ (k : ℕ). drop k (relaid g image)) (sym same)
          ∙ relaid_surplus g image fits f.sides.nbpp-pos ∙ ap (λ (k : ℕ). drop k image) same;
      scratch-zeros = refl;
    })
