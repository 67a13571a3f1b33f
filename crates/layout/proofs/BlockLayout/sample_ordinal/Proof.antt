-- `layout::BlockLayout::sample_ordinal` meets its contract.
-- Assumes nothing.
use borrow.Author.Rules.{rules}
use mathlib.Core.Logic.{⊎_elim}
use mathlib.Core.List.{[], ◌∷◌}
use denote.Enum.Declared.{tag_of}
use types.Run.{OneOf}
use Rattle.layout.specs.declared.InterleaveMode.{InterleaveMode}
use Rattle.layout.specs.declared.InterleaveMode.TheVariants.{B, P, R, S}
use Rattle.layout.specs.contracts.InterleaveMode.{the_type}
use Prim.Native.Nat.{ℕ, ◌+◌, ◌*◌, ◌<◌, ◌^◌}
use native.Mathlib.Nat.{mul-le-mul_left, lt_of_lt_of_le}
use Rattle.layout.specs.Order.{ordinal}
use Rattle.layout.proofs.Order.{ordinal_lt}
use Rattle.layout.proofs.BlockLayout.sample_ordinal.Statement.{statement}
use Rattle.layout.proofs.BlockLayout.sample_ordinal.Tie as tie
use mathlib.Core.Path.{◌≡◌, refl}
use native.Mathlib.Omega.{arith}

-- B and S have one formula
other : (m : InterleaveMode) (n v h b r c : ℕ) → OneOf (0 ∷ 3 ∷ []) (tag_of the_type m) → (b * v + r) * h + c ≡ ordinal m n v h b r c
other B n v h b r c t = refl
other S n v h b r c t = refl
other P n v h b r c t = absurd (⊎_elim (λ e. omega arith) (λ e. omega arith) t)
other R n v h b r c t = absurd (⊎_elim (λ e. omega arith) (λ e. omega arith) t)

-- a part of a number that fits, fits
part_fits : (q p x n : ℕ) → 0 < p → q * p + x < n → q < n
part_fits q p x n h l = omega (arith, mul-le-mul_left q h)

fits : (m : InterleaveMode) (s : tie.Start) → let a = s.args in ordinal m a.self.bands a.self.run_rows a.self.run_columns a.b a.r a.c < 2 ^ 64
fits m s =
    let a = s.args in
    lt_of_lt_of_le
    (ordinal_lt m a.self.bands a.self.run_rows a.self.run_columns a.b a.r a.c s.requires.0.0 s.requires.0.1 s.requires.0.2)
    (omega (arith, s.requires.1))

overflow_cast-bands : tie.Need-overflow_cast-bands
overflow_cast-bands c = search rules

enum_told_at-1 : tie.Need-enum_told_at-1
enum_told_at-1 c = search rules

times_plus-requires : tie.Need-times_plus-requires
times_plus-requires c κs =
    let s = c.before.before in
    part_fits _ s.args.self.bands s.args.b _ (omega (arith, s.requires.0.0)) (fits P s)

times_plus-requires-in-P : tie.Need-times_plus-requires-in-P
times_plus-requires-in-P c κs = rw c.times_plus.ensures (fits P c.before.before.before)

enum_told_at-in-R : tie.Need-enum_told_at-in-R
enum_told_at-in-R c = search rules

times_plus-requires-in-R : tie.Need-times_plus-requires-in-R
times_plus-requires-in-R c κs =
    let s = c.before.before in
    part_fits _ s.args.self.run_columns s.args.c _ (omega (arith, s.requires.0.2)) (fits R s)

times_plus-requires-in-R-2 : tie.Need-times_plus-requires-in-R-2
times_plus-requires-in-R-2 c κs = rw c.times_plus-in-R.ensures (fits R c.before.before.before)

times_plus-requires-in_default : tie.Need-times_plus-requires-in_default
times_plus-requires-in_default c κs =
    let s = c.before.before in
    part_fits _ s.args.self.run_columns s.args.c _ (omega (arith, s.requires.0.2)) (fits B s)

times_plus-requires-in_default-2 : tie.Need-times_plus-requires-in_default-2
times_plus-requires-in_default-2 c κs = rw c.times_plus-in_default.ensures (fits B c.before.before.before)

returns-in-P : tie.Need-returns-in-P
returns-in-P c = rw (c.times_plus-in-P.ensures, c.times_plus.ensures, c.in-P.is)

returns-in-R : tie.Need-returns-in-R
returns-in-R c = rw (c.times_plus-in-R-2.ensures, c.times_plus-in-R.ensures, c.in-R.is)

returns-in_default : tie.Need-returns-in_default
returns-in_default c =
    let a = c.args in
    rw (c.times_plus-in_default-2.ensures, c.times_plus-in_default.ensures)
    (other a.self.mode a.self.bands a.self.run_rows a.self.run_columns a.b a.r a.c c.in_default.in_default-own.keys3)

pub sample_ordinal_spec : {M : Type 1} → statement M
sample_ordinal_spec =
    tie.close
    (tie.spec
    overflow_cast-bands
    enum_told_at-1
    times_plus-requires
    times_plus-requires-in-P
    enum_told_at-in-R
    times_plus-requires-in-R
    times_plus-requires-in-R-2
    times_plus-requires-in_default
    times_plus-requires-in_default-2
    returns-in-P
    returns-in-R
    returns-in_default)
