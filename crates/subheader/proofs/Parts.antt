-- What the questions leave: the parts' lengths, each numeric field all digits, and what an accepted write tells.
-- Assumes nothing.
use mathlib.Core.Path.{◌≡◌}
use mathlib.Core.Bool.{true}
use mathlib.Core.List.{List}
use Prim.Native.Nat.{ℕ, ◌≤◌}
use borrow.Author.Tests.{eqb-true, leb-true}
use lib.Dec.{leb, lit<}
use Rattle.subheader.specs.declared.ImageSubheader.{ImageSubheader}
use Rattle.subheader.specs.Subheader.{parts_fit, first_numbers, third_numbers, q23, q24_write, q9_write, write_number}
use Rattle.subheader.specs.Internal.Parts.{Numbered}
use Rattle.widths.specs.declared.Widths.{Widths}
use Rattle.widths.specs.Widths.{takes}
use Rattle.grid.specs.Check.{Accepted}
use Rattle.common.proofs.Tests.{every-at}
use Rattle.common.proofs.Questions.{ask-inv}
use Rattle.grid.proofs.Accepted.{grid-inv, accepted_of, takes-width}

pub record Lengths (a b c : ℕ) : Type 0 where
  pub first : a ≡ 38
  pub second : b ≡ 2
  pub third : c ≡ 19

pub fits : (a b c : ℕ) → parts_fit a b c ≡ true → Lengths a b c
unfolding parts_fit
fits a b c e =
    let q = every-at _ e in
    record { first = eqb-true _ _ (q 0); second = eqb-true _ _ (q 1); third = eqb-true _ _ (q 2) }

pub numbered : (first second third : List ℕ) → q23 first second third ≡ true → Numbered first second third
unfolding q23 first_numbers third_numbers
numbered first second third e =
    let q = every-at _ e in
    let l = fits _ _ _ (q 0) in
    let a = every-at _ (q 1) in
    let c = every-at _ (q 2) in
    record {
      first-length = l.first;
      second-length = l.second;
      third-length = l.third;
      nrows = a 0;
      ncols = a 1;
      abpp = a 2;
      nbpr = c 0;
      nbpc = c 1;
      nppbh = c 2;
      nppbv = c 3;
      nbpp = c 4;
    }

-- what an accepted write tells
pub record Held (ws : Widths) (s : ImageSubheader) (a b c : ℕ) : Type 0 where
  pub abpp-le : s.abpp ≤ 99
  pub accepted : Accepted s.grid
  pub taken : takes ws s.grid.nbpp ≡ true
  pub first : 38 ≤ a
  pub second : 2 ≤ b
  pub third : 19 ≤ c

pub held : (ws : Widths) (s : ImageSubheader) (a b c : ℕ) → write_number ws s a b c ≡ 0 → Held ws s a b c
unfolding write_number q24_write q9_write
held ws s a b c e =
    let q = ask-inv 24 (leb s.abpp 99) _ (lit< tt) e in
    let g = grid-inv ws s.grid _ q.1 in
    let h = every-at _ (ask-inv 9 _ 0 (lit< tt) g.1).0 in
    record {
      abpp-le = leb-true _ _ q.0;
      accepted = accepted_of s.grid g.0;
      taken = takes-width ws s.grid _ q.1;
      first = leb-true _ _ (h 0);
      second = leb-true _ _ (h 1);
      third = leb-true _ _ (h 2);
    }
