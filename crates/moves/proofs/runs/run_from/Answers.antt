-- `moves::runs::run_from` meets its contract.
-- Assumes nothing.
use Rattle.std.proofs.Common.{◌≡◌, refl, ℕ, ◌+◌, ◌-◌, ◌*◌, ◌<◌, arith}
use Rattle.layout.specs.Internal.Layout.{place}
use Rattle.layout.specs.Internal.Spacing.{column_stride}
use Rattle.layout.proofs.Spaced.{place-along, rest_in, rest-pos}
use Rattle.moves.proofs.Pieces.{movable}
use Rattle.moves.proofs.runs.run_from.Goals as goal

pub returns : goal.returns
returns c =
    let a = c.args in
    let l = a.layout in
    let f = c.requires.sound in
    let t = c.requires.sample in
    let some : 0 < c.min.result
    = omega (arith, c.requires.in_row, c.min.ensures, c.rest_of_run.ensures, rest-pos l f a.b a.r a.c t) in
    let n : ℕ = c.min.result in
    let along : (j : ℕ) → j < n → place l a.b a.r (a.c + j) ≡ place l a.b a.r a.c + j * column_stride l.mode l
    = λ j h.
    place-along l a.b a.r a.c j
    (rest_in l a.b a.r a.c j f.some-bands (omega (arith, c.min.ensures, c.rest_of_run.ensures))) in
    rw c.sample_place-at.ensures
    (record {
      some = some;
      count-le = omega (arith, c.min.ensures);
      starts = refl;
      along = along;
      movable = λ n reach.
          movable l f n a.b a.r a.c _ _ c.min.result
          (record { in_b = t.in_b; in_r = t.in_r; in_c = omega (arith, c.requires.in_row, c.min.ensures) }) reach some
          refl (along (c.min.result - 1) (omega arith));
    })
