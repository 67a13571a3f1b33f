-- One list of calls under either edge rule, document 02's term. The rule says where samples lie at widths that are no
-- byte multiples, and no call tells of that but a re-lay, which asks for the rule.
-- Assumes nothing.
use Rattle.std.specs.Prelude.{ℕ, ◌≡◌, true, false, List, take}
use Rattle.widths.specs.declared.Widths.{Widths}
use Rattle.grid.specs.declared.EdgeRule.{EdgeRule}
use Rattle.grid.specs.Sizes.{byte_multiple}
use Rattle.grid.specs.EdgeRules.{with_rule}
use Rattle.calls.specs.Orders.{Window}
use Rattle.calls.specs.Reads.{window}
use Rattle.frame.specs.Call.{Call}
use Rattle.frame.specs.Calls.{State, Start, Accepts, after, in_force, has_relay}

-- a start and a state under a rule
abbrev pub start_under : EdgeRule → Start → Start
start_under e s =
    record { n = s.n; m = s.m; widths = s.widths; grid = with_rule e s.grid; image = s.image; marks = s.marks }

abbrev pub state_under : EdgeRule → State → State
state_under e s = record { grid = with_rule e s.grid; image = s.image; marks = s.marks }

pub record SameUnder (e : EdgeRule) (s : Start) (cs : List Call) : Type 0 where
  -- each call answers the same
  pub answers : (after (start_under e s) cs).answers ≡ (after s cs).answers
  -- each window with any table, on the image or on its first n bytes, is refused alike or gives the same bytes
  pub windows : (ws : Widths) (n : ℕ) (w : Window) (out : List ℕ)
      → window ws (in_force (start_under e s) cs) (take n (after (start_under e s) cs).state.image) w out
      ≡ window ws (in_force s cs) (take n (after s cs).state.image) w out
  -- at byte multiples image and marks are the same
  pub buffers : byte_multiple s.grid ≡ true → (after (start_under e s) cs).state ≡ state_under e (after s cs).state

-- for every rule, accepted start and list of calls without a re-lay
abbrev pub EitherRule : Type 0
EitherRule =
    (e : EdgeRule) (s : Start) (cs : List Call) → Accepts s → has_relay cs ≡ false → SameUnder e s cs
