-- Rows by the rule: after any list of calls, the rows of the open comparison are those of its two lines.
use Rattle.std.proofs.Common.{◌≡◌, ℕ, ◌<◌, min, Bool, true, not, List, [], ◌∷◌, length, Ok, Err, Option, Result, refl, subst, arith}
use lib.Ieee.{Float}
use Rattle.std.proofs.lemmas.Bool.{both_ways, false≢true, not-true, cond_both}
use Rattle.std.proofs.lemmas.Bool.Decides.{nat_tests}
use Rattle.points.specs.declared.fault.Fault.{Fault}
use Rattle.points.specs.declared.fault.Layer.TheVariants.{Table}
use Rattle.points.specs.declared.point.Point.{Point}
use Rattle.points.specs.Faults.{after, in_layer}
use Rattle.points.specs.Walks.{fits}
use Rattle.frechet.specs.Next.{row_count, row_allowed, row_of_lines}
use Rattle.book.specs.declared.call.Call.{Call}
use Rattle.book.specs.declared.call.Call.TheVariants.{Append, Densify, Undo, Settle, Open, Row, Close}
use Rattle.book.specs.Book.{Asked, Book, referred, opened, newest, with_row, row_run, rowed}
use Rattle.book.specs.Calls.{Moment, start, in_turn, comparing_after, called, moment_of, next, played}

-- what came before an accepted result was accepted
pub after_ok : {X Y : Type 0} (r : Result X Fault) (go : X → Result Y Fault) (y : Y) → after r go ≡ Ok y
    → (x : X) × (r ≡ Ok x) × (go x ≡ Ok y)
after_ok (Ok x) go y e = (x, refl, e)
after_ok (Err f) go y e = absurd cc

-- a row that was not refused beforehand is one of the two lines
is_left : (k a b m : ℕ) (u : Unit {0}) → in_layer (row_allowed k a b m) Table ≡ Ok u → k < row_count a b
is_left k a b m u e = grind (arith, nat_tests)

-- an edit and an open are in turn while no comparison is open
idle : (comparing : Bool) → not comparing ≡ true → comparing ≡ true → ⊥
idle comparing t o = both_ways comparing (not-true comparing t) o

-- after the rows rs of A and B one more was left to ask, and r is that row, accepted in its space
pub record Follows {S : Type 0} (far : S → Point → Point → Result Float Fault) (A B : List Point)
    (rs : List (Asked S)) (r : Asked S) : Type 0 where
  pub left : length rs < row_count (length A) (length B)
  pub last : Option Float
  pub accepted : (row_of_lines (far r.space) (length rs) A B (newest rs)).outcome ≡ Ok last
  pub cells_are : r.cells ≡ (row_of_lines (far r.space) (length rs) A B (newest rs)).cells

-- each row follows those before it
abbrev pub ByRule : {S : Type 0} → (S → Point → Point → Result Float Fault) → List Point → List Point
    → List (Asked S) → Type 0
ByRule far A B [] = Unit {0}
ByRule far A B (r ∷ rs) = Follows far A B rs r × ByRule far A B rs

module _ {S : Type 0} (far : S → Point → Point → Result Float Fault) where
  abbrev pub RowsByRule : Book S → Type 0
  RowsByRule b = ByRule far b.line b.reference b.rows

  -- an open has no rows yet, and a row follows those of the book
  opened_by_rule : (b c : Book S) (ps : List Point) → opened b ps ≡ Ok c → RowsByRule c
  opened_by_rule b c ps e =
      let o = after_ok (in_layer (fits (length ps)) Table) (λ _. Ok (referred b ps)) c e in
      let same : referred b ps ≡ c = cc in
      subst RowsByRule same tt

  pub rowed_by_rule : (b c : Book S) (m : ℕ) (s : S) → RowsByRule b → rowed m (far s) s b ≡ Ok c → RowsByRule c
  rowed_by_rule b c m s w e =
      let k = length b.rows in
      let a = length b.line in
      let r = length b.reference in
      let run = row_run (far s) b in
      let grown : Book S = record {
        line = b.line;
        aside = b.aside;
        reference = b.reference;
        rows = record { space = s; cells = run.cells } ∷ b.rows;
      } in
      let allowed = after_ok (in_layer (row_allowed k a r m) Table) (λ _. with_row b s run) c e in
      let whole = after_ok run.outcome (λ _. Ok grown) c allowed.2 in
      let same : grown ≡ c = cc in
      subst RowsByRule same (
        record {
          left = is_left k a r m allowed.0 allowed.1;
          last = whole.0;
          accepted = whole.1;
          cells_are = refl;
        },
        w,
      )

  -- the rows of the open comparison, if one is open
  abbrev pub Sound : Moment S → Type 0
  Sound at = at.comparing ≡ true → RowsByRule at.book

  module _ {R : Type 0} (ratio : S → Point → Point → Float → Result Point Fault) (coords : R → List Point)
      (n cells : ℕ) where
    -- only an open and a row lead to an open comparison: edits are made while none is open, and a close ends it
    accepted_sound : (at : Moment S) (c : Call S R) (b : Book S) → Sound at
        → in_turn far ratio coords at.comparing c ≡ true → called far ratio coords n cells at.book c ≡ Ok b
        → comparing_after far ratio coords at.comparing c ≡ true → RowsByRule b
    accepted_sound at (Append ps) b s t e o = absurd (idle at.comparing t o)
    accepted_sound at (Densify v most) b s t e o = absurd (idle at.comparing t o)
    accepted_sound at Undo b s t e o = absurd (idle at.comparing t o)
    accepted_sound at Settle b s t e o = absurd (idle at.comparing t o)
    accepted_sound at (Open r) b s t e o = opened_by_rule at.book b (coords r.now) e
    accepted_sound at (Row v m) b s t e o = rowed_by_rule at.book b (min m cells) v.now (s o) e
    accepted_sound at Close b s t e o = absurd (false≢true o)

    moment_sound : (at : Moment S) (c : Call S R) (r : Result (Book S) Fault) → Sound at
        → in_turn far ratio coords at.comparing c ≡ true → called far ratio coords n cells at.book c ≡ r
        → Sound (moment_of far ratio coords at c r)
    moment_sound at c (Ok b) s t e = accepted_sound at c b s t e
    moment_sound at c (Err f) s t e = s

    next_sound : (at : Moment S) (c : Call S R) → Sound at → Sound (next far ratio coords n cells at c)
    next_sound at c s =
        let r = called far ratio coords n cells at.book c in
        cond_both (in_turn far ratio coords at.comparing c) (moment_of far ratio coords at c r) at Sound
        (λ t. moment_sound at c r s t refl) (λ _. s)

    played_sound : (at : Moment S) (cs : List (Call S R)) → Sound at → Sound (played far ratio coords n cells at cs)
    played_sound at [] s = s
    played_sound at (c ∷ cs) s = played_sound (next far ratio coords n cells at c) cs (next_sound at c s)

    -- after any calls from the start
    pub all_sound : (cs : List (Call S R)) → Sound (played far ratio coords n cells start cs)
    all_sound cs = played_sound start cs (λ o. absurd (false≢true o))
