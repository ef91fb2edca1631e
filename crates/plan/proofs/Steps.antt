-- From what a call does to the book that stands, the step of a list of calls.
use Rattle.std.proofs.Common.{◌≡◌, ℕ, true, false, cond, List, Ok, Err, Result, sym, ap, ◌∙◌, subst}
use lib.Ieee.{Float}
use Rattle.points.specs.declared.fault.Fault.{Fault}
use Rattle.points.specs.declared.point.Point.{Point}
use Rattle.book.specs.declared.call.Answer.{Answer}
use Rattle.book.specs.declared.call.Answer.TheVariants.{Done, Refused, OutOfTurn}
use Rattle.book.specs.declared.call.Call.{Call}
use Rattle.book.specs.Book.{Book}
use Rattle.book.specs.Calls.{Moment, in_turn, comparing_after, called, tells, answer_of, moment_of, next}
use Rattle.table.specs.declared.Record.{Record}
use Rattle.table.specs.declared.Head.{Head}
use Rattle.plan.specs.declared.state.State.{State}
use Rattle.plan.specs.declared.state.State.TheVariants.{Editing}
use Rattle.book.specs.Calls.{edit_answer}
use Rattle.plan.specs.Runs.{Stepped}
use Rattle.plan.specs.Stands.{Does, Stands, StandsAt, is_comparing}

module _ {S R : Type 0} (far : S → Point → Point → Result Float Fault)
    (ratio : S → Point → Point → Float → Result Point Fault) (coords : R → List Point) (n cells : ℕ)
    (at : Moment S) (c : Call S R) (turn : in_turn far ratio coords at.comparing c ≡ true) where
  -- in turn, the answer and the next moment are those of the book's result
  by_result : (o : Result (Book S) Fault) → called far ratio coords n cells at.book c ≡ o
      → next far ratio coords n cells at c ≡ moment_of far ratio coords at c o
  by_result o e =
      ap (λ v. cond v (moment_of far ratio coords at c (called far ratio coords n cells at.book c)) at) turn
      ∙ ap (moment_of far ratio coords at c) e

  told_by : (o : Result (Book S) Fault) → called far ratio coords n cells at.book c ≡ o
      → cond (in_turn far ratio coords at.comparing c) (answer_of far ratio coords
      (tells far ratio coords at.book c) (called far ratio coords n cells at.book c)) OutOfTurn
      ≡ answer_of far ratio coords (tells far ratio coords at.book c) o
  told_by o e =
      ap (λ v. cond v (answer_of far ratio coords (tells far ratio coords at.book c)
      (called far ratio coords n cells at.book c)) OutOfTurn) turn
      ∙ ap (answer_of far ratio coords (tells far ratio coords at.book c)) e

  module _ (t : List Record) (xs : List Float) (s : State R) (a : Answer) where
    pub accept : (b : Book S) → called far ratio coords n cells at.book c ≡ Ok b
        → a ≡ tells far ratio coords at.book c
        → is_comparing s ≡ comparing_after far ratio coords at.comparing c
        → Stands coords b t xs s → Stepped far ratio coords n cells at c t xs s a
    accept b ok told busy st = record {
      told = told ∙ sym (told_by (Ok b) ok);
      stands = subst (λ v. StandsAt coords v t xs s) (sym (by_result (Ok b) ok))
          (record { turn = busy; book = st });
    }

    pub deny : (f : Fault) → called far ratio coords n cells at.book c ≡ Err f → a ≡ Refused f
        → is_comparing s ≡ at.comparing
        → Stands coords at.book t xs s → Stepped far ratio coords n cells at c t xs s a
    deny f err told busy st = record {
      told = told ∙ sym (told_by (Err f) err);
      stands = subst (λ v. StandsAt coords v t xs s) (sym (by_result (Err f) err))
          (record { turn = busy; book = st });
    }

  -- an edit: it answers that it is done or why not, and begins and ends no comparison
  pub edit_step : (t : List Record) (xs : List Float) (h : Head) (a : Answer) (r : Result (Unit {0}) Fault)
      → a ≡ edit_answer r
      → Does at.book (called far ratio coords n cells at.book c) t h r
      → tells far ratio coords at.book c ≡ Done
      → comparing_after far ratio coords at.comparing c ≡ at.comparing → false ≡ at.comparing
      → Stepped far ratio coords n cells at c t xs (Editing h) a
  edit_step t xs h a (Ok x) e u done same idle =
      accept t xs (Editing h) a u.0 u.1 (e ∙ sym done) (idle ∙ sym same) u.2
  edit_step t xs h a (Err f) e u done same idle = deny t xs (Editing h) a f u.0 e idle u.1

-- a call out of turn
module _ {S R : Type 0} (far : S → Point → Point → Result Float Fault)
    (ratio : S → Point → Point → Float → Result Point Fault) (coords : R → List Point) (n cells : ℕ)
    (at : Moment S) (c : Call S R) where
  pub out_of_turn : in_turn far ratio coords at.comparing c ≡ false → (t : List Record) (xs : List Float) (s : State R)
      (a : Answer) → a ≡ OutOfTurn → StandsAt coords at t xs s → Stepped far ratio coords n cells at c t xs s a
  out_of_turn turn t xs s a told st = record {
    told = told ∙ sym (ap (λ v. cond v (answer_of far ratio coords (tells far ratio coords at.book c)
        (called far ratio coords n cells at.book c)) OutOfTurn) turn);
    stands = subst (λ v. StandsAt coords v t xs s)
        (sym (ap (λ v. cond v (moment_of far ratio coords at c (called far ratio coords n cells at.book c)) at) turn)) st;
  }
