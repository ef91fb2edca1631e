-- The answer of a close: it is given while a comparison is open, and is what the book before the close has.
use Rattle.std.proofs.Common.{◌≡◌, ℕ, zero, suc, true, List, [], ◌∷◌, take, Some, Ok, Err, Option, Result}
use lib.Ieee.{Float}
use Rattle.std.proofs.lemmas.Bool.{cond_both}
use Rattle.std.specs.List.{slice_get}
use Rattle.points.specs.declared.fault.Fault.{Fault}
use Rattle.points.specs.declared.point.Point.{Point}
use Rattle.book.specs.declared.call.Answer.{Answer}
use Rattle.book.specs.declared.call.Answer.TheVariants.{Closed, OutOfTurn}
use Rattle.book.specs.declared.call.Call.{Call}
use Rattle.book.specs.declared.call.Call.TheVariants.{Append, Densify, Undo, Settle, Open, Row, Close}
use Rattle.book.specs.Book.{Book, closing}
use Rattle.book.specs.Calls.{Moment, start, in_turn, called, tells, answer_of, answer, next, played, answers}

module _ {S R : Type 0} (far : S → Point → Point → Result Float Fault)
    (ratio : S → Point → Point → Float → Result Point Fault) (coords : R → List Point) (n cells : ℕ) where
  -- answer k is that to call k, after the calls before it
  answer_at : (at : Moment S) (cs : List (Call S R)) (k : ℕ) (a : Answer)
      → slice_get (answers far ratio coords n cells at cs) k ≡ Some a
      → (c : Call S R) × (answer far ratio coords n cells (played far ratio coords n cells at (take k cs)) c ≡ a)
  answer_at at [] k a e = absurd cc
  answer_at at (c ∷ cs) zero a e = (c, cc)
  answer_at at (c ∷ cs) (suc k) a e = answer_at (next far ratio coords n cells at c) cs k a e

  -- only a close, and while a comparison is open, answers what the book has for it
  told_closed : (at : Moment S) (c : Call S R) (o : Option Float) → in_turn far ratio coords at.comparing c ≡ true
      → tells far ratio coords at.book c ≡ Closed o → (at.comparing ≡ true) × (closing at.book ≡ o)
  told_closed at (Append ps) o t e = absurd cc
  told_closed at (Densify s most) o t e = absurd cc
  told_closed at Undo o t e = absurd cc
  told_closed at Settle o t e = absurd cc
  told_closed at (Open r) o t e = absurd cc
  told_closed at (Row s m) o t e = absurd cc
  told_closed at Close o t e = (t, cc)

  accepted : (a : Answer) (r : Result (Book S) Fault) (o : Option Float)
      → answer_of far ratio coords a r ≡ Closed o → a ≡ Closed o
  accepted a (Ok b) o e = e
  accepted a (Err f) o e = absurd cc

  only_close : (at : Moment S) (c : Call S R) (o : Option Float) → answer far ratio coords n cells at c ≡ Closed o
      → (at.comparing ≡ true) × (closing at.book ≡ o)
  only_close at c o =
      let told = tells far ratio coords at.book c in
      let r = called far ratio coords n cells at.book c in
      cond_both (in_turn far ratio coords at.comparing c) (answer_of far ratio coords told r) OutOfTurn
      (λ (a : Answer). a ≡ Closed o → (at.comparing ≡ true) × (closing at.book ≡ o))
      (λ t e. told_closed at c o t (accepted told r o e))
      (λ f e. absurd cc)

  -- so a close answers from a moment of the calls before it
  pub closed_at : (calls : List (Call S R)) (k : ℕ) (o : Option Float)
      → slice_get (answers far ratio coords n cells start calls) k ≡ Some (Closed o)
      → ((played far ratio coords n cells start (take k calls)).comparing ≡ true)
      × (closing (played far ratio coords n cells start (take k calls)).book ≡ o)
  closed_at calls k o e =
      let call = answer_at start calls k (Closed o) e in
      only_close (played far ratio coords n cells start (take k calls)) call.0 o call.1
