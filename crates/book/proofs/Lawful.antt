-- The laws over lists of calls: a completed comparison answers the least over all couplings, and nearness passes on.
use Rattle.std.proofs.Common.{ℕ, ◌<◌, Bool, List, length, Result, inl, inr}
use lib.Ieee.{Float}
use Rattle.points.specs.declared.fault.Fault.{Fault}
use Rattle.points.specs.declared.point.Point.{Point}
use Rattle.spaces.specs.Space.{Measures}
use Rattle.frechet.specs.Table.{longer, shorter}
use Rattle.frechet.specs.Theorem.{Mutual}
use Rattle.frechet.proofs.Told.{Told, longer_some, shorter_some}
use Rattle.frechet.proofs.Couplings.{zero, coupled, mutual_back, Says, says_back, says_told, passes}
use Rattle.book.specs.declared.call.Call.{Call}
use Rattle.book.specs.Laws.{Completes, CouplingLaw, Answered, NearnessLaw}
use Rattle.book.proofs.Completed.{completes_tells}

-- spaces whose distances are each refused or measured
module _ {S R : Type 0} (far : S → Point → Point → Result Float Fault)
    (ratio : S → Point → Point → Float → Result Point Fault) (coords : R → List Point)
    (ok : S → Point → Point → Bool) (law : (s : S) (p q : Point) → Measures (ok s p q) (far s p q)) where
  told : (n cells : ℕ) (calls : List (Call S R)) (k : ℕ) (s : S) (A B : List Point) (d : Float)
      → Completes far ratio coords n cells calls k s A B d → 0 < length A → 0 < length B
      → Told (far s) (zero (far s) (ok s) (law s)) (longer A B) (shorter A B) d
  told n cells calls k s A B d w ha hb =
      completes_tells far ratio coords n cells calls k s (zero (far s) (ok s) (law s)) A B d w ha hb

  pub coupling_law : (n cells : ℕ) (calls : List (Call S R)) → CouplingLaw far ratio coords n cells calls
  coupling_law n cells calls k s A B d w ha hb =
      coupled (far s) (ok s) (law s) (longer A B) (shorter A B) d (longer_some A B ha hb) (shorter_some A B ha hb)
      (told n cells calls k s A B d w ha hb)

  -- what two lines answered somewhere says of them, whichever was the kept line
  says : (s : S) (A B : List Point) (d : Float) → 0 < length A → 0 < length B → Mutual (far s) A B
      → Answered far ratio coords s A B d → Says (far s) (ok s) (law s) A B d
  says s A B d ha hb m (n, cells, calls, k, inl w) =
      says_told (far s) (ok s) (law s) A B d ha hb m (told n cells calls k s A B d w ha hb)
  says s A B d ha hb m (n, cells, calls, k, inr w) =
      let back = mutual_back (far s) (ok s) (law s) A B m in
      says_back (far s) (ok s) (law s) B A d back
      (says_told (far s) (ok s) (law s) B A d hb ha back (told n cells calls k s B A d w hb ha))

  pub nearness_law : NearnessLaw far ratio coords
  nearness_law s A B C r q u t ab bc ac ha hb hc mab mbc mac triangle =
      passes (far s) (ok s) (law s) A B C r q u t (says s A B r ha hb mab ab) (says s B C q hb hc mbc bc)
      (says s A C u ha hc mac ac) triangle
