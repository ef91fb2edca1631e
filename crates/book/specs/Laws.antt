-- The laws over lists of calls: what the completed comparisons of any list answer, in the words of couplings.
use Rattle.std.specs.Prelude.{◌≡◌, ℕ, ◌<◌, T, ◌⊎◌, List, length, take, Some, Result, Float}
use Rattle.std.specs.Float.Ieee.{le}
use Rattle.std.specs.List.{slice_get}
use Rattle.couplings.specs.Coupling.{Among, Each}
use Rattle.points.specs.declared.fault.Fault.{Fault}
use Rattle.points.specs.declared.point.Point.{Point}
use Rattle.frechet.specs.Table.{longer, shorter}
use Rattle.frechet.specs.Theorem.{NoMore, Coupled, Mutual}
use Rattle.book.specs.declared.call.Answer.TheVariants.{Closed}
use Rattle.book.specs.declared.call.Call.{Call}
use Rattle.book.specs.Book.{Book}
use Rattle.book.specs.Calls.{start, played, answers}

module _ {S R : Type 0} (far : S → Point → Point → Result Float Fault)
    (ratio : S → Point → Point → Float → Result Point Fault) (coords : R → List Point) where
  -- the book before call k, on a table of n records and with a row buffer of so many cells
  abbrev pub before : ℕ → ℕ → List (Call S R) → ℕ → Book S
  before n cells calls k = (played far ratio coords n cells start (take k calls)).book

  -- call k, counted from 0, closes a comparison of the kept line A with the reference B, each of whose rows was
  -- asked in the space s, and answers d
  pub record Completes (n cells : ℕ) (calls : List (Call S R)) (k : ℕ) (s : S) (A B : List Point) (d : Float)
      : Type 0 where
    pub answer : slice_get (answers far ratio coords n cells start calls) k ≡ Some (Closed (Some d))
    pub kept : (before n cells calls k).line ≡ A
    pub reference : (before n cells calls k).reference ≡ B
    pub asked : Each (λ row. row.space ≡ s) (before n cells calls k).rows

  -- some coupling of the two lines has no pair farther apart than the answer, and every coupling has a pair at
  -- least that far apart; a pair is as far apart as the space says from the longer line's point to the shorter's
  abbrev pub CouplingLaw : ℕ → ℕ → List (Call S R) → Type 0
  CouplingLaw n cells calls =
      (k : ℕ) (s : S) (A B : List Point) (d : Float) → Completes n cells calls k s A B d
      → 0 < length A → 0 < length B → Coupled (far s) (longer A B) (shorter A B) d

  -- somewhere in some list of calls the two lines answered d, with the one or the other as the kept line
  abbrev pub Answered : S → List Point → List Point → Float → Type 0
  Answered s A B d =
      (n : ℕ) × (cells : ℕ) × (calls : List (Call S R)) × (k : ℕ)
      × (Completes n cells calls k s A B d ⊎ Completes n cells calls k s B A d)

  -- where A and B answered r, B and C answered q and A and C answered u, u is at most t, for every t such that
  -- a at most r from b and b at most q from c puts a at most t from c
  abbrev pub NearnessLaw : Type 0
  NearnessLaw =
      (s : S) (A B C : List Point) (r q u t : Float)
      → Answered s A B r → Answered s B C q → Answered s A C u
      → 0 < length A → 0 < length B → 0 < length C
      → Mutual (far s) A B → Mutual (far s) B C → Mutual (far s) A C
      → ((a b c : Point) → Among a A → Among b B → Among c C
      → NoMore r (far s a b) → NoMore q (far s b c) → NoMore t (far s a c))
      → T (le u t)
