-- A list of calls, call by call.
use Rattle.std.proofs.Common.{◌≡◌, ℕ, ◌+◌, ◌<◌, List, [], ◌∷◌, ◌++◌, length, get_or, take, drop, set, Result, sym, refl, ap, ◌∙◌, subst, append_assoc, append-nil, arith}
use lib.Ieee.{Float}
use Rattle.std.proofs.lemmas.List.{take_more_set, drop_more, drop_all, nil_from_length}
use Rattle.points.specs.declared.fault.Fault.{Fault}
use Rattle.points.specs.declared.point.Point.{Point}
use Rattle.book.specs.declared.call.Answer.{Answer}
use Rattle.book.specs.declared.call.Call.{Call}
use Rattle.book.specs.Book.{empty_book}
use Rattle.book.specs.Calls.{Moment, start, next, played, answers}
use Rattle.table.specs.declared.Head.{Head}
use Rattle.table.specs.declared.Record.{Record}
use Rattle.table.specs.Format.{Formatted}
use Rattle.table.specs.Lines.{kept_line, set_aside}
use Rattle.table.specs.Whole.{Sized}
use Rattle.table.proofs.Lines.{line_count, aside_newest}
use Rattle.plan.specs.declared.state.State.{State}
use Rattle.plan.specs.declared.state.State.TheVariants.{Editing}
use Rattle.plan.specs.Runs.{Stepped, Steps, Played}
use Rattle.plan.specs.Stands.{StandsAt}
use Rattle.plan.proofs.Edits.{kept_of}

module _ {S R : Type 0} (far : S → Point → Point → Result Float Fault)
    (ratio : S → Point → Point → Float → Result Point Fault) (coords : R → List Point) (n cells : ℕ)
    (calls : List (Call S R)) (first : Moment S) where
  -- the answers and the last moment, from a moment on
  abbrev tells_from : Moment S → List (Call S R) → List Answer
  tells_from at cs = answers far ratio coords n cells at cs

  abbrev ends_from : Moment S → List (Call S R) → Moment S
  ends_from at cs = played far ratio coords n cells at cs

  -- after k calls some book stands, and what it says of the calls left is what the first says of all
  pub record Sofar (k : ℕ) (t : List Record) (xs : List Float) (s : State R) (told : List Answer) : Type 0 where
    pub at : Moment S
    pub stands : StandsAt coords at t xs s
    pub rest : played far ratio coords n cells at (drop k calls) ≡ played far ratio coords n cells first calls
    pub told_is : take k told ++ answers far ratio coords n cells at (drop k calls)
        ≡ answers far ratio coords n cells first calls

  pub begun : (t : List Record) (xs : List Float) (s : State R) (told : List Answer) → StandsAt coords first t xs s
      → Sofar 0 t xs s told
  begun t xs s told st = record { at = first; stands = st; rest = refl; told_is = refl }

  pub more : (k : ℕ) (t : List Record) (xs : List Float) (s : State R) (told : List Answer) (c : Call S R)
      (t' : List Record) (xs' : List Float) (s' : State R) (a : Answer)
      → length t ≡ n → length xs ≡ cells → k < length calls → k < length told → c ≡ get_or calls k c
      → Steps far ratio coords t xs s c t' xs' s' a → Sofar k t xs s told → Sofar (k + 1) t' xs' s' (set told k a)
  more k t xs s told c t' xs' s' a long wide some room is step h =
      let v : Stepped far ratio coords n cells h.at c t' xs' s' a =
      rw (long, wide) at (step h.at h.stands) in
      let split : drop k calls ≡ c ∷ drop (k + 1) calls =
      drop_more calls k c some ∙ ap (λ z. z ∷ drop (k + 1) calls) (sym is) in
      let then : Moment S = next far ratio coords n cells h.at c in
      let left : List Answer = answers far ratio coords n cells then (drop (k + 1) calls) in
      record {
        at = then;
        stands = v.stands;
        rest = sym (ap (ends_from h.at) split) ∙ h.rest;
        told_is =
            ap (λ z. z ++ left) (take_more_set told k a room)
            ∙ (append_assoc (take k told) (a ∷ []) left
            ∙ (ap (λ z. take k told ++ z ∷ left) v.told
            ∙ (sym (ap (λ z. take k told ++ tells_from h.at z) split) ∙ h.told_is)));
      }

  pub ended : (k : ℕ) (t : List Record) (xs : List Float) (s : State R) (told : List Answer) → k ≡ length calls
      → Sofar k t xs s told → Played far ratio coords n cells first calls t xs s told
  ended k t xs s told e h =
      let none : drop k calls ≡ [] = drop_all k calls (omega arith) in
      record {
        told_is = rw (← e) (rw (none, append-nil) at h.told_is);
        stands = subst (λ z. StandsAt coords z t xs s) (sym (ap (ends_from h.at) none) ∙ h.rest) h.stands;
      }

-- after format the empty book stands
pub formatted : {S R : Type 0} (coords : R → List Point) (t t' : List Record) (h : Head) (xs : List Float)
    → Sized t → Formatted t t' h → StandsAt {S = S} coords start t' xs (Editing h)
formatted coords t t' h xs w f = record {
  turn = refl;
  book = kept_of empty_book t' h
      (record {
        sized = record { least = omega arith; most = omega arith };
        whole = f.whole;
      })
      (nil_from_length (kept_line t' h) (line_count t' h ∙ f.count))
      (nil_from_length (set_aside t' h) (aside_newest t' h ∙ f.newest));
}
