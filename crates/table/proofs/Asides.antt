-- A densify sets the kept line aside.
use Rattle.std.proofs.Common.{◌≡◌, ℕ, zero, suc, ◌+◌, ◌<◌, ◌≤◌, cond, ltb, List, [], ◌∷◌, ◌++◌, length, drop, refl, ap, ◌∙◌, arith, length-drop, le-ltb}
use mathlib.Core.List.{map-append}
use Rattle.points.specs.declared.point.Point.{Point}
use Rattle.table.specs.declared.Record.{Record}
use Rattle.table.specs.declared.Head.{Head}
use Rattle.table.specs.Append.{new_nodes}
use Rattle.table.specs.Chains.{Node, Held}
use Rattle.table.specs.Lines.{points_of, held_by, held_line, held_before, lines_before, kept_line, set_aside}
use Rattle.table.specs.Weave.{woven_after, woven, spent_after, spent, Enough, Woven}
use Rattle.table.specs.Whole.{Whole, line_of, free_of}
use Rattle.table.proofs.Ends.{UpTo, start_held, start_total}
use Rattle.table.proofs.Lines.{new_held, held_new, before_all}
use Rattle.table.proofs.Segments.{all_map, length_nodes}

-- a later edit does not count for an earlier line
before_later : (i e : ℕ) (ps : List Point) (gs : List Held) → i ≤ e
    → held_before i (new_held e ps ++ gs) ≡ held_before i gs
before_later i e [] gs h = refl
before_later i e (p ∷ ps) gs h = rw (le-ltb e i h) (before_later i e ps gs h)

lines_same : (e : ℕ) (gs hs : List Held) → ((i : ℕ) → i ≤ e → held_before i gs ≡ held_before i hs)
    → (n : ℕ) → n ≤ e → lines_before n gs ≡ lines_before n hs
lines_same e gs hs k zero h = refl
lines_same e gs hs k (suc n) h =
    let p : held_before (suc n) gs ≡ held_before (suc n) hs = k (suc n) h in
    let q : lines_before n gs ≡ lines_before n hs = lines_same e gs hs k n (omega arith) in
    cc

module _ (between : Point → Point → List Point) where
  before_after : (i e : ℕ) → i ≤ e → (p : Point) (ns f : List Node) → spent_after between p ns ≤ length f
      → held_before i (held_by (woven_after between e p ns f)) ≡ held_before i (held_by ns)
  before_after i e h p [] f r = refl
  before_after i e h p (n ∷ ns) f r =
      let q = n.held.point in
      let new = between p q in
      let tail = woven_after between e q ns (drop (length new) f) in
      let room : spent_after between q ns ≤ length (drop (length new) f) =
      rw (length-drop (length new) f) (omega arith) in
      ap (held_before i) (map-append (λ c. c.held) (new_nodes e f new) (n ∷ tail)
      ∙ ap (λ v. v ++ n.held ∷ held_by tail) (held_new e f new (omega arith)))
      ∙ (before_later i e new (n.held ∷ held_by tail) h
      ∙ ap (λ v. cond (ltb n.held.edit i) (n.held ∷ v) v)
      (before_after i e h q ns (drop (length new) f) room))

  before_woven : (i e : ℕ) → i ≤ e → (ns f : List Node) → spent between ns ≤ length f
      → held_before i (held_by (woven between e ns f)) ≡ held_before i (held_by ns)
  before_woven i e h [] f r = refl
  before_woven i e h (n ∷ ns) f r =
      ap (λ v. cond (ltb n.held.edit i) (n.held ∷ v) v) (before_after i e h n.held.point ns f r)

  pub woven_aside : (t : List Record) (h : Head) (t' : List Record) (h' : Head) → Whole t h
      → Enough between t h → Woven between t h t' h' → set_aside t' h' ≡ kept_line t h ∷ set_aside t h
  woven_aside t h t' h' w r u =
      let n = h.newest in
      let gs : List Held = held_line t h in
      let count = length_nodes t h.count h.first in
      let all = start_total t h w in
      let room : spent between (line_of t h) ≤ length (free_of t h) = omega (arith, w.fits) in
      let kept : (i : ℕ) → i ≤ n + 1 → held_before i (held_line t' h') ≡ held_before i gs =
      λ i q. ap (λ v. held_before i (held_by v)) u.line
      ∙ before_woven i (n + 1) q (line_of t h) (free_of t h) room in
      let under =
      all_map (UpTo n) (λ g. g.edit < suc n) (λ x p. omega arith) (line_of t h) (start_held t h w) in
      let top : held_before (suc n) (held_line t' h') ≡ gs =
      kept (suc n) (omega arith) ∙ before_all (suc n) (line_of t h) under in
      let rest : lines_before n (held_line t' h') ≡ lines_before n gs =
      lines_same (n + 1) (held_line t' h') gs kept n (omega arith) in
      let up : h'.newest ≡ suc n = omega (arith, u.newest) in
      ap (λ v. lines_before v (held_line t' h')) up
      ∙ (ap (λ v. points_of v ∷ lines_before n (held_line t' h')) top ∙ ap (λ v. kept_line t h ∷ v) rest)
