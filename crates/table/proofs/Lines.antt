-- What the edits do to the kept line and to the lines set aside.
use Rattle.std.proofs.Common.{◌≡◌, ℕ, zero, suc, ◌+◌, ◌<◌, ◌≤◌, true, false, cond, ltb, List, [], ◌∷◌, ◌++◌, map, length, sym, refl, ap, ◌∙◌, inl, inr, arith, le-ltb, lt-ltb}
use mathlib.Core.List.{map-append}
use Rattle.std.proofs.lemmas.List.{length-map}
use Rattle.std.proofs.lemmas.Bool.{cases_lt}
use Rattle.points.specs.declared.point.Point.{Point}
use Rattle.table.specs.declared.Record.{Record}
use Rattle.table.specs.declared.Head.{Head}
use Rattle.table.specs.Append.{new_nodes, Appended, HasRoom}
use Rattle.table.specs.Chains.{Node, Held}
use Rattle.table.specs.Lines.{points_of, held_by, held_line, held_before, lines_before, kept_line, set_aside}
use Rattle.table.specs.Settle.{settled, Settled}
use Rattle.table.specs.Undo.{nodes_before, Undone}
use Rattle.table.specs.Whole.{Whole, line_of, free_of}
use Rattle.table.proofs.Segments.{AllHeld, all_map, length_nodes}
use Rattle.table.proofs.Ends.{UpTo, start_held, start_total}

-- the points of a new edit, with its number
abbrev pub new_held : ℕ → List Point → List Held
new_held e ps = map (λ p. record { point = p; edit = e }) ps

pub before_held : (e : ℕ) (cs : List Node) → held_by (nodes_before e cs) ≡ held_before e (held_by cs)
before_held e [] = refl
before_held e (c ∷ cs) =
    elim (ltb c.held.edit e) as (λ v.
    held_by (cond v (c ∷ nodes_before e cs) (nodes_before e cs))
    ≡ cond v (c.held ∷ held_before e (held_by cs)) (held_before e (held_by cs)))
    [ true ↦ ap (λ v. c.held ∷ v) (before_held e cs) | false ↦ before_held e cs ]

-- all was put there before
pub before_all : (e : ℕ) (cs : List Node) → AllHeld (λ g. g.edit < e) cs
    → held_before e (held_by cs) ≡ held_by cs
before_all e [] w = refl
before_all e (c ∷ cs) w =
    rw (lt-ltb c.held.edit e w.0) (ap (λ v. c.held ∷ v) (before_all e cs w.1))

pub before_twice : (i e : ℕ) (gs : List Held) → i ≤ e → held_before i (held_before e gs) ≡ held_before i gs
before_twice i e [] h = refl
before_twice i e (g ∷ gs) h =
    let q : held_before i (held_before e gs) ≡ held_before i gs = before_twice i e gs h in
    elim (cases_lt g.edit e) as (λ _. held_before i (held_before e (g ∷ gs)) ≡ held_before i (g ∷ gs)) [
      | inl lt ↦ rw (lt-ltb g.edit e lt) (ap (λ v. cond (ltb g.edit i) (g ∷ v) v) q)
      | inr le ↦ rw (le-ltb g.edit e le, le-ltb g.edit i (omega arith)) q
    ]

pub lines_before_lem : (n e : ℕ) (gs : List Held) → n ≤ e → lines_before n (held_before e gs) ≡ lines_before n gs
lines_before_lem zero e gs h = refl
lines_before_lem (suc n) e gs h =
    let p : held_before (suc n) (held_before e gs) ≡ held_before (suc n) gs = before_twice (suc n) e gs h in
    let q : lines_before n (held_before e gs) ≡ lines_before n gs = lines_before_lem n e gs (omega arith) in
    cc

pub before_new : (i e : ℕ) (gs : List Held) (ps : List Point) → i ≤ e
    → held_before i (gs ++ new_held e ps) ≡ held_before i gs
before_new i e [] [] h = refl
before_new i e [] (p ∷ ps) h = rw (le-ltb e i h) (before_new i e [] ps h)
before_new i e (g ∷ gs) ps h = ap (λ v. cond (ltb g.edit i) (g ∷ v) v) (before_new i e gs ps h)

pub lines_new : (n e : ℕ) (gs : List Held) (ps : List Point) → n ≤ e
    → lines_before n (gs ++ new_held e ps) ≡ lines_before n gs
lines_new zero e gs ps h = refl
lines_new (suc n) e gs ps h =
    let p : held_before (suc n) (gs ++ new_held e ps) ≡ held_before (suc n) gs = before_new (suc n) e gs ps h in
    let q : lines_before n (gs ++ new_held e ps) ≡ lines_before n gs = lines_new n e gs ps (omega arith) in
    cc

pub points_new : (e : ℕ) (ps : List Point) → points_of (new_held e ps) ≡ ps
points_new e [] = refl
points_new e (p ∷ ps) = ap (λ v. p ∷ v) (points_new e ps)

pub held_new : (e : ℕ) (f : List Node) (ps : List Point) → length ps ≤ length f
    → held_by (new_nodes e f ps) ≡ new_held e ps
held_new e f [] h = refl
held_new e [] (p ∷ ps) h = absurd (omega arith)
held_new e (c ∷ f) (p ∷ ps) h = ap (λ v. record { point = p; edit = e } ∷ v) (held_new e f ps (omega arith))

pub points_settled : (cs : List Node) → points_of (held_by (map settled cs)) ≡ points_of (held_by cs)
points_settled [] = refl
points_settled (c ∷ cs) = ap (λ v. c.held.point ∷ v) (points_settled cs)

pub length_lines : (n : ℕ) (gs : List Held) → length (lines_before n gs) ≡ n
length_lines zero gs = refl
length_lines (suc n) gs = ap suc (length_lines n gs)

pub lines_back : (m n : ℕ) (gs : List Held) → m ≡ suc n
    → lines_before m gs ≡ points_of (held_before m gs) ∷ lines_before n gs
lines_back m n gs e = rw e refl

module _ (t : List Record) (h : Head) where
  -- the newest edit number is how many lines are set aside
  pub aside_newest : length (set_aside t h) ≡ h.newest
  aside_newest = length_lines h.newest (held_line t h)

  pub line_count : length (kept_line t h) ≡ h.count
  line_count =
      length-map (held_line t h) (λ g. g.point)
      ∙ (length-map (line_of t h) (λ c. c.held) ∙ length_nodes t h.count h.first)

module _ (t : List Record) (h : Head) (t' : List Record) (h' : Head) where
  -- an undo takes back the newest line set aside
  pub undo_lines : 0 < h.newest → Undone t h t' h' → set_aside t h ≡ kept_line t' h' ∷ set_aside t' h'
  undo_lines s u =
      let gs : List Held = held_line t h in
      let held : held_line t' h' ≡ held_before h.newest gs =
      ap held_by u.line ∙ before_held h.newest (line_of t h) in
      let n : h.newest ≡ suc h'.newest = omega (arith, u.newest) in
      let rest : lines_before h'.newest (held_line t' h') ≡ lines_before h'.newest gs =
      ap (lines_before h'.newest) held ∙ lines_before_lem h'.newest h.newest gs (omega arith) in
      lines_back h.newest h'.newest gs n
      ∙ (ap (λ v. v ∷ lines_before h'.newest gs) (sym (ap points_of held))
      ∙ ap (λ v. kept_line t' h' ∷ v) (sym rest))

  module _ (ps : List Point) (w : Whole t h) (r : HasRoom t h ps) (u : Appended t h ps t' h') where
    grown : held_line t' h' ≡ held_line t h ++ new_held (h.newest + 1) ps
    grown =
        let e = h.newest + 1 in
        let n = length_nodes t h.count h.first in
        let room : length ps ≤ length (free_of t h) = omega (arith, w.fits, start_total t h w) in
        ap held_by u.line
        ∙ (map-append (λ c. c.held) (line_of t h) (new_nodes e (free_of t h) ps)
        ∙ ap (λ v. held_line t h ++ v) (held_new e (free_of t h) ps room))

    -- an append adds its points at the end
    pub append_line : kept_line t' h' ≡ kept_line t h ++ ps
    append_line =
        ap points_of grown
        ∙ (map-append (λ v. v.point) (held_line t h) (new_held (h.newest + 1) ps)
        ∙ ap (λ v. kept_line t h ++ v) (points_new (h.newest + 1) ps))

    -- and sets the line aside
    pub append_aside : set_aside t' h' ≡ kept_line t h ∷ set_aside t h
    append_aside =
        let gs : List Held = held_line t h in
        let n = h.newest in
        let up : h'.newest ≡ suc n = omega (arith, u.newest) in
        let under =
        all_map (UpTo n) (λ g. g.edit < suc n) (λ x p. omega arith) (line_of t h) (start_held t h w) in
        let top : held_before (suc n) (held_line t' h') ≡ gs =
        ap (held_before (suc n)) grown
        ∙ (before_new (suc n) (n + 1) gs ps (omega arith) ∙ before_all (suc n) (line_of t h) under) in
        let rest : lines_before n (held_line t' h') ≡ lines_before n gs =
        ap (lines_before n) grown ∙ lines_new n (n + 1) gs ps (omega arith) in
        ap (λ v. lines_before v (held_line t' h')) up
        ∙ (ap (λ v. points_of v ∷ lines_before n (held_line t' h')) top ∙ ap (λ v. kept_line t h ∷ v) rest)

  -- a settle keeps the line, and drops all set aside
  pub settle_line : Settled t h t' h' → kept_line t' h' ≡ kept_line t h
  settle_line u = ap (λ v. points_of (held_by v)) u.line ∙ points_settled (line_of t h)

  pub settle_aside : Settled t h t' h' → set_aside t' h' ≡ []
  settle_aside u = ap (λ v. lines_before v (held_line t' h')) u.newest
