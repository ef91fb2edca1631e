-- Points on their way into the line.
use Rattle.std.proofs.Common.{◌≡◌, ℕ, ◌+◌, ◌<◌, ◌≤◌, List, [], ◌∷◌, ◌++◌, length, drop, refl, ap, ◌∙◌, append_assoc, arith}
use Rattle.points.specs.declared.point.Point.{Point}
use Rattle.table.specs.declared.Record.{Record}
use Rattle.table.specs.declared.Head.{Head}
use Rattle.table.specs.Append.{new_nodes}
use Rattle.table.specs.Chains.{Node, held_in}
use Rattle.table.specs.Links.{filled, inserted_table, inserted_head}
use Rattle.points.specs.Limits.{last_edit}
use Rattle.table.proofs.Segments.{AllHeld, node, node_same, all_join}
use Rattle.table.proofs.Ends.{UpTo}
use Rattle.table.proofs.Walks.{Walk, walk_insert}

-- before `here`: a is the line so far, ps is still to come, f is free
pub record Splice (t0 : List Record) (a0 f0 : List Node) (ps0 : List Point) (e here : ℕ) (b : List Node)
    (t : List Record) (h : Head) (before : ℕ) (ps : List Point) (a f : List Node) : Type 0 where
  pub walk : Walk t0 t h before here a b f
  pub room : length ps ≤ length f
  pub line : a ++ new_nodes e f ps ≡ a0 ++ new_nodes e f0 ps0
  pub rest : drop (length ps) f ≡ drop (length ps0) f0
  pub top : AllHeld (UpTo e) a

abbrev pub Splicing : List Record → List Node → List Node → List Point → ℕ → ℕ → List Node → List Record → Head
    → ℕ → List Point → Type 0
Splicing t0 a0 f0 ps0 e here b t h before ps =
    (a : List Node) × (f : List Node) × Splice t0 a0 f0 ps0 e here b t h before ps a f

module _ (t0 : List Record) (a0 f0 : List Node) (ps0 : List Point) (e here : ℕ) (b : List Node)
    (t : List Record) (h : Head) (before : ℕ) (p : Point) (ps : List Point) where
  pub splice_step : (a f : List Node) → Splice t0 a0 f0 ps0 e here b t h before (p ∷ ps) a f → e ≤ last_edit
      → Splicing t0 a0 f0 ps0 e here b (inserted_table t h before here p e) (inserted_head t h before)
      h.free ps
  splice_step a [] u l = absurd (omega (arith, u.room))
  splice_step a (c ∷ f) u l =
      let r = filled p here e in
      let same : node h.free (held_in r) ≡ node c.index (held_in r) =
      node_same u.walk.place.spare.0 refl in (
        a ++ node h.free (held_in r) ∷ [],
        f,
        record {
          walk = walk_insert t0 t h before here a b f c u.walk r refl l;
          room = omega (arith, u.room);
          line = append_assoc a (node h.free (held_in r) ∷ []) (new_nodes e f ps)
              ∙ (ap (λ v. a ++ v ∷ new_nodes e f ps) same ∙ u.line);
          rest = u.rest;
          top = all_join (UpTo e) a (node h.free (held_in r) ∷ []) u.top (omega arith, tt);
        },
      )

  pub splice_room : (a f : List Node) → Splice t0 a0 f0 ps0 e here b t h before (p ∷ ps) a f
      → (h.free < length t) × (h.count + 1 < length t)
  splice_room a [] u = absurd (omega (arith, u.room))
  splice_room a (c ∷ f) u = (u.walk.place.spare.2, omega (arith, u.walk.count_is, u.walk.total))
