-- A walk begins and ends on a whole table.
use Rattle.std.proofs.Common.{◌≡◌, ℕ, ◌+◌, ◌≤◌, List, [], length, sym, refl, subst, inl, arith}
use Rattle.table.specs.declared.Record.{Record}
use Rattle.table.specs.declared.Head.{Head}
use Rattle.table.specs.Chains.{Chained, Node, Held, nodes}
use Rattle.points.specs.Limits.{last_edit}
use Rattle.table.specs.Numbers.{free_number}
use Rattle.table.specs.Whole.{Whole, line_of, free_of, free_count}
use Rattle.table.proofs.Segments as seg
use Rattle.table.proofs.Segments.{AllHeld, all_map}
use Rattle.table.proofs.Places.{Place, InLine, IsFree}

abbrev pub Numbered : ℕ → ℕ → Held → Type 0
Numbered lo hi g = (lo ≤ g.edit) × (g.edit ≤ hi)

abbrev pub UpTo : ℕ → Held → Type 0
UpTo e g = g.edit ≤ e

module _ (t : List Record) (h : Head) (w : Whole t h) where
  pub line_held : AllHeld (Numbered 0 h.newest) (line_of t h)
  line_held = seg.held_of t 0 h.newest h.count h.first w.line

  pub free_held : AllHeld (Numbered free_number free_number) (free_of t h)
  free_held = seg.held_of t free_number free_number (free_count t h) h.free w.free

  -- a walk at the start of the line
  pub place_start : Place t h.first h.free 0 h.first [] (line_of t h) (free_of t h)
  place_start = record {
    front = refl;
    back = seg.seg_of t 0 h.newest h.count h.first w.line;
    spare = seg.seg_of t free_number free_number (free_count t h) h.free w.free;
    ends = inl (refl, refl);
    line_a = tt;
    line_b = all_map (Numbered 0 h.newest) InLine (λ g p. omega (arith, w.latest, p.1))
        (line_of t h) line_held;
    frees = all_map (Numbered free_number free_number) IsFree (λ g p. omega (arith, p.0, p.1))
        (free_of t h) free_held;
  }

  pub start_held : AllHeld (UpTo h.newest) (line_of t h)
  start_held = all_map (Numbered 0 h.newest) (UpTo h.newest) (λ g p. p.1) (line_of t h) line_held

  pub start_total : length (line_of t h) + length (free_of t h) + 1 ≡ length t
  start_total =
      let line = seg.length_nodes t h.count h.first in
      let free = seg.length_nodes t (free_count t h) h.free in
      omega (arith, w.fits)

-- what a walk at the end of the line leaves
pub record Laid (t : List Record) (h : Head) (line free : List Node) : Type 0 where
  pub whole : Whole t h
  pub line_is : line_of t h ≡ line
  pub free_is : free_of t h ≡ free

pub place_end : (t : List Record) (h : Head) (before : ℕ) (a f : List Node)
    → Place t h.first h.free before 0 a [] f → h.newest ≤ last_edit → AllHeld (UpTo h.newest) a
    → h.count ≡ length a → length a + length f + 1 ≡ length t → Laid t h a f
place_end t h before a f m latest top n total =
    let free_n : free_count t h ≡ length f = omega arith in
    let line = all_map (UpTo h.newest) (Numbered 0 h.newest) (λ g p. (omega arith, p)) a top in
    let free =
    all_map IsFree (Numbered free_number free_number) (λ g p. (omega arith, omega arith)) f m.frees in
    record {
      whole = record {
        fits = omega arith;
        line = subst (λ v. Chained t 0 h.newest v h.first) (sym n)
            (seg.chained_of t 0 h.newest h.first a m.front line);
        free = subst (λ v. Chained t free_number free_number v h.free) (sym free_n)
            (seg.chained_of t free_number free_number h.free f m.spare free);
        latest = latest;
      };
      line_is = subst (λ v. nodes t v h.first ≡ a) (sym n) (seg.seg_nodes t h.first a 0 m.front);
      free_is = subst (λ v. nodes t v h.free ≡ f) (sym free_n) (seg.seg_nodes t h.free f 0 m.spare);
    }
