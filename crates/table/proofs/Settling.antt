-- A settle on its way.
use Rattle.std.proofs.Common.{◌≡◌, ℕ, ◌-◌, ◌<◌, List, [], ◌∷◌, ◌++◌, map, length, set, sym, refl, ap, ◌∙◌, append_assoc, append-nil, arith}
use Rattle.table.specs.declared.Record.{Record}
use Rattle.table.specs.declared.Head.{Head}
use Rattle.table.specs.Chains.{at, Node, held_in}
use Rattle.table.specs.Links.{numbered, newest_head}
use Rattle.table.specs.Settle.{settled, Settled, SettleOk}
use Rattle.table.specs.Whole.{Checked, Whole, line_of, free_of}
use Rattle.table.proofs.Segments.{AllHeld, node, node_same, all_join, length_nodes}
use Rattle.table.proofs.Ends.{UpTo}
use Rattle.table.proofs.Walks.{Walk, walk_start, walk_mark, walk_end}

module _ (t0 : List Record) (h : Head) where
  -- a is settled, b is still to come
  pub record Settle (t : List Record) (before here left : ℕ) (a b : List Node) : Type 0 where
    pub walk : Walk t0 t h before here a b (free_of t0 h)
    pub left_is : length b ≡ left
    pub line : a ++ map settled b ≡ map settled (line_of t0 h)
    pub done : AllHeld (UpTo 0) a

  abbrev pub Settling : List Record → ℕ → ℕ → Type 0
  Settling t here left = (before : ℕ) × (a : List Node) × (b : List Node) × Settle t before here left a b

  pub settle_start : (left : ℕ) → left ≡ h.count → Whole t0 h → Settling t0 h.first left
  settle_start left z w =
      let n = length_nodes t0 h.count h.first in (
        0,
        [],
        line_of t0 h,
        record {
          walk = walk_start t0 h w;
          left_is = n ∙ sym z;
          line = refl;
          done = tt;
        },
      )

  module _ (t : List Record) (here left : ℕ) where
    step : (before : ℕ) (a b : List Node) → Settle t before here left a b → 0 < left
        → Settling (set t here (numbered (at t here) 0)) (at t here).next (left - 1)
    step before a [] u l = absurd (omega (arith, u.left_is))
    step before a (c ∷ b) u l =
        let r = numbered (at t here) 0 in
        let zero = ap (λ g. record { point = g.point; edit = 0 }) u.walk.place.back.3 in
        let same : node here (held_in r) ≡ settled c = node_same u.walk.place.back.0 zero in (
          here,
          a ++ node here (held_in r) ∷ [],
          b,
          record {
            walk = walk_mark t0 t h before here a b (free_of t0 h) c u.walk r refl (omega arith);
            left_is = omega (arith, u.left_is);
            line = append_assoc a (node here (held_in r) ∷ []) (map settled b)
                ∙ (ap (λ v. a ++ v ∷ map settled b) same ∙ u.line);
            done = all_join (UpTo 0) a (node here (held_in r) ∷ []) u.done (omega arith, tt);
          },
        )

    inside : (before : ℕ) (a b : List Node) → Settle t before here left a b → 0 < left → here < length t
    inside before a [] u l = absurd (omega (arith, u.left_is))
    inside before a (c ∷ b) u l = u.walk.place.back.2

    last : (before : ℕ) (a b : List Node) → Settle t before here left a b → left ≡ 0
        → Settled t0 h t (newest_head h 0)
    last before a (c ∷ b) u z = absurd (omega (arith, u.left_is))
    last before a [] u z =
        let laid = walk_end t0 t h before here a (free_of t0 h) u.walk 0 (omega arith) u.done in
        record {
          whole = laid.whole;
          frame = u.walk.kept;
          line = laid.line_is ∙ (sym (append-nil a) ∙ u.line);
          free = laid.free_is;
          newest = refl;
        }

    module _ (u : Settling t here left) where
      pub settle_more : 0 < left → Settling (set t here (numbered (at t here) 0)) (at t here).next (left - 1)
      settle_more = step u.0 u.1 u.2 u.3

      pub settle_inside : 0 < left → here < length t
      settle_inside = inside u.0 u.1 u.2 u.3

      pub settle_ok : left ≡ 0 → Checked t0 h
          → (t' : List Record) (first free count : ℕ) → t' ≡ t → first ≡ h.first → free ≡ h.free → count ≡ h.count
          → SettleOk t0 h t' (record { first = first; free = free; count = count; newest = 0 })
      settle_ok z w t' first free count e1 e2 e3 e4 =
          rw (e1, e2, e3, e4) (record { checked = w; done = last u.0 u.1 u.2 u.3 z })

      pub settle_at : (t' : List Record) (here' left' : ℕ) → t' ≡ t → here' ≡ here → left' ≡ left
          → Settling t' here' left'
      settle_at t' here' left' p q r = rw (p, q, r) u
