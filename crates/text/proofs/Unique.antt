-- A line spells at most one command.
use Rattle.std.proofs.Common.{◌≡◌, ℕ, ◌^◌, ◌<◌, List, [], ◌∷◌, ◌++◌, get_or, drop, sym, refl, ap, ◌∙◌, append-nil, arith}
use Rattle.text.specs.Grammar.{Sized, spelled, spaced}
use Rattle.text.specs.declared.command.Command.{Command}
use Rattle.text.specs.declared.command.Command.TheVariants.{Reference, Append, Compare}
use Rattle.text.proofs.Digits.{same_first, same_rest}

-- two lines that differ in their first letter
differ : (m n : ℕ) (xs ys : List ℕ) → m ∷ xs ≡ n ∷ ys → m ≡ n
differ m n xs ys e = ap (λ l. get_or l 0 0) e

same_two : (x y u v : ℕ) → x < 2 ^ 64 → y < 2 ^ 64 → u < 2 ^ 64 → v < 2 ^ 64
    → spaced x ++ spaced y ≡ spaced u ++ spaced v → (x ≡ u) × (y ≡ v)
same_two x y u v hx hy hu hv e =
    let rest = same_rest x u (spaced y) (spaced v) e in
    let padded = append-nil (spaced y) ∙ rest ∙ sym (append-nil (spaced v)) in
    (same_first x u (spaced y) (spaced v) hx hu e, same_first y v [] [] hy hv padded)

pub same_command : (q r : Command) → Sized q → Sized r → spelled q ≡ spelled r → q ≡ r
same_command (Reference x y) (Reference u v) hq hr e =
    let s = same_two x y u v hq.0 hq.1 hr.0 hr.1 (ap (drop 1) e) in
    λ i. Reference (s.0 i) (s.1 i)
same_command (Append x y) (Append u v) hq hr e =
    let s = same_two x y u v hq.0 hq.1 hr.0 hr.1 (ap (drop 1) e) in
    λ i. Append (s.0 i) (s.1 i)
same_command Compare Compare hq hr e = refl
same_command (Reference x y) (Append u v) hq hr e = absurd (omega (arith, differ 82 65 _ _ e))
same_command (Reference x y) Compare hq hr e = absurd (omega (arith, differ 82 67 _ _ e))
same_command (Append x y) (Reference u v) hq hr e = absurd (omega (arith, differ 65 82 _ _ e))
same_command (Append x y) Compare hq hr e = absurd (omega (arith, differ 65 67 _ _ e))
same_command Compare (Reference u v) hq hr e = absurd (omega (arith, differ 67 82 _ _ e))
same_command Compare (Append u v) hq hr e = absurd (omega (arith, differ 67 65 _ _ e))
