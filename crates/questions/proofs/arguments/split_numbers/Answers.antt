use Rattle.std.proofs.Common.{[], ◌∷◌, ◌++◌, vec_items, sym, ap, ◌∙◌}
use lib.Ieee.{binary64, of_bits}
use Rattle.std.proofs.lemmas.List.{map-append}
use Rattle.questions.specs.Spelling.{numbers_text}
use Rattle.questions.proofs.Counting.{numbers_push, sized_push}
use Rattle.questions.proofs.arguments.split_numbers.Goals as goal

pub loop-bits-preserved : goal.loop-bits-preserved
loop-bits-preserved c =
    let inv = c.loop-bits.invariant in
    let bits = c.in-Some.bits in
    let first = c.in-Some.ensures.0 in
    let float = c.f64_from_bits_with_nan.ensures in (
      inv.0 ++ (bits ∷ []),
      sized_push inv.0 bits inv.1 first.sized,
      map-append (of_bits binary64) inv.0 (bits ∷ [])
          ∙ ap (λ l. l ++ (of_bits binary64 bits ∷ [])) inv.2
          ∙ ap (λ x. vec_items c.loop-bits.numbers ++ (x ∷ [])) (sym float)
          ∙ sym c.in_ok-push.ensures.items,
      inv.3 ∙ ap (λ l. numbers_text inv.0 ++ l) first.whole ∙ numbers_push inv.0 bits _,
    )
