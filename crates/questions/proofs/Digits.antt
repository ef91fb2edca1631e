-- Texts of numbers of 64 bits are told apart by their hexadecimal capitals.
use Rattle.std.proofs.Common.{◌≡◌, ℕ, List, [], ◌∷◌, ◌++◌, sym, refl, ap, ◌∙◌, append_assoc}
use Rattle.text.specs.Grammar.{spaced}
use Rattle.text.proofs.Digits.{same_first, same_rest}
use Rattle.questions.specs.Spelling.{numbers_text, AllSized}
use Rattle.questions.proofs.Counting.{Plain}

-- a text of numbers is that of no other numbers
pub same_numbers : (ms ns s r : List ℕ) → AllSized ms → AllSized ns → Plain s → Plain r →
    numbers_text ms ++ s ≡ numbers_text ns ++ r → (ms ≡ ns) × (s ≡ r)
same_numbers [] [] s r hm hn ps pr e = (refl, e)
same_numbers [] (n ∷ ns) s r hm hn ps pr e =
    absurd (ps n (numbers_text ns ++ r) (e ∙ append_assoc (spaced n) (numbers_text ns) r))
same_numbers (m ∷ ms) [] s r hm hn ps pr e =
    absurd (pr m (numbers_text ms ++ s) (sym e ∙ append_assoc (spaced m) (numbers_text ms) s))
same_numbers (m ∷ ms) (n ∷ ns) s r hm hn ps pr e =
    let left = append_assoc (spaced m) (numbers_text ms) s in
    let right = append_assoc (spaced n) (numbers_text ns) r in
    let both = sym left ∙ e ∙ right in
    let first = same_first m n (numbers_text ms ++ s) (numbers_text ns ++ r) hm.0 hn.0 both in
    let rest = same_rest m n (numbers_text ms ++ s) (numbers_text ns ++ r) both in
    let more = same_numbers ms ns s r hm.1 hn.1 ps pr rest in
    (ap (λ k. k ∷ ms) first ∙ ap (λ l. n ∷ l) more.0, more.1)
