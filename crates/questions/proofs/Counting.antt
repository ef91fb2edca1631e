-- The text of numbers, one after the other, and where it ends.
use Rattle.std.proofs.Common.{◌≡◌, ℕ, suc, ◌*◌, ◌^◌, ◌<◌, List, [], ◌∷◌, ◌++◌, length, sym, refl, ap, ◌∙◌, append_assoc, append-nil, arith, length-append}
use lib.Ieee.{Float}
use Rattle.std.proofs.lemmas.List.{append_cancel_left, length-map}
use Rattle.text.specs.Hex.{hex_text}
use Rattle.text.specs.Grammar.{spaced, Parted}
use Rattle.text.proofs.HexLaws.{length_hex_text}
use Rattle.text.proofs.Digits.{same_rest}
use Rattle.questions.specs.Spelling.{numbers_text, AllSized, Words}

pub length_numbers : (ns : List ℕ) → length (numbers_text ns) ≡ 17 * length ns
length_numbers [] = refl
length_numbers (n ∷ ns) =
    let long = length_hex_text 16 n in
    let more = length-append (hex_text 16 n) (numbers_text ns) in
    omega (arith, length_numbers ns)

pub numbers_push : (ns : List ℕ) (n : ℕ) (rest : List ℕ) →
    numbers_text ns ++ (spaced n ++ rest) ≡ numbers_text (ns ++ (n ∷ [])) ++ rest
numbers_push [] n rest = ap (λ l. 32 ∷ (l ++ rest)) (sym (append-nil (hex_text 16 n)))
numbers_push (m ∷ ns) n rest =
    ap (λ l. 32 ∷ l)
    (append_assoc (hex_text 16 m) (numbers_text ns) (spaced n ++ rest)
    ∙ ap (λ l. hex_text 16 m ++ l) (numbers_push ns n rest)
    ∙ sym (append_assoc (hex_text 16 m) (numbers_text (ns ++ (n ∷ []))) rest))

pub sized_push : (ns : List ℕ) (n : ℕ) → AllSized ns → n < 2 ^ 64 → AllSized (ns ++ (n ∷ []))
sized_push [] n h s = (s, tt)
sized_push (m ∷ ns) n h s = (h.0, sized_push ns n h.1 s)

-- no number stands at the front, whatever follows it
abbrev pub Plain : List ℕ → Type 0
Plain s = (n : ℕ) (rest : List ℕ) → s ≡ spaced n ++ rest → ⊥

-- no number stands at the front with a space or nothing after it
abbrev pub NoneAt : List ℕ → Type 0
NoneAt r = (n : ℕ) → n < 2 ^ 64 → (rest : List ℕ) → Parted rest → r ≡ spaced n ++ rest → ⊥

pub plain_nil : Plain []
plain_nil n rest e = let z = ap length e in omega arith

pub parted_numbers : (ns s : List ℕ) → Parted s → Parted (numbers_text ns ++ s)
parted_numbers [] s p = p
parted_numbers (n ∷ ns) s p = refl

-- as many numbers as stand in a text end where its numbers end
pub same_count : (ms ns s r : List ℕ) → AllSized ms → Parted s → Plain s → NoneAt r →
    numbers_text ms ++ s ≡ numbers_text ns ++ r → (length ms ≡ length ns) × (s ≡ r)
same_count [] [] s r h p plain none e = (refl, e)
same_count [] (n ∷ ns) s r h p plain none e =
    absurd (plain n (numbers_text ns ++ r) (e ∙ append_assoc (spaced n) (numbers_text ns) r))
same_count (m ∷ ms) [] s r h p plain none e =
    absurd (none m h.0 (numbers_text ms ++ s) (parted_numbers ms s p)
    (sym e ∙ append_assoc (spaced m) (numbers_text ms) s))
same_count (m ∷ ms) (n ∷ ns) s r h p plain none e =
    let left = append_assoc (spaced m) (numbers_text ms) s in
    let right = append_assoc (spaced n) (numbers_text ns) r in
    let rest = same_rest m n (numbers_text ms ++ s) (numbers_text ns ++ r) (sym left ∙ e ∙ right) in
    let more = same_count ms ns s r h.1 p plain none rest in
    (ap suc more.0, more.1)

-- two readings of a line after one name have as many numbers
pub words_count : (line name : List ℕ) (xs ys : List Float) → Words line name xs → Words line name ys →
    length xs ≡ length ys
words_count line name xs ys a b =
    let same = append_cancel_left name _ _ (sym a.whole ∙ b.whole) in
    let long = ap length same in
    let la = length_numbers a.bits in
    let lb = length_numbers b.bits in
    let xa = sym (ap length a.are) ∙ length-map a.bits _ in
    let xb = sym (ap length b.are) ∙ length-map b.bits _ in
    omega (arith, long, la, lb, xa, xb)
