-- The slash between two runs of numbers.
use Rattle.std.proofs.Common.{◌≡◌, ℕ, ◌+◌, ◌<◌, ◌≤◌, List, length, get_or, codes, sym, refl, ap, ◌∙◌, subst, ⊎_elim, arith, le-ltb, lt-ltb}
use lib.Ieee.{Float}
use Rattle.std.proofs.lemmas.List.{get_or_append_left, append_cancel_left, length-map}
use Rattle.std.proofs.str.Laws.{order}
use Rattle.text.specs.Hex.{hex_char, hex_text}
use Rattle.text.specs.Grammar.{Parted}
use Rattle.text.proofs.HexLaws.{length_hex_text, hex_at}
use Rattle.questions.specs.Spelling.{Words, TwoWords}
use Rattle.questions.proofs.Counting.{Plain, NoneAt, same_count, words_count}

-- no capital is a slash (byte 47)
no_slash : (d : ℕ) → hex_char d ≡ 47 → ⊥
no_slash d e =
    ⊎_elim
    (λ (lt : d < 10). let is : hex_char d ≡ 48 + d = rw (lt-ltb d 10 lt) in omega arith)
    (λ (ge : 10 ≤ d). let is : hex_char d ≡ 55 + d = rw (le-ltb d 10 ge) in omega arith)
    (order d 10)

pub slash_parted : (rest : List ℕ) (ys : List Float) → Words rest (codes " /") ys → Parted rest
slash_parted rest ys w = subst Parted (sym w.whole) refl

pub slash_plain : (rest : List ℕ) (ys : List Float) → Words rest (codes " /") ys → Plain rest
slash_plain rest ys w n more e =
    let second = ap (λ l. get_or l 1 0) (sym w.whole ∙ e) in
    let long = length_hex_text 16 n in
    let first = get_or_append_left (hex_text 16 n) more 0 0 (omega arith) in
    let d = hex_at 16 n 0 (omega arith) in
    no_slash d.0 (d.2 ∙ sym first ∙ sym second)

-- two readings of two lines have as many numbers in each
pub two_words_count : (line name : List ℕ) (xs ys xs' ys' : List Float) →
    TwoWords line name xs ys → TwoWords line name xs' ys' →
    (length xs ≡ length xs') × (length ys ≡ length ys')
two_words_count line name xs ys xs' ys' a b =
    let plain = slash_plain b.rest ys' b.second in
    let none : NoneAt b.rest = λ n _ more _ e. plain n more e in
    let after = append_cancel_left name _ _ (sym a.whole ∙ b.whole) in
    let same =
    same_count a.bits b.bits a.rest b.rest a.sized
    (slash_parted a.rest ys a.second) (slash_plain a.rest ys a.second) none after in
    let xa = sym (ap length a.are) ∙ length-map a.bits _ in
    let xb = sym (ap length b.are) ∙ length-map b.bits _ in (
      omega (arith, same.0, xa, xb),
      words_count b.rest (codes " /") ys ys'
          (subst (λ l. Words l (codes " /") ys) same.1 a.second) b.second,
    )
