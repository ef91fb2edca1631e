-- The two words of a name, one after the other.
use Rattle.std.proofs.Common.{◌≡◌, ℕ, List, ◌∷◌, ◌++◌, ◌<◌, ◌≤◌, codes, length, sym, refl, ap, ◌∙◌, subst, rules, arith}
use Rattle.std.proofs.lemmas.List.{append_cancel_left}
use Rattle.std.specs.Str.{IsUtf8}
use Rattle.std.proofs.lemmas.Str.{IsUtf8-from_ascii}
use Rattle.std.proofs.lemmas.Str.Ascii.{IsAscii-from_all}
use Rattle.std.specs.List.{All}
use Rattle.text.specs.Lines.{front}
use Rattle.text.proofs.Numbers.{front_word}
use Rattle.questions.specs.Asked.{Asked, Sqrt, Hypot, Sin, Cos, Asin, Atan2}
use Rattle.questions.specs.Asked.{Distance, Ratio, Along, Length, Frechet}
use Rattle.questions.specs.Reading.{NameFirst}
use Rattle.questions.proofs.Unique.{layout}

pub front_family : (line f c r : List ℕ) → NameFirst line f c r → front line ≡ f
front_family line f c r name = ap front name.whole ∙ front_word f (32 ∷ (c ++ r)) name.first refl

-- what is left after the first word
pub after_family : (line f c r w rest : List ℕ) → NameFirst line f c r → w ≡ front line → line ≡ w ++ rest →
    rest ≡ 32 ∷ (c ++ r)
after_family line f c r w rest name is whole =
    let same = is ∙ front_family line f c r name in
    append_cancel_left f _ _ (ap (λ l. l ++ rest) (sym same) ∙ sym whole ∙ name.whole)

text : (bs : List ℕ) → All (λ b. b < 128) bs → IsUtf8 bs
text bs small = IsUtf8-from_ascii bs (IsAscii-from_all bs small)

utf8_words : (q : Asked) → IsUtf8 (layout q).family × IsUtf8 (layout q).call
utf8_words (Sqrt x) = (text (codes "host") (search rules), text (codes "sqrt") (search rules))
utf8_words (Hypot x y) = (text (codes "host") (search rules), text (codes "hypot") (search rules))
utf8_words (Sin x) = (text (codes "host") (search rules), text (codes "sin") (search rules))
utf8_words (Cos x) = (text (codes "host") (search rules), text (codes "cos") (search rules))
utf8_words (Asin x) = (text (codes "host") (search rules), text (codes "asin") (search rules))
utf8_words (Atan2 y x) = (text (codes "host") (search rules), text (codes "atan2") (search rules))
utf8_words (Distance p q) = (text (codes "euclidean") (search rules), text (codes "distance") (search rules))
utf8_words (Ratio t p q) = (text (codes "euclidean") (search rules), text (codes "ratio") (search rules))
utf8_words (Along d p q) = (text (codes "euclidean") (search rules), text (codes "along") (search rules))
utf8_words (Length ps) = (text (codes "euclidean") (search rules), text (codes "length") (search rules))
utf8_words (Frechet ps qs) = (text (codes "euclidean") (search rules), text (codes "frechet") (search rules))

pub utf8_family : (q : Asked) → IsUtf8 (layout q).family
utf8_family q = (utf8_words q).0

pub utf8_call : (q : Asked) → IsUtf8 (layout q).call
utf8_call q = (utf8_words q).1

-- no word of a name has more than nine bytes
short_words : (q : Asked) → (length (layout q).family ≤ 9) × (length (layout q).call ≤ 9)
short_words (Sqrt x) = (search rules, search rules)
short_words (Hypot x y) = (search rules, search rules)
short_words (Sin x) = (search rules, search rules)
short_words (Cos x) = (search rules, search rules)
short_words (Asin x) = (search rules, search rules)
short_words (Atan2 y x) = (search rules, search rules)
short_words (Distance p q) = (search rules, search rules)
short_words (Ratio t p q) = (search rules, search rules)
short_words (Along d p q) = (search rules, search rules)
short_words (Length ps) = (search rules, search rules)
short_words (Frechet ps qs) = (search rules, search rules)

-- so a word that is passed over is none of a name
pub not_family : (q : Asked) (word : List ℕ) → word ≡ (layout q).family → (IsUtf8 word → 9 < length word) → ⊥
not_family q word same long =
    let short = (short_words q).0 in
    let over = long (subst IsUtf8 (sym same) (utf8_family q)) in
    let equal = ap length same in
    omega (arith, short, over, equal)

pub not_call : (q : Asked) (word : List ℕ) → word ≡ (layout q).call → (IsUtf8 word → 9 < length word) → ⊥
not_call q word same long =
    let short = (short_words q).1 in
    let over = long (subst IsUtf8 (sym same) (utf8_call q)) in
    let equal = ap length same in
    omega (arith, short, over, equal)
