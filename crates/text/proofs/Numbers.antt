-- The first word of a line, and a number at its front.
use Rattle.std.proofs.Common.{◌≡◌, ℕ, suc, ◌<◌, List, [], ◌∷◌, ◌++◌, length, get_or, drop, refl, ap, ◌∙◌, ⊎_elim, arith, eq-eqb, ne_eqb}
use Rattle.std.proofs.lemmas.Bool.{cases_eq}
use Rattle.text.specs.Hex.{hex_text}
use Rattle.text.specs.Lines.{front}
use Rattle.text.specs.Grammar.{spaced, Parted}
use Rattle.text.proofs.HexLaws.{length_hex_text, ascii_at}

-- a word without a space is what stands before the first space
front_append : (xs rest : List ℕ) → ((i : ℕ) → i < length xs → get_or xs i 0 ≡ 32 → ⊥) → Parted rest →
    front (xs ++ rest) ≡ xs
unfolding front
front_append [] [] h p = refl
front_append [] (b ∷ bs) h p = rw (eq-eqb b 32 p)
front_append (x ∷ xs) rest h p =
    rw (ne_eqb x 32 (h 0 (omega arith)))
    (ap (λ l. x ∷ l) (front_append xs rest (λ i lt. h (suc i) (omega arith)) p))

-- a word is what stands before the first space
pub front_word : (word rest : List ℕ) → front word ≡ word → Parted rest → front (word ++ rest) ≡ word
unfolding front
front_word [] [] h p = refl
front_word [] (b ∷ bs) h p = rw (eq-eqb b 32 p)
front_word (x ∷ xs) rest h p =
    ⊎_elim
    (λ e. let none = rw (eq-eqb x 32 e) at h in cc)
    (λ ne.
    let more = rw (ne_eqb x 32 ne) at h in
    rw (ne_eqb x 32 ne) (ap (λ l. x ∷ l) (front_word xs rest (ap (drop 1) more) p)))
    (cases_eq x 32)

pub front_front : (l : List ℕ) → front (front l) ≡ front l
unfolding front
front_front [] = refl
front_front (b ∷ bs) =
    ⊎_elim
    (λ e. rw (eq-eqb b 32 e) refl)
    (λ ne. rw (ne_eqb b 32 ne, ne_eqb b 32 ne) (ap (λ l. b ∷ l) (front_front bs)))
    (cases_eq b 32)

-- the word of a number ends where a space or nothing follows its capitals
pub front_hex : (n : ℕ) (rest : List ℕ) → Parted rest → front (hex_text 16 n ++ rest) ≡ hex_text 16 n
front_hex n rest p =
    let long = length_hex_text 16 n in
    front_append (hex_text 16 n) rest (λ i lt e. omega (arith, (ascii_at 16 n i (omega arith)).1)) p

-- a line is its first word and what follows it
abbrev pub Split : List ℕ → Type 0
Split l = (l ≡ front l ++ drop (length (front l)) l) × Parted (drop (length (front l)) l)

split_more : (b : ℕ) (bs : List ℕ) → (b ≡ 32 → ⊥) → Split bs → Split (b ∷ bs)
unfolding front
split_more b bs ne h = rw (ne_eqb b 32 ne) (ap (λ l. b ∷ l) h.0, h.1)

split_space : (b : ℕ) (bs : List ℕ) → b ≡ 32 → Split (b ∷ bs)
unfolding front
split_space b bs e = rw (eq-eqb b 32 e) (refl, e)

pub front_split : (l : List ℕ) → Split l
unfolding front
front_split [] = (refl, tt)
front_split (b ∷ bs) =
    ⊎_elim (split_space b bs) (λ ne. split_more b bs ne (front_split bs)) (cases_eq b 32)

-- after the space, a number that stands there is the first word
pub number_word : (after : List ℕ) (n : ℕ) (rest : List ℕ) → Parted rest →
    32 ∷ after ≡ spaced n ++ rest → front after ≡ hex_text 16 n
number_word after n rest p e = ap front (ap (drop 1) e) ∙ front_hex n rest p
