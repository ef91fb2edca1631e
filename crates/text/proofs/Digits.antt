-- Numbers of 64 bits are told apart by their hexadecimal capitals.
use Rattle.std.proofs.Common.{◌≡◌, ℕ, zero, suc, ◌+◌, ◌*◌, ◌/◌, ◌%◌, ◌^◌, ◌<◌, ◌≤◌, ◌⊎◌, List, [], ◌∷◌, ◌++◌, get_or, take, drop, sym, ap, ◌∙◌, inl, inr, ⊎_elim, arith, le-ltb, lt-ltb}
use Rattle.std.proofs.lemmas.List.{take_at, drop_at}
use Rattle.std.proofs.str.Laws.{order}
use Rattle.text.specs.Hex.{hex_char, hex_text}
use Rattle.text.specs.Grammar.{spaced}
use Rattle.text.proofs.HexLaws.{length_hex_text}

-- a capital is 48 more than its digit, or 55 more from 10 on
capital : (d : ℕ) → ((hex_char d ≡ 48 + d) × (d < 10)) ⊎ ((hex_char d ≡ 55 + d) × (10 ≤ d))
capital d =
    ⊎_elim
    (λ (lt : d < 10). inl (rw (lt-ltb d 10 lt), lt))
    (λ (ge : 10 ≤ d). inr (rw (le-ltb d 10 ge), ge))
    (order d 10)

same_capital : (d e : ℕ) → hex_char d ≡ hex_char e → d ≡ e
same_capital d e h =
    ⊎_elim
    (λ a.
    ⊎_elim (λ b. omega (arith, a.0, a.1, b.0, b.1)) (λ b. omega (arith, a.0, a.1, b.0, b.1))
    (capital e))
    (λ a.
    ⊎_elim (λ b. omega (arith, a.0, a.1, b.0, b.1)) (λ b. omega (arith, a.0, a.1, b.0, b.1))
    (capital e))
    (capital d)

-- how many numbers k capitals spell
abbrev pub room : ℕ → ℕ
room zero = 1
room (suc k) = 16 * room k

same_number : (k m n : ℕ) → m < room k → n < room k → hex_text k m ≡ hex_text k n → m ≡ n
unfolding hex_text
same_number zero m n hm hn e = omega arith
same_number (suc k) m n hm hn e =
    let lm = length_hex_text k (m / 16) in
    let ln = length_hex_text k (n / 16) in
    let low-m = hex_char (m % 16) ∷ [] in
    let low-n = hex_char (n % 16) ∷ [] in
    let high =
    sym (take_at (hex_text k (m / 16)) low-m k lm)
    ∙ ap (take k) e
    ∙ take_at (hex_text k (n / 16)) low-n k ln in
    let low =
    sym (drop_at (hex_text k (m / 16)) low-m k lm)
    ∙ ap (drop k) e
    ∙ drop_at (hex_text k (n / 16)) low-n k ln in
    let above = same_number k (m / 16) (n / 16) (omega arith) (omega arith) high in
    let below = same_capital (m % 16) (n % 16) (ap (λ l. get_or l 0 0) low) in
    omega (arith, above, below)

-- the number that a text begins with
pub same_first : (m n : ℕ) (xs ys : List ℕ) → m < 2 ^ 64 → n < 2 ^ 64 →
    spaced m ++ xs ≡ spaced n ++ ys → m ≡ n
same_first m n xs ys hm hn e =
    let at-m = take_at (spaced m) xs 17 (omega (arith, length_hex_text 16 m)) in
    let at_n = take_at (spaced n) ys 17 (omega (arith, length_hex_text 16 n)) in
    same_number 16 m n hm hn (ap (drop 1) (sym at-m ∙ ap (take 17) e ∙ at_n))

-- and what follows it
pub same_rest : (m n : ℕ) (xs ys : List ℕ) → spaced m ++ xs ≡ spaced n ++ ys → xs ≡ ys
same_rest m n xs ys e =
    sym (drop_at (spaced m) xs 17 (omega (arith, length_hex_text 16 m)))
    ∙ ap (drop 17) e
    ∙ drop_at (spaced n) ys 17 (omega (arith, length_hex_text 16 n))
