-- What the hexadecimal capitals of a number are, place by place.
use Rattle.std.proofs.Common.{◌≡◌, ℕ, zero, suc, ◌+◌, ◌-◌, ◌*◌, ◌/◌, ◌%◌, ◌^◌, ◌<◌, ◌≤◌, List, [], ◌∷◌, ◌++◌, length, get_or, drop, set, sym, refl, ap, ◌∙◌, ⊎_elim, append_assoc, mod-lt, add-one, arith, length-append, pow_mono, le-ltb, lt-ltb}
use lib.Arith.{digits_div, digits_mod}
use Rattle.std.proofs.lemmas.Nat.{pow-add}
use Rattle.std.proofs.lemmas.List.{get_or_append_left, get_or-append_right, drop-set}
use Rattle.std.proofs.str.Laws.{order}
use Rattle.text.specs.Hex.{hex_char, hex_text}

pub length_hex_text : (k n : ℕ) → length (hex_text k n) ≡ k
unfolding hex_text
length_hex_text zero n = refl
length_hex_text (suc k) n =
    length-append (hex_text k (n / 16)) (hex_char (n % 16) ∷ []) ∙ omega (arith, length_hex_text k (n / 16))

-- one digit more, at the end
pub hex_text_push : (k n d : ℕ) → d < 16 → hex_text (k + 1) (n * 16 + d) ≡ hex_text k n ++ (hex_char d ∷ [])
unfolding hex_text
hex_text_push k n d h = rw (add-one, digits_div n h, digits_mod n h)

hex_text_step : (k n : ℕ) → hex_text (k + 1) n ≡ hex_text k (n / 16) ++ (hex_char (n % 16) ∷ [])
unfolding hex_text
hex_text_step k n = rw add-one

-- each place has the capital of some digit
pub hex_at : (k n i : ℕ) → i < k → (d : ℕ) × (d < 16) × (hex_char d ≡ get_or (hex_text k n) i 0)
unfolding hex_text
hex_at zero n i h = absurd (omega arith)
hex_at (suc k) n i h =
    let high = hex_text k (n / 16) in
    let low = hex_char (n % 16) ∷ [] in
    let long = length_hex_text k (n / 16) in
    ⊎_elim
    (λ lt.
    let r = hex_at k (n / 16) i lt in
    (r.0, r.1, r.2 ∙ sym (get_or_append_left high low 0 i (omega arith))))
    (λ ge.
    let last : i - k ≡ 0 = omega arith in (
      n % 16,
      mod-lt n (omega arith),
      sym (get_or-append_right high low k i 0 long ge ∙ ap (λ j. get_or low j 0) last),
    ))
    (order i k)

-- the loop of `bits_text`: one capital more, from the back
pub back_step : (j rest v : ℕ) (text whole : List ℕ) → j < length text → v ≡ hex_char (rest % 16) →
    hex_text (j + 1) rest ++ drop (j + 1) text ≡ whole → hex_text j (rest / 16) ++ drop j (set text j v) ≡ whole
back_step j rest v text whole h e inv =
    let high = hex_text j (rest / 16) in
    ap (λ l. high ++ l) (drop-set text j v h)
    ∙ sym (append_assoc high (v ∷ []) (drop (j + 1) text))
    ∙ ap (λ w. (high ++ (w ∷ [])) ++ drop (j + 1) text) e
    ∙ ap (λ l. l ++ drop (j + 1) text) (sym (hex_text_step j rest))
    ∙ inv

pub back_all : (i rest : ℕ) (text whole : List ℕ) → i ≤ 0 →
    hex_text i rest ++ drop i text ≡ whole → text ≡ whole
unfolding hex_text
back_all zero rest text whole h inv = inv
back_all (suc i) rest text whole h inv = absurd (omega arith)

-- the loop of `parse_bits`: a number of i digits has room for one more
pub room : (n i : ℕ) → n < 2 ^ (4 * i) → i < 16 → n < 2 ^ 60
room n i h lt = let m : 4 * i ≤ 60 = omega arith in omega (arith, pow_mono m)

pub wider : (n i d : ℕ) → n < 2 ^ (4 * i) → d < 16 → n * 16 + d < 2 ^ (4 * (i + 1))
wider n i d h lt =
    let e : 4 * (i + 1) ≡ 4 * i + 4 = omega arith in
    rw e (omega (arith, pow-add 2 (4 * i) 4))

-- a capital is ASCII and no space
hex_char_bounds : (d : ℕ) → d < 16 → (hex_char d < 128) × (32 < hex_char d)
hex_char_bounds d h =
    ⊎_elim
    (λ lt. let e : hex_char d ≡ 48 + d = rw (lt-ltb d 10 lt) in (omega arith, omega arith))
    (λ ge. let e : hex_char d ≡ 55 + d = rw (le-ltb d 10 ge) in (omega arith, omega arith))
    (order d 10)

pub ascii_at : (k n i : ℕ) → i < k → (get_or (hex_text k n) i 0 < 128) × (32 < get_or (hex_text k n) i 0)
ascii_at k n i h =
    let r = hex_at k n i h in
    let s = hex_char_bounds r.0 r.1 in
    (omega (arith, s.0, r.2), omega (arith, s.1, r.2))
