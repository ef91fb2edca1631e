-- What `{:016X}` writes of a number of 64 bits.
use Rattle.std.proofs.Common.{◌≡◌, ℕ, zero, suc, ◌+◌, ◌-◌, ◌/◌, ◌%◌, ◌^◌, ◌<◌, true, false, List, [], ◌∷◌, ◌++◌, length, replicate, sym, refl, ap, ◌∙◌, ⊎_elim, append_assoc, append-nil, add-one, arith, eq-eqb, ne_eqb}
use Rattle.std.specs.Fmt.{padded_integral, format_spec, digits, digits_onto, digit_glyph, char_count}
use Rattle.std.proofs.lemmas.Bool.{cases_eq}
use Rattle.std.proofs.lemmas.List.{replicate_more}
use Rattle.text.specs.Hex.{hex_char, hex_text}
use Rattle.text.proofs.Digits.{room}

hex_zeros : (j : ℕ) → hex_text j 0 ≡ replicate j 48
unfolding hex_text
hex_zeros zero = refl
hex_zeros (suc j) =
    let more = replicate_more j 48 in
    let same = add-one j in
    ap (λ l. l ++ (48 ∷ [])) (hex_zeros j) ∙ more ∙ ap (λ k. replicate k 48) same

-- with zeros in front the digits are the j capitals, before what follows
abbrev Pads : ℕ → ℕ → List ℕ → List ℕ → Type 0
Pads j n acc ds = (z : ℕ) × (z + length ds ≡ j + length acc) × (hex_text j n ++ acc ≡ replicate z 48 ++ ds)

split_last : (j n : ℕ) (acc : List ℕ) → hex_text (suc j) n ++ acc ≡ hex_text j (n / 16) ++ (hex_char (n % 16) ∷ acc)
unfolding hex_text
split_last j n acc = append_assoc (hex_text j (n / 16)) (hex_char (n % 16) ∷ []) acc

pads_last : (j n : ℕ) (acc : List ℕ) → n / 16 ≡ 0 → Pads (suc j) n acc (digit_glyph true (n % 16) ∷ acc)
pads_last j n acc e = (
  j,
  omega arith,
  split_last j n acc ∙ ap (λ m. hex_text j m ++ (hex_char (n % 16) ∷ acc)) e
      ∙ ap (λ l. l ++ (hex_char (n % 16) ∷ acc)) (hex_zeros j),
)

pads : (j k n : ℕ) (acc : List ℕ) → n < room (suc j) → j < k → Pads (suc j) n acc (digits_onto k 16 true n acc)
pads j zero n acc lt fits = absurd (omega arith)
pads zero (suc k) n acc lt fits =
    let e : n / 16 ≡ 0 = omega arith in
    rw (eq-eqb (n / 16) 0 e) (pads_last 0 n acc e)
pads (suc j) (suc k) n acc lt fits =
    ⊎_elim
    (λ e. rw (eq-eqb (n / 16) 0 e) (pads_last (suc j) n acc e))
    (λ ne.
    let small : n / 16 < room (suc j) = omega arith in
    let fewer : j < k = omega arith in
    let high = pads j k (n / 16) (digit_glyph true (n % 16) ∷ acc) small fewer in
    let size : high.0 + length (digits_onto k 16 true (n / 16) (digit_glyph true (n % 16) ∷ acc)) ≡ suc (suc j) + length acc = omega (arith, high.1) in
    rw (ne_eqb (n / 16) 0 ne)
    (high.0, size, split_last (suc j) n acc ∙ high.2))
    (cases_eq (n / 16) 0)

pub padded_capitals : (n : ℕ) → n < 2 ^ 64 →
    padded_integral (format_spec 32 0 4 16 (2 ^ 64 - 1)) false [] (digits 16 true n) ≡ hex_text 16 n
unfolding padded_integral digits char_count
padded_capitals n lt =
    let p = pads 15 64 n [] lt (omega arith) in
    let ds = digits 16 true n in
    let room : 16 - length (digits 16 true n) - 0 - 0 ≡ p.0 = omega (arith, p.1) in
    ap (λ k. replicate k 48 ++ (ds ++ [])) room
    ∙ ap (λ l. replicate p.0 48 ++ l) (append-nil ds)
    ∙ sym p.2
    ∙ append-nil (hex_text 16 n)
