use Rattle.std.proofs.Common.{◌<◌, [], ◌∷◌, ◌++◌, length, get_or, sym, refl, ap, ◌∙◌, arith}
use Rattle.std.proofs.lemmas.List.{take_more}
use Rattle.text.specs.Hex.{hex_char, hex_text}
use Rattle.text.proofs.HexLaws.{length_hex_text, hex_text_push, hex_at, room, wider}
use Rattle.text.proofs.hex.parse_bits.Goals as goal

pub returns-then-s-ne16 : goal.returns-then-s-ne16
returns-then-s-ne16 c n lt e = c.if-s-ne16.true (sym (ap length e) ∙ length_hex_text 16 n)

pub loop-b-init : goal.loop-b-init
unfolding hex_text
loop-b-init c = (omega arith, refl)

pub returns-in_err-hex_digit : goal.returns-in_err-hex_digit
returns-in_err-hex_digit c =
    rw c.from_residual.ensures (λ n lt e.
    let i = c.loop-b.b-index in
    let r = hex_at 16 n c.loop-b.b-index (omega arith) in
    c.in_err-hex_digit.ensures r.0 r.1 (r.2 ∙ ap (λ l. get_or l i 0) e))

pub overflow_mul-n : goal.overflow_mul-n
overflow_mul-n c = omega (arith, room c.loop-b.n c.loop-b.b-index c.loop-b.invariant.0 (omega arith))

pub overflow_add-n : goal.overflow_add-n
overflow_add-n c =
    let small = room c.loop-b.n c.loop-b.b-index c.loop-b.invariant.0 (omega arith) in
    omega (arith, c.in_ok-hex_digit.ensures)

pub loop-b-preserved : goal.loop-b-preserved
loop-b-preserved c =
    let s = c.args.s.now in
    let i = c.loop-b.b-index in
    let n = c.loop-b.n in
    let digit = c.in_ok-hex_digit.ensures in
    let lt : c.from.result < 16 = omega (arith, digit.0, c.from.ensures) in
    let inside : c.loop-b.b-index < length c.args.s.now = omega arith in (
      wider _ _ _ c.loop-b.invariant.0 lt,
      hex_text_push i n _ lt
          ∙ ap (λ d. hex_text i n ++ (hex_char d ∷ [])) c.from.ensures
          ∙ ap (λ b. hex_text i n ++ (b ∷ [])) digit.1
          ∙ ap (λ l. l ++ (get_or s i 0 ∷ [])) c.loop-b.invariant.1
          ∙ sym (take_more s i 0 inside),
    )
