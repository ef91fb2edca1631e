use Rattle.std.proofs.Common.{length, sym, ap, ◌∙◌, subst, arith}
use Rattle.text.specs.Grammar.{WordFirst}
use Rattle.text.proofs.HexLaws.{length_hex_text}
use Rattle.text.proofs.Numbers.{number_word}
use Rattle.text.proofs.line.Line.split_number.Goals as goal

pub returns-in_err-digits : goal.returns-in_err-digits
returns-in_err-digits c =
    rw c.from_residual-in_err-digits.ensures (λ n lt rest p e.
    let word = number_word c.in_ok-strip_prefix.field-0.bytes.now n rest p (sym c.in_ok-strip_prefix.ensures.0 ∙ e) in
    c.in_err-digits.ensures.no_number (ap length word ∙ length_hex_text 16 n))

pub returns-in_err-parse_bits-in-Number-default : goal.returns-in_err-parse_bits-in-Number-default
returns-in_err-parse_bits-in-Number-default c =
    rw c.from_residual-in_err-parse_bits-in-Number-default.ensures (λ n lt rest p e.
    let after = c.in_ok-strip_prefix.field-0 in
    let read = c.in_ok-digits.ensures.0 in
    let word = subst (λ w. WordFirst after.bytes.now after.place w c.in_ok-digits.field-0.1.bytes.now) c.in-Number-default.is-0 read in
    let is = number_word after.bytes.now n rest p (sym c.in_ok-strip_prefix.ensures.0 ∙ e) in
    c.in_err-parse_bits-in-Number-default.ensures n lt (sym (word.first ∙ is)))

pub returns-in-Letter-default : goal.returns-in-Letter-default
returns-in-Letter-default c n lt rest p e =
    let after = c.in_ok-strip_prefix.field-0 in
    let read = c.in_ok-digits.ensures.0 in
    let word = subst (λ w. WordFirst after.bytes.now after.place w c.in_ok-digits.field-0.1.bytes.now) c.in-Letter-default.is-0 read in
    let is = number_word after.bytes.now n rest p (sym c.in_ok-strip_prefix.ensures.0 ∙ e) in
    omega (arith, ap length (word.first ∙ is), word.sized, length_hex_text 16 n)
