use Rattle.std.proofs.Common.{◌∷◌, ◌++◌, sym, ap, drop, ◌∙◌}
use Rattle.text.specs.Lines.{front}
use Rattle.text.proofs.Numbers.{front_word, front_front}
use Rattle.questions.proofs.Names.{front_family, after_family, not_family, not_call}
use Rattle.questions.proofs.Unique.{layout, named}
use Rattle.questions.proofs.name.split_name.Goals as goal

pub returns-in_err-family : goal.returns-in_err-family
returns-in_err-family c =
    rw c.from_residual.ensures (λ q w.
    let name = (named c.args.line.bytes.now q w).1 in
    not_family q _ (front_family _ _ _ _ name) c.in_err-family.ensures)

pub returns-in_err-strip_prefix : goal.returns-in_err-strip_prefix
returns-in_err-strip_prefix c =
    rw c.from_residual-in_err-strip_prefix.ensures (λ q w.
    let name = (named c.args.line.bytes.now q w).1 in
    let read = c.in_ok-family.ensures in
    c.in_err-strip_prefix.ensures _ (after_family _ _ _ _ _ c.in_ok-family.rest.bytes.now name read.0 read.1))

pub returns-in_err-call : goal.returns-in_err-call
returns-in_err-call c =
    rw c.from_residual-in_err-call.ensures (λ q w.
    let own = named c.args.line.bytes.now q w in
    let name = own.1 in
    let read = c.in_ok-family.ensures in
    let after = after_family _ _ _ _ _ c.in_ok-family.rest.bytes.now name read.0 read.1 in
    let call = ap (drop 1) (sym c.in_ok-strip_prefix.ensures.0 ∙ after) in
    let word = ap front call ∙ front_word (layout q).call own.0 name.second name.parted in
    not_call q _ word c.in_err-call.ensures)

pub returns : goal.returns
returns c =
    let family = c.in_ok-family.ensures in
    let call = c.in_ok-call.ensures in
    record {
      first = ap front family.0 ∙ front_front c.args.line.bytes.now ∙ sym family.0;
      second = ap front call.0 ∙ front_front c.in_ok-strip_prefix.field-0.bytes.now ∙ sym call.0;
      parted = call.2;
      whole =
          family.1
          ∙ ap (λ l. c.in_ok-family.family.now ++ l) (c.in_ok-strip_prefix.ensures.0 ∙ ap (λ l. 32 ∷ l) call.1);
    }
