-- The first word of a line that spells a command.
use Rattle.std.proofs.Common.{◌≡◌, ℕ, List, length, sym, refl, ap, ◌∙◌, arith}
use Rattle.text.specs.Lines.{front}
use Rattle.text.specs.Grammar.{WordFirst, word_bytes, Unspelled, spelled}
use Rattle.text.specs.declared.words.Word.{Word}
use Rattle.text.specs.declared.command.Command.{Command}
use Rattle.text.specs.declared.command.Command.TheVariants.{Reference, Append, Compare}

one_letter : (q : Command) → length (front (spelled q)) ≡ 1
unfolding front
one_letter (Reference x y) = refl
one_letter (Append x y) = refl
one_letter Compare = refl

pub spelled_letter : (line : List ℕ) (q : Command) → spelled q ≡ line → length (front line) ≡ 1
spelled_letter line q e = ap (λ l. length (front l)) (sym e) ∙ one_letter q

-- a line that begins with a word of 16 bytes spells no command
pub number_unspelled : (line : List ℕ) (place : ℕ) (w : Word) (rest : List ℕ) →
    WordFirst line place w rest → length (word_bytes w) ≡ 16 → Unspelled line
number_unspelled line place w rest first sized q _ e =
    omega (arith, spelled_letter line q e, ap length first.first, sized)
