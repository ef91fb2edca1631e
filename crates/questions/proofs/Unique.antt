-- A line spells one question at most.
use Rattle.std.proofs.Common.{◌≡◌, ℕ, suc, cond, ◌⊎◌, List, [], ◌∷◌, ◌++◌, length, get_or, drop, codes, sym, refl, ap, ◌∙◌, subst, inl, inr, ⊎_elim, append_assoc, append-nil, arith, Option, None, Some}
use lib.Ieee.{Float, nan}
use Rattle.std.proofs.lemmas.List.{append_cancel_left}
use Rattle.std.specs.Str.{bytes_eq}
use Rattle.text.specs.Grammar.{Parted}
use Rattle.text.specs.Lines.{front}
use Rattle.text.proofs.Numbers.{front_word}
use Rattle.points.specs.declared.point.Point.{Point}
use Rattle.questions.specs.Asked.{Asked, Sqrt, Hypot, Sin, Cos, Asin, Atan2}
use Rattle.questions.specs.Asked.{Distance, Ratio, Along, Length, Frechet}
use Rattle.questions.specs.Spelling.{numbers_text, AllSized, floats, coordinates}
use Rattle.questions.specs.Spelling.{Words, Spells}
use Rattle.questions.specs.Reading.{called, NameFirst, SpellsAt}
use Rattle.text.specs.declared.line.Line.{Line}
use Rattle.std.specs.Fmt.{digits}
use Rattle.points.specs.declared.fault.Cause.TheVariants.{Malformed}
use Rattle.questions.specs.declared.ask.Answer.TheVariants as answers
use Rattle.questions.specs.Answers.{answer_to, printed, malformed_text, Answered}
use Rattle.questions.proofs.Counting.{Plain, plain_nil, parted_numbers}
use Rattle.questions.proofs.Digits.{same_numbers}
use Rattle.questions.proofs.Parting.{slash_parted, slash_plain}

-- the two words of a name, the numbers after it, and those after a slash, if any
pub record Layout : Type 0 where
  pub family : List ℕ
  pub call : List ℕ
  pub first : List Float
  pub second : List Float

abbrev pub layout : Asked → Layout
layout (Sqrt x) = record { family = codes "host"; call = codes "sqrt"; first = x ∷ []; second = [] }
layout (Hypot x y) = record { family = codes "host"; call = codes "hypot"; first = x ∷ (y ∷ []); second = [] }
layout (Sin x) = record { family = codes "host"; call = codes "sin"; first = x ∷ []; second = [] }
layout (Cos x) = record { family = codes "host"; call = codes "cos"; first = x ∷ []; second = [] }
layout (Asin x) = record { family = codes "host"; call = codes "asin"; first = x ∷ []; second = [] }
layout (Atan2 y x) = record { family = codes "host"; call = codes "atan2"; first = y ∷ (x ∷ []); second = [] }
layout (Distance p q) =
    record { family = codes "euclidean"; call = codes "distance"; first = coordinates (p ∷ (q ∷ [])); second = [] }
layout (Ratio t p q) =
    record { family = codes "euclidean"; call = codes "ratio"; first = t ∷ coordinates (p ∷ (q ∷ [])); second = [] }
layout (Along d p q) =
    record { family = codes "euclidean"; call = codes "along"; first = d ∷ coordinates (p ∷ (q ∷ [])); second = [] }
layout (Length ps) =
    record { family = codes "euclidean"; call = codes "length"; first = coordinates ps; second = [] }
layout (Frechet ps qs) =
    record { family = codes "euclidean"; call = codes "frechet"; first = coordinates ps; second = coordinates qs }

-- nothing, or a slash and numbers
abbrev Tail : List ℕ → List Float → Type 0
Tail rest ys = ((rest ≡ []) × (ys ≡ [])) ⊎ Words rest (codes " /") ys

record Shape (line : List ℕ) (l : Layout) : Type 0 where
  bits : List ℕ
  rest : List ℕ
  sized : AllSized bits
  are : floats bits ≡ l.first
  whole : line ≡ called l.family l.call (numbers_text bits ++ rest)
  tail : Tail rest l.second

one_run : (line family call : List ℕ) (xs : List Float) → Words line (family ++ (32 ∷ call)) xs →
    Shape line (record { family = family; call = call; first = xs; second = [] })
one_run line family call xs w = record {
  bits = w.bits;
  rest = [];
  sized = w.sized;
  are = w.are;
  whole =
      w.whole ∙ append_assoc family (32 ∷ call) (numbers_text w.bits)
      ∙ ap (called family call) (sym (append-nil (numbers_text w.bits)));
  tail = inl (refl, refl);
}

shape : (line : List ℕ) (q : Asked) → Spells line q → Shape line (layout q)
shape line (Sqrt x) w = one_run line (codes "host") (codes "sqrt") _ w
shape line (Hypot x y) w = one_run line (codes "host") (codes "hypot") _ w
shape line (Sin x) w = one_run line (codes "host") (codes "sin") _ w
shape line (Cos x) w = one_run line (codes "host") (codes "cos") _ w
shape line (Asin x) w = one_run line (codes "host") (codes "asin") _ w
shape line (Atan2 y x) w = one_run line (codes "host") (codes "atan2") _ w
shape line (Distance p q) w = one_run line (codes "euclidean") (codes "distance") _ w
shape line (Ratio t p q) w = one_run line (codes "euclidean") (codes "ratio") _ w
shape line (Along d p q) w = one_run line (codes "euclidean") (codes "along") _ w
shape line (Length ps) w = one_run line (codes "euclidean") (codes "length") _ w
shape line (Frechet ps qs) w = record {
  bits = w.bits;
  rest = w.rest;
  sized = w.sized;
  are = w.are;
  whole = w.whole;
  tail = inr w.second;
}

-- each part of a name is one word
one_word : (q : Asked) →
    (front (layout q).family ≡ (layout q).family) × (front (layout q).call ≡ (layout q).call)
unfolding front
one_word (Sqrt x) = (refl, refl)
one_word _ = (refl, refl)

tail_parted : (rest : List ℕ) (ys : List Float) → Tail rest ys → Parted rest
tail_parted rest ys t = ⊎_elim (λ a. subst Parted (sym a.0) tt) (λ w. slash_parted rest ys w) t

tail_plain : (rest : List ℕ) (ys : List Float) → Tail rest ys → Plain rest
tail_plain rest ys t = ⊎_elim (λ a. subst Plain (sym a.0) plain_nil) (λ w. slash_plain rest ys w) t

-- where a line spells a question, its name comes first
pub named : (line : List ℕ) (q : Asked) → Spells line q →
    (rest : List ℕ) × NameFirst line (layout q).family (layout q).call rest
named line q w =
    let s = shape line q w in
    let words = one_word q in (
      numbers_text s.bits ++ s.rest,
      record {
        first = words.0;
        second = words.1;
        parted = parted_numbers s.bits s.rest (tail_parted s.rest (layout q).second s.tail);
        whole = s.whole;
      },
    )

-- a line begins with one name only
pub same_name : (line f c r f' c' r' : List ℕ) → NameFirst line f c r → NameFirst line f' c' r' →
    (f ≡ f') × (c ≡ c') × (r ≡ r')
same_name line f c r f' c' r' a b =
    let whole = sym a.whole ∙ b.whole in
    let family =
    sym (front_word f (32 ∷ (c ++ r)) a.first refl)
    ∙ ap front whole
    ∙ front_word f' (32 ∷ (c' ++ r')) b.first refl in
    let left = ap (λ l. l ++ (32 ∷ (c ++ r))) (sym family) ∙ whole in
    let after = ap (drop 1) (append_cancel_left f' _ _ left) in
    let call = sym (front_word c r a.second a.parted) ∙ ap front after ∙ front_word c' r' b.second b.parted in
    let ends = append_cancel_left c' _ _ (ap (λ l. l ++ r) (sym call) ∙ after) in
    (family, call, ends)

pub same_words : (line name : List ℕ) (xs ys : List Float) → Words line name xs → Words line name ys → xs ≡ ys
same_words line name xs ys a b =
    let text = append_cancel_left name _ _ (sym a.whole ∙ b.whole) in
    let ends = append-nil (numbers_text a.bits) ∙ text ∙ sym (append-nil (numbers_text b.bits)) in
    let same = same_numbers a.bits b.bits [] [] a.sized b.sized plain_nil plain_nil ends in
    sym a.are ∙ ap floats same.0 ∙ b.are

no_tail : (rest : List ℕ) (ys : List Float) → rest ≡ [] → Words rest (codes " /") ys → ⊥
no_tail rest ys e w = let long = ap length (sym e ∙ w.whole) in omega arith

same_tail : (rest : List ℕ) (xs ys : List Float) → Tail rest xs → Tail rest ys → xs ≡ ys
same_tail rest xs ys (inl a) (inl b) = a.1 ∙ sym b.1
same_tail rest xs ys (inl a) (inr w) = absurd (no_tail rest ys a.0 w)
same_tail rest xs ys (inr v) (inl b) = absurd (no_tail rest xs b.0 v)
same_tail rest xs ys (inr v) (inr w) = same_words rest (codes " /") xs ys v w

same_shape : (line : List ℕ) (a b : Layout) (s : Shape line a) (t : Shape line b) →
    numbers_text s.bits ++ s.rest ≡ numbers_text t.bits ++ t.rest → (a.first ≡ b.first) × (a.second ≡ b.second)
same_shape line a b s t e =
    let same =
    same_numbers s.bits t.bits s.rest t.rest s.sized t.sized
    (tail_plain s.rest a.second s.tail) (tail_plain t.rest b.second t.tail) e in (
      sym s.are ∙ ap floats same.0 ∙ t.are,
      same_tail t.rest a.second b.second
          (subst (λ l. Tail l a.second) same.1 s.tail) t.tail,
    )

-- a question again, from its name and its numbers
abbrev pub points : List Float → List Point
points [] = []
points (x ∷ []) = []
points (x ∷ (y ∷ xs)) = record { x = x; y = y } ∷ points xs

points_back : (ps : List Point) → points (coordinates ps) ≡ ps
points_back [] = refl
points_back (p ∷ ps) = ap (λ l. p ∷ l) (points_back ps)

abbrev item : ℕ → List Float → Float
item i xs = get_or xs i nan

abbrev place : ℕ → List Float → Point
place i xs = record { x = item i xs; y = item (suc i) xs }

abbrev build : List ℕ → List ℕ → List Float → List Float → Asked
build f c xs ys =
    cond (bytes_eq f (codes "host"))
    (cond (bytes_eq c (codes "sqrt")) (Sqrt (item 0 xs))
    (cond (bytes_eq c (codes "hypot")) (Hypot (item 0 xs) (item 1 xs))
    (cond (bytes_eq c (codes "sin")) (Sin (item 0 xs))
    (cond (bytes_eq c (codes "cos")) (Cos (item 0 xs))
    (cond (bytes_eq c (codes "asin")) (Asin (item 0 xs))
    (Atan2 (item 0 xs) (item 1 xs)))))))
    (cond (bytes_eq c (codes "distance")) (Distance (place 0 xs) (place 2 xs))
    (cond (bytes_eq c (codes "ratio")) (Ratio (item 0 xs) (place 1 xs) (place 3 xs))
    (cond (bytes_eq c (codes "along")) (Along (item 0 xs) (place 1 xs) (place 3 xs))
    (cond (bytes_eq c (codes "length")) (Length (points xs))
    (Frechet (points xs) (points ys))))))

built : (q : Asked) → build (layout q).family (layout q).call (layout q).first (layout q).second ≡ q
built (Length ps) = ap Length (points_back ps)
built (Frechet ps qs) =
    ap (λ l. Frechet l (points (coordinates qs))) (points_back ps) ∙ ap (Frechet ps) (points_back qs)
built _ = refl

pub unique : (line : List ℕ) (q q' : Asked) → Spells line q → Spells line q' → q ≡ q'
unfolding named
unique line q q' w w' =
    let s = shape line q w in
    let t = shape line q' w' in
    let a = named line q w in
    let b = named line q' w' in
    let name =
    same_name line (layout q).family (layout q).call a.0 (layout q').family (layout q').call b.0 a.1 b.1 in
    let same = same_shape line (layout q) (layout q') s t name.2 in
    sym (built q)
    ∙ ap (λ f. build f (layout q).call (layout q).first (layout q).second) name.0
    ∙ ap (λ c. build (layout q').family c (layout q).first (layout q).second) name.1
    ∙ ap (λ xs. build (layout q').family (layout q').call xs (layout q).second) same.0
    ∙ ap (λ ys. build (layout q').family (layout q').call (layout q').first ys) same.1
    ∙ built q'

unique_at : (line : Option Line) (q q' : Asked) → SpellsAt line q → SpellsAt line q' → q ≡ q'
unique_at None q q' w w' = absurd w
unique_at (Some l) q q' w w' = unique l.bytes.now q q' w w'

-- what is printed for the question that was read, and where none was
pub answers_it : (line : Option Line) (q : Asked) (out : List ℕ) →
    SpellsAt line q → out ≡ printed (answer_to q) → Answered line out
answers_it line q out read e = record {
  asked = λ q' w. e ∙ ap (λ a. printed (answer_to a)) (unique_at line q q' read w);
  malformed = λ none. absurd (none q read);
}

pub refuses_it : (line : Option Line) (out : List ℕ) → ((q : Asked) → SpellsAt line q → ⊥) → out ≡ malformed_text → Answered line out
refuses_it line out none e = record {
  asked = λ q w. absurd (none q w);
  malformed = λ _. e;
}

-- a line that spells no question is refused as malformed
pub malformed_printed : printed (answers.Refused Malformed) ≡ malformed_text
unfolding digits
malformed_printed = refl
