-- What a call with its numbers asks is what its line spells.
use Rattle.std.proofs.Common.{◌≡◌, ◌≢◌, ℕ, List, [], ◌∷◌, ◌++◌, get_or, codes, sym, refl, ap, ◌∙◌, append_assoc, arith, Some, None, Option, MatchOption}
use lib.Ieee.{Float}
use Rattle.points.specs.declared.point.Point.{Point}
use Rattle.std.proofs.lemmas.List.{append_cancel_left}
use Rattle.questions.specs.Asked.{Asked, Sqrt, Hypot, Sin, Cos, Asin, Atan2}
use Rattle.questions.specs.Asked.{Distance, Ratio, Along, Length, Frechet}
use Rattle.questions.specs.Spelling.{numbers_text, coordinates, Words, TwoWords, Spells, Unspelled}
use Rattle.questions.specs.Reading.{called, NameFirst, Reads, HostCall, PlaneCall, NoCall, TwoLines}
use Rattle.questions.proofs.Unique.{layout, named, same_name, same_words}

pub MatchOption-weaker : {A : Type 0} (o : Option A) {P P' : Type 0} {Q Q' : A → Type 0} →
    MatchOption o P Q → (P → P') → ((x : A) → Q x → Q' x) → MatchOption o P' Q'
MatchOption-weaker (Some x) h f g = g x h
MatchOption-weaker None h f g = f h

-- what is read of one kind is read of any kind that means the same
pub reads_as : {X Y : Type 0} (held : X → Y) (P Q : Y → Type 0) (o : Option X) →
    ((y : Y) → P y → Q y) → ((y : Y) → Q y → P y) → Reads held P o → Reads held Q o
reads_as held P Q o to from read =
    MatchOption-weaker o read (λ none y q. none y (from y q)) (λ x p. to (held x) p)

-- two words that begin with different letters
apart : {A : Type 0} (m n : ℕ) {xs ys : List ℕ} → m ≢ n → m ∷ xs ≡ n ∷ ys → A
apart m n ne e = absurd (ne (ap (λ l. get_or l 0 0) e))

-- numbers after a name are those of what is left after it
words_on : (line f c r : List ℕ) (xs : List Float) (c' : List ℕ) (ys : List Float) → line ≡ called f c r →
    Words r [] xs → c ≡ c' → xs ≡ ys → Words line (f ++ (32 ∷ c')) ys
words_on line f c r xs c' ys e w call numbers = record {
  bits = w.bits;
  sized = w.sized;
  are = w.are ∙ numbers;
  whole =
      e ∙ sym (append_assoc f (32 ∷ c) r) ∙ ap (λ l. (f ++ (32 ∷ c)) ++ l) w.whole
      ∙ ap (λ k. (f ++ (32 ∷ k)) ++ numbers_text w.bits) call;
}

module _ (line f c r : List ℕ) (name : NameFirst line f c r) where
  -- the name of a question that the line spells
  pub own_name : (q : Asked) → Spells line q →
      ((layout q).family ≡ f) × ((layout q).call ≡ c)
  own_name q w =
      let own = named line q w in
      let same = same_name line (layout q).family (layout q).call own.0 f c r own.1 name in
      (same.0, same.1)

  -- and the numbers after it
  after : (q : Asked) (xs : List Float) → Spells line q →
      Words line ((layout q).family ++ (32 ∷ (layout q).call)) xs → Words r [] xs
  after q xs s w =
      let own = own_name q s in
      let named =
      ap (λ k. (k ++ (32 ∷ (layout q).call)) ++ numbers_text w.bits) own.0
      ∙ ap (λ k. (f ++ (32 ∷ k)) ++ numbers_text w.bits) own.1 in
      let whole = append_assoc f (32 ∷ c) r ∙ sym name.whole ∙ w.whole ∙ named in
      record {
        bits = w.bits;
        sized = w.sized;
        are = w.are;
        whole = append_cancel_left (f ++ (32 ∷ c)) r (numbers_text w.bits) whole;
      }

  -- both, as a call has them
  both : (q : Asked) (xs ys : List Float) → Words r [] xs → Spells line q →
      Words line ((layout q).family ++ (32 ∷ (layout q).call)) ys → (c ≡ (layout q).call) × (xs ≡ ys)
  both q xs ys w s v = (sym (own_name q s).1, same_words r [] xs ys w (after q ys s v))

  -- a line with other things than numbers asks for the distance of two lines, if anything
  pub no_numbers : (f ≡ codes "euclidean" → c ≡ codes "frechet" → ⊥) → ((xs : List Float) → Words r [] xs → ⊥) →
      Unspelled line
  no_numbers other none (Frechet ps qs) s =
      other (sym (own_name (Frechet ps qs) s).0) (sym (own_name (Frechet ps qs) s).1)
  no_numbers other none q s = none _ (after q _ s s)

  pub no_family : f ≢ codes "host" → f ≢ codes "euclidean" → Unspelled line
  no_family host plane (Distance p q) s = plane (sym (own_name (Distance p q) s).0)
  no_family host plane (Ratio t p q) s = plane (sym (own_name (Ratio t p q) s).0)
  no_family host plane (Along d p q) s = plane (sym (own_name (Along d p q) s).0)
  no_family host plane (Length ps) s = plane (sym (own_name (Length ps) s).0)
  no_family host plane (Frechet ps qs) s = plane (sym (own_name (Frechet ps qs) s).0)
  no_family host plane q s = host (sym (own_name q s).0)

  -- after the name of no call no line spells a question, but that of the distance of two lines
  pub no_call : (f ≡ codes "euclidean" → c ≡ codes "frechet" → ⊥) → NoCall f c → Unspelled line
  no_call other none (Distance p q) s =
      let own = own_name (Distance p q) s in
      (none (layout (Distance p q)).first (Distance p q)).1 (sym own.0) (sym own.1, refl)
  no_call other none (Ratio t p q) s =
      let own = own_name (Ratio t p q) s in
      (none (layout (Ratio t p q)).first (Ratio t p q)).1 (sym own.0) (sym own.1, refl)
  no_call other none (Along d p q) s =
      let own = own_name (Along d p q) s in
      (none (layout (Along d p q)).first (Along d p q)).1 (sym own.0) (sym own.1, refl)
  no_call other none (Length ps) s =
      let own = own_name (Length ps) s in
      (none (layout (Length ps)).first (Length ps)).1 (sym own.0) (sym own.1, refl)
  no_call other none (Frechet ps qs) s =
      let own = own_name (Frechet ps qs) s in
      other (sym own.0) (sym own.1)
  no_call other none (Sqrt x) s =
      let own = own_name (Sqrt x) s in
      (none (layout (Sqrt x)).first (Sqrt x)).0 (sym own.0) (sym own.1, refl)
  no_call other none (Hypot x y) s =
      let own = own_name (Hypot x y) s in
      (none (layout (Hypot x y)).first (Hypot x y)).0 (sym own.0) (sym own.1, refl)
  no_call other none (Sin x) s =
      let own = own_name (Sin x) s in
      (none (layout (Sin x)).first (Sin x)).0 (sym own.0) (sym own.1, refl)
  no_call other none (Cos x) s =
      let own = own_name (Cos x) s in
      (none (layout (Cos x)).first (Cos x)).0 (sym own.0) (sym own.1, refl)
  no_call other none (Asin x) s =
      let own = own_name (Asin x) s in
      (none (layout (Asin x)).first (Asin x)).0 (sym own.0) (sym own.1, refl)
  no_call other none (Atan2 y x) s =
      let own = own_name (Atan2 y x) s in
      (none (layout (Atan2 y x)).first (Atan2 y x)).0 (sym own.0) (sym own.1, refl)

  by_call : (f' c' : List ℕ) (xs ys : List Float) → f ≡ f' → Words r [] xs → c ≡ c' → xs ≡ ys →
      Words line (f' ++ (32 ∷ c')) ys
  by_call f' c' xs ys e w call numbers =
      words_on line f' c r xs c' ys (name.whole ∙ ap (λ k. called k c r) e) w call numbers

  pub host_spells : f ≡ codes "host" → (xs : List Float) → Words r [] xs → (q : Asked) → HostCall c xs q → Spells line q
  host_spells e xs w (Sqrt x) h = by_call (codes "host") (codes "sqrt") xs _ e w h.0 h.1
  host_spells e xs w (Hypot x y) h = by_call (codes "host") (codes "hypot") xs _ e w h.0 h.1
  host_spells e xs w (Sin x) h = by_call (codes "host") (codes "sin") xs _ e w h.0 h.1
  host_spells e xs w (Cos x) h = by_call (codes "host") (codes "cos") xs _ e w h.0 h.1
  host_spells e xs w (Asin x) h = by_call (codes "host") (codes "asin") xs _ e w h.0 h.1
  host_spells e xs w (Atan2 y x) h = by_call (codes "host") (codes "atan2") xs _ e w h.0 h.1
  host_spells e xs w _ h = absurd h

  pub host_called : f ≡ codes "host" → (xs : List Float) → Words r [] xs → (q : Asked) → Spells line q → HostCall c xs q
  host_called e xs w (Distance p q) s = apart 101 104 (omega arith) ((own_name (Distance p q) s).0 ∙ e)
  host_called e xs w (Ratio t p q) s = apart 101 104 (omega arith) ((own_name (Ratio t p q) s).0 ∙ e)
  host_called e xs w (Along d p q) s = apart 101 104 (omega arith) ((own_name (Along d p q) s).0 ∙ e)
  host_called e xs w (Length ps) s = apart 101 104 (omega arith) ((own_name (Length ps) s).0 ∙ e)
  host_called e xs w (Frechet ps qs) s = apart 101 104 (omega arith) ((own_name (Frechet ps qs) s).0 ∙ e)
  host_called e xs w q s = both q xs _ w s s

  pub plane_spells : f ≡ codes "euclidean" → (xs : List Float) → Words r [] xs → (q : Asked) → PlaneCall c xs q → Spells line q
  plane_spells e xs w (Distance p q) h = by_call (codes "euclidean") (codes "distance") xs _ e w h.0 h.1
  plane_spells e xs w (Ratio t p q) h = by_call (codes "euclidean") (codes "ratio") xs _ e w h.0 h.1
  plane_spells e xs w (Along d p q) h = by_call (codes "euclidean") (codes "along") xs _ e w h.0 h.1
  plane_spells e xs w (Length ps) h = by_call (codes "euclidean") (codes "length") xs _ e w h.0 h.1
  plane_spells e xs w _ h = absurd h

  pub plane_called : f ≡ codes "euclidean" →
      (f ≡ codes "euclidean" → c ≡ codes "frechet" → ⊥) →
      (xs : List Float) → Words r [] xs → (q : Asked) → Spells line q → PlaneCall c xs q
  plane_called e other xs w (Distance p q) s = both (Distance p q) xs _ w s s
  plane_called e other xs w (Ratio t p q) s = both (Ratio t p q) xs _ w s s
  plane_called e other xs w (Along d p q) s = both (Along d p q) xs _ w s s
  plane_called e other xs w (Length ps) s = both (Length ps) xs _ w s s
  plane_called e other xs w (Frechet ps qs) s =
      absurd (other (sym (own_name (Frechet ps qs) s).0) (sym (own_name (Frechet ps qs) s).1))
  plane_called e other xs w q s = apart 104 101 (omega arith) ((own_name q s).0 ∙ e)

  pub two_spells : f ≡ codes "euclidean" → c ≡ codes "frechet" → (q : Asked) → TwoLines r q → Spells line q
  two_spells e g (Frechet ps qs) h = record {
    rest = h.rest;
    bits = h.bits;
    sized = h.sized;
    are = h.are;
    whole = name.whole ∙ ap (λ f. called f c r) e ∙ ap (λ c. called (codes "euclidean") c r) g
        ∙ ap (called (codes "euclidean") (codes "frechet")) h.whole;
    second = h.second;
  }
  two_spells e g _ h = absurd h

  pub two_called : f ≡ codes "euclidean" → c ≡ codes "frechet" → (q : Asked) → Spells line q → TwoLines r q
  two_called e g (Distance p q) s = apart 100 102 (omega arith) ((own_name (Distance p q) s).1 ∙ g)
  two_called e g (Ratio t p q) s = apart 114 102 (omega arith) ((own_name (Ratio t p q) s).1 ∙ g)
  two_called e g (Along d p q) s = apart 97 102 (omega arith) ((own_name (Along d p q) s).1 ∙ g)
  two_called e g (Length ps) s = apart 108 102 (omega arith) ((own_name (Length ps) s).1 ∙ g)
  two_called e g (Frechet ps qs) s =
      let here = name.whole ∙ ap (λ f. called f c r) e ∙ ap (λ c. called (codes "euclidean") c r) g in
      record {
        rest = s.rest;
        bits = s.bits;
        sized = s.sized;
        are = s.are;
        whole = append_cancel_left (codes "euclidean frechet") r (numbers_text s.bits ++ s.rest) (sym here ∙ s.whole);
        second = s.second;
      }
  two_called e g q s = apart 104 101 (omega arith) ((own_name q s).0 ∙ e)

-- only the question of two lines is asked so
pub for_two_lines : (text : List ℕ) →
    ((ps qs : List Point) → TwoWords text [] (coordinates ps) (coordinates qs) → ⊥) → (q : Asked) → TwoLines text q → ⊥
for_two_lines text none (Frechet ps qs) h = none ps qs h
for_two_lines text none _ h = h
