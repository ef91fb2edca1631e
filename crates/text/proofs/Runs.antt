-- A run up to the first byte that stops it: what `count_before` measures gives the first line and the first word.
use Rattle.std.proofs.Common.{◌≡◌, ℕ, zero, suc, ◌+◌, ◌-◌, ◌<◌, ◌≤◌, List, [], ◌∷◌, length, get_or, take, drop, sym, refl, ap, ◌∙◌, arith, eq-eqb, ne_eqb}
use Rattle.std.proofs.lemmas.List.{length-drop, drop-drop}
use Rattle.text.specs.Lines.{Inside, lines, front, onto, part}

-- the first k bytes of l hold no c, and the next one, if any, is c
pub record Run (c : ℕ) (l : List ℕ) (k : ℕ) : Type 0 where
  pub within : k ≤ length l
  pub before : (i : ℕ) → i < k → get_or l i 0 ≡ c → ⊥
  pub found : k < length l → get_or l k 0 ≡ c

-- the run of the rest, after a first byte that is not c
run_tail : (c b : ℕ) (bs : List ℕ) (k : ℕ) → Run c (b ∷ bs) (suc k) → Run c bs k
run_tail c b bs k h = record {
  within = omega (arith, h.within);
  before = λ i lt e. h.before (suc i) (omega arith) e;
  found = λ lt. h.found (omega arith);
}

pub front_run : (l : List ℕ) (k : ℕ) → Run 32 l k → front l ≡ take k l
unfolding front
front_run [] zero h = refl
front_run [] (suc k) h = refl
front_run (b ∷ bs) zero h = rw (eq-eqb b 32 (h.found (omega arith)))
front_run (b ∷ bs) (suc k) h =
    rw (ne_eqb b 32 (h.before 0 (omega arith))) (ap (λ l. b ∷ l) (front_run bs k (run_tail 32 b bs k h)))

pub lines_run : (l : List ℕ) (k : ℕ) → 0 < length l → Run 10 l k → lines l ≡ take k l ∷ lines (drop (suc k) l)
unfolding lines
lines_run [] k some h = absurd (omega arith)
lines_run (b ∷ bs) zero some h = rw (eq-eqb b 10 (h.found (omega arith)))
lines_run (b ∷ []) (suc zero) some h = rw (ne_eqb b 10 (h.before 0 (omega arith)))
lines_run (b ∷ []) (suc (suc k)) some h = absurd (omega (arith, h.within))
lines_run (b ∷ d ∷ bs) (suc k) some h =
    rw (ne_eqb b 10 (h.before 0 (omega arith)))
    (ap (onto b) (lines_run (d ∷ bs) k (omega arith) (run_tail 10 b (d ∷ bs) k h)))

pub no_lines : (l : List ℕ) → length l ≡ 0 → lines l ≡ []
unfolding lines
no_lines [] e = refl
no_lines (b ∷ bs) e = absurd (omega arith)

-- a run of the rest of the bytes is a line
pub line_run : (bytes : List ℕ) (at k : ℕ) → at < length bytes → Run 10 (drop at bytes) k →
    Inside bytes at (at + k) × (lines (drop at bytes) ≡ part bytes at (at + k) ∷ lines (drop (at + k + 1) bytes))
line_run bytes at k some run =
    let long = length-drop at bytes in
    let same : at + k - at ≡ k = omega arith in
    let next : at + suc k ≡ at + k + 1 = omega arith in
    let fits = run.within in (
      record { ordered = omega arith; within = omega arith },
      lines_run (drop at bytes) k (omega arith) run
          ∙ ap (λ n. take n (drop at bytes) ∷ lines (drop (suc k) (drop at bytes))) (sym same)
          ∙ ap (λ l. part bytes at (at + k) ∷ lines l)
          (drop-drop (suc k) at bytes ∙ ap (λ n. drop n bytes) next),
    )
