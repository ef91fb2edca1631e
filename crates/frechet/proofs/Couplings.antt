-- The theorem: an answer is the least over all couplings, and nearness passes on.
use Rattle.std.proofs.Common.{◌≡◌, ℕ, suc, ◌<◌, Bool, true, false, cond, T, leb, List, [], ◌∷◌, length, get_or, pos, Ok, Err, Result, sym, ap, ◌∙◌, subst, inl, inr, zero-lt-suc, arith}
use lib.Ieee.{Float, lt, le, fin}
use Rattle.couplings.specs.Coupling.{Pair, IsCoupling, Among, Some}
use Rattle.couplings.specs.Nearness.{Measure, apart_in, Near, Measured, Mutual as MutualIn}
use Rattle.couplings.proofs.Bound.{coupling_bound}
use Rattle.couplings.proofs.Nearness.{nearness_passes, near_flips}
use Rattle.couplings.proofs.Pairs.{each_in}
use Rattle.points.specs.declared.fault.Fault.{Fault}
use Rattle.points.specs.declared.point.Point.{Point}
use Rattle.spaces.specs.Space.{Measures}
use Rattle.frechet.specs.Table.{longer, shorter, frechet}
use Rattle.frechet.specs.Theorem.{nowhere, NoMore, NoLess, Coupled, LeastOverCouplings, Answers, Mutual, NearnessPasses}
use Rattle.std.proofs.lemmas.Float.{le_trans}
use Rattle.frechet.proofs.Order.{is_number, floats_ordered}
use Rattle.frechet.proofs.Values.{value_of, value_number}
use Rattle.frechet.proofs.Told.{Told, told, longer_some, shorter_some}

within_value : (d : Float) (r : Result Float Fault) → NoMore d r → T (le (value_of r) d)
within_value d (Ok v) h = h
within_value d (Err f) h = absurd h

among_index : (x : Point) (xs : List Point) → Among x xs → (i : ℕ) × (i < length xs) × (get_or xs i nowhere ≡ x)
among_index x [] h = absurd h
among_index x (y ∷ ys) (inl e) = (0, zero-lt-suc (length ys), sym e)
among_index x (y ∷ ys) (inr h) = let r = among_index x ys h in (suc r.0, omega (arith, r.1), r.2)

-- a space's distances, where each is refused or measured
module _ (far : Point → Point → Result Float Fault) (ok : Point → Point → Bool)
    (law : (p q : Point) → Measures (ok p q) (far p q)) where
  abbrev pub zero : Float
  zero = fin false 0 (pos 0)

  abbrev measure : Measure Point Float
  measure = record {
    ok = is_number;
    le = le;
    lt = lt;
    ordered = floats_ordered;
    zero = zero;
    point = nowhere;
    distance = λ a b. value_of (far a b);
  }

  all_measured : (A B : List Point) → Measured measure A B
  all_measured A B a b i j = value_number (ok a b) (far a b) (law a b)

  -- what was told of X and Y, in the words of couplings
  module _ (X Y : List Point) (d : Float) (hx : 0 < length X) (hy : 0 < length Y)
      (w : Told far zero X Y d) where
    near : Near measure X Y d
    near = subst (Near measure X Y) w.is (coupling_bound measure X Y hx hy (all_measured X Y)).0

    reached : (pairs : List Pair) → IsCoupling (length X) (length Y) pairs
        → Some (λ p. T (le d (apart_in measure X Y p))) pairs
    reached =
        subst (λ (v : Float). (pairs : List Pair) → IsCoupling (length X) (length Y) pairs
        → Some (λ p. T (le v (apart_in measure X Y p))) pairs) w.is
        (coupling_bound measure X Y hx hy (all_measured X Y)).1

    pub coupled : Coupled far X Y d
    coupled = record {
      some = (
        near.0,
        near.1,
        λ p i.
            let inside = each_in (length X) (length Y) near.0 near.1 p i in
            subst (NoMore d) (sym (w.known p.0 p.1 inside.0 inside.1)) (near.2 p i),
      );
      every = λ pairs c.
          let found = reached pairs c in
          let inside = each_in (length X) (length Y) pairs c found.0 found.1 in (
            found.0,
            found.1,
            subst (NoLess d) (sym (w.known found.0.0 found.0.1 inside.0 inside.1)) found.2,
          );
    }

  pub least_over_couplings : (A B : List Point) (xs : List Float) (r : Result Float Fault)
      → r ≡ (frechet far A B xs).result
      → LeastOverCouplings far A B r
  least_over_couplings A B xs (Err f) e = tt
  least_over_couplings A B xs (Ok d) e =
      λ ha hb. coupled (longer A B) (shorter A B) d (longer_some A B ha hb) (shorter_some A B ha hb)
      (told far zero A B xs d ha hb (sym e))

  -- ---- nearness

  pub mutual_back : (A B : List Point) → Mutual far A B → Mutual far B A
  mutual_back A B m b a j i = sym (m a b i j)

  mutual_in : (A B : List Point) → Mutual far A B → MutualIn measure A B
  mutual_in A B m a b i j = ap value_of (m a b i j)

  -- what an answer says of its two lines, in whichever order they were given
  pub record Says (A B : List Point) (d : Float) : Type 0 where
    pub near_is : Near measure A B d
    pub answered : (a b : Point) → Among a A → Among b B → far a b ≡ Ok (value_of (far a b))
    pub least : (t : Float) → Near measure A B t → T (le d t)

  says : (X Y : List Point) (d : Float) → 0 < length X → 0 < length Y → Told far zero X Y d → Says X Y d
  says X Y d hx hy w = record {
    near_is = near X Y d hx hy w;
    answered = λ a b i j.
        let x = among_index a X i in
        let y = among_index b Y j in
        subst (λ (v : Point). far a v ≡ Ok (value_of (far a v))) y.2
        (subst (λ (v : Point). far v (get_or Y y.0 nowhere) ≡ Ok (value_of (far v (get_or Y y.0 nowhere))))
        x.2
        (w.known x.0 y.0 x.1 y.1));
    least = λ t n.
        let found = reached X Y d hx hy w n.0 n.1 in
        le_trans d (apart_in measure X Y found.0) t found.2 (n.2 found.0 found.1);
  }

  pub says_back : (A B : List Point) (d : Float) → Mutual far A B → Says A B d → Says B A d
  says_back A B d m s = record {
    near_is = near_flips measure A B d (mutual_in A B m) s.near_is;
    answered = λ b a j i. sym (m a b i j) ∙ s.answered a b i j ∙ ap (λ r. Ok (value_of r)) (m a b i j);
    least = λ t n. s.least t (near_flips measure B A t (mutual_in B A (mutual_back A B m)) n);
  }

  -- the longer line is the one or the other
  pub says_told : (A B : List Point) (d : Float) → 0 < length A → 0 < length B → Mutual far A B
      → Told far zero (longer A B) (shorter A B) d → Says A B d
  says_told A B d ha hb m w =
      go (leb (length A) (length B)) (longer_some A B ha hb) (shorter_some A B ha hb) w
    where
      go : (t : Bool) → 0 < length (cond t B A) → 0 < length (cond t A B)
          → Told far zero (cond t B A) (cond t A B) d
          → Says A B d
      go true hx hy w = says_back B A d (mutual_back A B m) (says B A d hx hy w)
      go false hx hy w = says A B d hx hy w

  says_of : (A B : List Point) (xs : List Float) (d : Float) → 0 < length A → 0 < length B → Mutual far A B
      → (frechet far A B xs).result ≡ Ok d → Says A B d
  says_of A B xs d ha hb m e = says_told A B d ha hb m (told far zero A B xs d ha hb e)

  says_either : (A B : List Point) (d : Float) → 0 < length A → 0 < length B → Mutual far A B
      → Answers far A B d → Says A B d
  says_either A B d ha hb m (xs, inl e) = says_of A B xs d ha hb m e
  says_either A B d ha hb m (xs, inr e) = says_back B A d (mutual_back A B m)
      (says_of B A xs d hb ha (mutual_back A B m) e)

  -- what three answers say, over any points that keep near
  pub passes : (A B C : List Point) (r s u t : Float) → Says A B r → Says B C s → Says A C u
      → ((a b c : Point) → Among a A → Among b B → Among c C
      → NoMore r (far a b) → NoMore s (far b c) → NoMore t (far a c))
      → T (le u t)
  passes A B C r s u t p q v tri =
      v.least t
      (nearness_passes measure A B C r s t
      (λ a b c i j k f g.
      within_value t (far a c) (tri a b c i j k
      (subst (NoMore r) (sym (p.answered a b i j)) f) (subst (NoMore s) (sym (q.answered b c j k)) g)))
      p.near_is q.near_is)

  pub nearness : NearnessPasses far
  nearness A B C r s u t ha hb hc mab mbc mac ab bc ac tri =
      passes A B C r s u t (says_either A B r ha hb mab ab) (says_either B C s hb hc mbc bc)
      (says_either A C u ha hc mac ac) tri
