-- The larger and the lesser of two values of an order.
use mathlib.Core.Bool.{Bool}
use lib.Dec.{T}
use Rattle.std.proofs.lemmas.Bool.{cond_both}
use Rattle.couplings.specs.Rows.{Ordered, larger, lesser}

module _ {V : Type 0} {ok : V → Bool} {le lt : V → V → Bool} (O : Ordered V ok le lt) where
  module _ (a b : V) (ha : T (ok a)) (hb : T (ok b)) where
    pub ok_larger : T (ok (larger lt a b))
    ok_larger = cond_both (lt a b) b a (λ (v : V). T (ok v)) (λ e. hb) (λ e. ha)

    pub ok_lesser : T (ok (lesser lt a b))
    ok_lesser = cond_both (lt b a) b a (λ (v : V). T (ok v)) (λ e. hb) (λ e. ha)

    module _ (r : V) (hr : T (ok r)) where
      pub larger_left : T (le (larger lt a b) r) → T (le a r)
      larger_left = cond_both (lt a b) b a (λ (v : V). T (le v r) → T (le a r))
          (λ e. O.on a b r ha hb hr (O.before a b ha hb e)) (λ e h. h)

      pub larger_right : T (le (larger lt a b) r) → T (le b r)
      larger_right = cond_both (lt a b) b a (λ (v : V). T (le v r) → T (le b r))
          (λ e h. h) (λ e. O.on b a r hb ha hr (O.not_before a b ha hb e))

      pub larger_le : T (le a r) → T (le b r) → T (le (larger lt a b) r)
      larger_le h k = cond_both (lt a b) b a (λ (v : V). T (le v r)) (λ e. k) (λ e. h)

      pub lesser_left : T (le a r) → T (le (lesser lt a b) r)
      lesser_left h = cond_both (lt b a) b a (λ (v : V). T (le v r))
          (λ e. O.on b a r hb ha hr (O.before b a hb ha e) h) (λ e. h)

      pub lesser_right : T (le b r) → T (le (lesser lt a b) r)
      lesser_right h = cond_both (lt b a) b a (λ (v : V). T (le v r))
          (λ e. h) (λ e. O.on a b r ha hb hr (O.not_before b a hb ha e) h)

  -- the larger keeps the order
  pub larger_keeps : (k u v : V) → T (ok k) → T (ok u) → T (ok v) → T (le u v)
      → T (le (larger lt k u) (larger lt k v))
  larger_keeps k u v hk hu hv h =
      let l : V = larger lt k v in
      let hl = ok_larger k v hk hv in
      let same = O.same l hl in
      let right = O.on u v l hu hv hl h (larger_right k v hk hv l hl same) in
      larger_le k u hk hu l hl (larger_left k v hk hv l hl same) right
