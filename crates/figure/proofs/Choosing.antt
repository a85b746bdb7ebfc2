-- Any answer of the cover's call shares rank and count with the chosen figure.
use Rattle.std.proofs.Common.{◌≡◌, ℕ, suc, ◌<◌, Bool, true, List, [], ◌∷◌, length, get_or, Some, None, filter, Option, sym, refl, ap, subst, ⊎_elim, arith, MatchOption}
use Rattle.std.specs.List.{ContainsAt as Has, AllByRecursion as All}
use Rattle.std.proofs.ByRecursion.{All-weaker, all-has, All-get_or, all_kept_by, all_has_itself, kept_by_passes}
use Rattle.std.proofs.lemmas.List.{nil_from_length}
use Rattle.std.proofs.lemmas.Bool.{cases_Bool, both_ways, cond-true, cond-false, cond_both, leb-true, le-leb, and_from}
use Rattle.figure.specs.Orders.{TotalOrder}
use Rattle.figure.specs.Cover.{not_above, Reaches, Covers}
use Rattle.figure.specs.Choice.{enough_upto, lower, lowest_of, covering, cover_of, RanksWith}
use Rattle.figure.proofs.Counting.{upto_itself, not_above_le}

-- what holds of all that is kept holds of each that passes
pub all_from_kept : {X : Type 0} (p : X → Bool) (P : X → Type 0) (xs : List X) → All P (filter p xs) → All (λ x. p x ≡ true → P x) xs
all_from_kept p P [] a = tt
all_from_kept {X} p P (x ∷ xs) a =
    let each : List X → Type 0 = λ l. All P l in
    ⊎_elim
    (λ t. let b = subst each (cond-true (p x) (x ∷ filter p xs) (filter p xs) t) a in (λ _. b.0, all_from_kept p P xs b.1))
    (λ t. let b = subst each (cond-false (p x) (x ∷ filter p xs) (filter p xs) t) a in (λ u. absurd (both_ways (p x) t u), all_from_kept p P xs b))
    (cases_Bool (p x))

-- a lowest figure of ys, if there is any
abbrev pub IsLowest : {F : Type 0} → (F → F → Bool) → List F → Option F → Type 0
IsLowest upto ys r = MatchOption r (ys ≡ []) (λ y. Has ys y × All (λ z. upto y z ≡ true) ys)

-- some figure of a window that is not empty
pub a_figure : {F : Type 0} (xs : List F) → 0 < length xs → F
a_figure [] h = absurd (omega (arith, h))
a_figure (x ∷ xs) h = x

module _ {F : Type 0} {upto : F → F → Bool} (o : TotalOrder upto) where
  lower_lowest : (x : F) (xs : List F) (r : Option F) → IsLowest upto xs r → IsLowest upto (x ∷ xs) (lower upto x r)
  lower_lowest x xs None low = ((0, omega arith, λ d. refl), (upto_itself o x, subst (λ (l : List F). All (λ z. upto x z ≡ true) l) (sym low) tt))
  lower_lowest x xs (Some y) low =
      cond_both (upto x y) x y (λ v. Has (x ∷ xs) v × All (λ z. upto v z ≡ true) (x ∷ xs))
      (λ e. ((0, omega arith, λ d. refl), (upto_itself o x, All-weaker (λ z. upto y z ≡ true) (λ z. upto x z ≡ true) (λ z h. o.transitive x y z e h) xs low.1)))
      (λ e. ((suc low.0.0, omega (arith, low.0.1), low.0.2), (o.any_two_compare x y e, low.1)))

  pub lowest_of_is : (ys : List F) → IsLowest upto ys (lowest_of upto ys)
  lowest_of_is [] = refl
  lowest_of_is (x ∷ xs) = lower_lowest x xs (lowest_of upto xs) (lowest_of_is xs)

  -- where the chosen figure stands in the window, and that enough is not above it
  pub chosen_stands : (window : List F) (percent : ℕ) (y : F) → Has (covering upto window percent) y → Has window y × Reaches window percent (not_above upto window y)
  chosen_stands window percent y has =
      let test = enough_upto upto window percent in (
        all-has (Has window) (covering upto window percent) y (all_kept_by test (Has window) window (all_has_itself window)) has,
        leb-true _ _ (all-has (λ z. test z ≡ true) (covering upto window percent) y (kept_by_passes test window) has),
      )

  module _ (window : List F) (percent place count : ℕ) (cov : Covers upto window percent place count) where
    passes : (d : F) → enough_upto upto window percent (get_or window place d) ≡ true
    passes d = le-leb _ _ (omega (arith, cov.enough, cov.counted d))

    -- what holds of all covering figures holds of the one at the answer's place
    at_place : (P : F → Type 0) → All P (covering upto window percent) → (d : F) → P (get_or window place d)
    at_place P a d =
        All-get_or (λ z. enough_upto upto window percent z ≡ true → P z) window place d cov.within (all_from_kept (enough_upto upto window percent) P window a) (passes d)

    both_ways_not_above : (y : F) → IsLowest upto (covering upto window percent) (Some y) → (d : F) → (upto (get_or window place d) y ≡ true) × (upto y (get_or window place d) ≡ true)
    both_ways_not_above y low d =
        let stands = chosen_stands window percent y low.0 in
        let here = stands.0 in
        let at : get_or window here.0 d ≡ y = here.2 d in
        let below : upto (get_or window place d) (get_or window here.0 d) ≡ true = cov.lowest here.0 d here.1 (omega (arith, stands.1, ap (not_above upto window) at)) in
        (rw at at below, at_place (λ z. upto y z ≡ true) low.1 d)

    ranks_with_lowest : (r : Option F) → IsLowest upto (covering upto window percent) r → MatchOption r ⊥ (RanksWith upto window place count)
    ranks_with_lowest None low = at_place (λ _. ⊥) (subst (λ (l : List F). All (λ _. ⊥) l) (sym low) tt) (a_figure window (omega (arith, cov.within)))
    ranks_with_lowest (Some y) low =
        let both = both_ways_not_above y low y in (
          λ d. let b = both_ways_not_above y low d in and_from _ _ b.0 b.1,
          omega (arith, cov.counted y, not_above_le o window (get_or window place y) y both.0, not_above_le o window y (get_or window place y) both.1),
        )

    pub answer_ranks_with_choice : MatchOption (cover_of upto window percent) ⊥ (RanksWith upto window place count)
    answer_ranks_with_choice = ranks_with_lowest (cover_of upto window percent) (lowest_of_is (covering upto window percent))

-- nothing is chosen of an empty window
pub none_chosen : {F : Type 0} (upto : F → F → Bool) (window : List F) (percent : ℕ) → length window ≡ 0 → cover_of upto window percent ≡ None
none_chosen upto window percent empty = rw (nil_from_length window empty) refl
