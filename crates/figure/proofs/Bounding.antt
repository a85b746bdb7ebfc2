-- Enough of a window is not above a figure exactly when its cover is not.
use Rattle.std.proofs.Common.{◌≡◌, ℕ, ◌*◌, ◌<◌, ◌≤◌, Bool, true, List, [], ◌∷◌, length, Some, None, filter, Option, sym, refl, ◌∙◌, subst, ⊎_elim, mul-le-mul_right, arith, MatchOption}
use Rattle.std.specs.List.{ContainsAt as Has, AllByRecursion as All}
use Rattle.std.proofs.ByRecursion.{all-has, All-get_or, all_kept_by, all_has_itself, kept_by_passes}
use Rattle.std.proofs.lemmas.List.Sums.{length-filter}
use Rattle.std.proofs.lemmas.Bool.{cases_Bool, both_ways, leb-true, le-leb}
use Rattle.figure.specs.Orders.{TotalOrder}
use Rattle.figure.specs.Cover.{not_above, Reaches}
use Rattle.figure.specs.Choice.{enough_upto, covering, cover_of}
use Rattle.figure.proofs.Counting.{count_by_le, not_above_le, highest, empty_if_none_reaches}
use Rattle.figure.proofs.Choosing.{IsLowest, lowest_of_is, chosen_stands, all_from_kept}

module _ {F : Type 0} {upto : F → F → Bool} (o : TotalOrder upto) (window : List F) where
  -- the highest figure of the window that is not above s has as many not above it as s
  highest_upto : (s : F) (ks : List F) → ks ≡ filter (λ z. upto z s) window → 0 < length ks → (t : F) × Has window t × (upto t s ≡ true) × (not_above upto window s ≤ not_above upto window t)
  highest_upto s [] e h = absurd (omega (arith, h))
  highest_upto s (k ∷ ks) e h =
      let q : F → Bool = λ z. upto z s in
      let top = highest o k ks in
      let inside : Has (filter q window) top.0 = subst (λ (l : List F). Has l top.0) e top.1 in
      let above : All (λ z. upto z top.0 ≡ true) (filter q window) = subst (λ (l : List F). All (λ z. upto z top.0 ≡ true) l) e top.2 in (
        top.0,
        all-has (Has window) (filter q window) top.0 (all_kept_by q (Has window) window (all_has_itself window)) inside,
        all-has (λ z. q z ≡ true) (filter q window) top.0 (kept_by_passes q window) inside,
        count_by_le q (λ z. upto z top.0) window (all_from_kept q (λ z. upto z top.0 ≡ true) window above),
      )

  module _ (percent : ℕ) (some : 1 ≤ percent) (most : percent ≤ 100) (s : F) where
    -- enough is not above s, so the cover is not
    cover_not_above : (y : F) → IsLowest upto (covering upto window percent) (Some y) → Reaches window percent (not_above upto window s) → upto y s ≡ true
    cover_not_above y low e =
        let here = (chosen_stands o window percent y low.0).0 in
        let one : 1 * length window ≤ percent * length window = mul-le-mul_right (length window) some in
        let counted = length-filter (λ z. upto z s) window in
        let t = highest_upto s (filter (λ z. upto z s) window) refl (omega (arith, e, here.1)) in
        let below : enough_upto upto window percent t.0 ≡ true → upto y t.0 ≡ true = all-has (λ z. enough_upto upto window percent z ≡ true → upto y z ≡ true) window t.0 (all_from_kept (enough_upto upto window percent) (λ z. upto y z ≡ true) window low.1) t.1 in
        o.transitive y t.0 s (below (le-leb _ _ (omega (arith, e, t.3)))) t.2

    exactly : (y : F) → IsLowest upto (covering upto window percent) (Some y) → enough_upto upto window percent s ≡ upto y s
    exactly y low =
        ⊎_elim
        (λ e. e ∙ sym (cover_not_above y low (leb-true _ _ e)))
        (λ e. ⊎_elim (λ u. absurd (both_ways _ e (le-leb _ _ (omega (arith, (chosen_stands o window percent y low.0).1, not_above_le o window y s u))))) (λ u. e ∙ sym u) (cases_Bool (upto y s)))
        (cases_Bool (enough_upto upto window percent s))

    bounded_by : (r : Option F) → IsLowest upto (covering upto window percent) r → MatchOption r (length window ≡ 0) (λ y. enough_upto upto window percent s ≡ upto y s)
    bounded_by None low =
        empty_if_none_reaches o window percent most (λ k d h e. All-get_or (λ z. enough_upto upto window percent z ≡ true → ⊥) window k d h (all_from_kept (enough_upto upto window percent) (λ _. ⊥) window (subst (λ (l : List F). All (λ _. ⊥) l) (sym low) tt)) (le-leb _ _ e))
    bounded_by (Some y) low = exactly y low

    pub enough_exactly_from_cover : MatchOption (cover_of upto window percent) (length window ≡ 0) (λ y. enough_upto upto window percent s ≡ upto y s)
    enough_exactly_from_cover = bounded_by (cover_of upto window percent) (lowest_of_is o (covering upto window percent))
