-- The cover of a window, seen through a map of its figures that keeps their order.
use Rattle.std.proofs.Common.{◌≡◌, ℕ, ◌<◌, Bool, List, [], ◌∷◌, map, length, get_or, count_by, filter, refl, ap, ◌∙◌, arith}
use Rattle.std.specs.Option.{option_map}
use Rattle.std.proofs.lemmas.List.{length-map, get_or-map}
use Rattle.std.proofs.lemmas.List.Sums.{sum_by-cons}
use Rattle.figure.specs.Cover.{not_above, Covers}
use Rattle.figure.specs.Choice.{enough_upto, lowest_of, covering, cover_of}

module _ {X Y : Type 0} (f : X → Y) where
  -- how many of the mapped figures pass a test
  count_by-map : (p : Y → Bool) (xs : List X) → count_by p (map f xs) ≡ count_by (λ x. p (f x)) xs
  count_by-map p [] = refl
  count_by-map p (x ∷ xs) = simp (sum_by-cons, count_by-map p xs)

  -- the mapped figures that pass a test
  filter-map : (p : Y → Bool) (q : X → Bool) → ((x : X) → p (f x) ≡ q x) → (xs : List X) → filter p (map f xs) ≡ map f (filter q xs)
  filter-map p q e [] = refl
  filter-map p q e (x ∷ xs) = grind (arith, e x, filter-map p q e xs)

  module _ (upto : Y → Y → Bool) where
    -- the order of the mapped figures, on the figures
    abbrev through : X → X → Bool
    through x y = upto (f x) (f y)

    -- the lowest of the mapped figures is the lowest figure, mapped
    lowest_of-map : (xs : List X) → lowest_of upto (map f xs) ≡ option_map f (lowest_of through xs)
    lowest_of-map [] = refl
    lowest_of-map (x ∷ xs) = grind (arith, lowest_of-map xs)

    -- as many mapped figures are not above a mapped one
    not_above-map : (xs : List X) (x : X) → not_above upto (map f xs) (f x) ≡ not_above through xs x
    not_above-map xs x = count_by-map (λ y. upto y (f x)) xs

    -- and so enough of them are, exactly where enough of the figures are
    enough-map : (xs : List X) (percent : ℕ) (x : X) → enough_upto upto (map f xs) percent (f x) ≡ enough_upto through xs percent x
    enough-map xs percent x = simp (length-map, not_above-map)

    -- the chosen figure of the mapped window is the chosen figure, mapped
    pub cover_of-map : (xs : List X) (percent : ℕ) → cover_of upto (map f xs) percent ≡ option_map f (cover_of through xs percent)
    cover_of-map xs percent =
        ap (lowest_of upto) (filter-map (enough_upto upto (map f xs) percent) (enough_upto through xs percent) (enough-map xs percent) xs)
        ∙ lowest_of-map (covering through xs percent)

    -- what covers a window covers the mapped one
    pub Covers-map : (xs : List X) (percent place count : ℕ) (x : X) → Covers through xs percent place count → Covers upto (map f xs) percent place count
    Covers-map xs percent place count x cov =
        let size = length-map xs f in
        let at : (k : ℕ) (d : Y) → k < length xs → get_or (map f xs) k d ≡ f (get_or xs k x) = λ k d h. get_or-map f xs k x d h in
        record {
          within = omega (arith, cov.within);
          counted = λ d. rw (at place d cov.within, not_above-map xs (get_or xs place x)) (cov.counted x);
          enough = rw size cov.enough;
          lowest = λ k d h e.
              let inside : k < length xs = omega (arith, h) in
              rw (at place d cov.within, at k d inside) (cov.lowest k x inside (rw (at k d inside, not_above-map xs (get_or xs k x), size) at e));
        }
