-- One covering figure, chosen so that other definitions can speak of the cover as a value.
use Rattle.std.specs.Prelude.{◌≡◌, ℕ, ◌*◌, Bool, true, if◌then◌else◌, List, [], ◌∷◌, length, Some, None, Ok, Err, filter, Option, Result, MatchOption, nat_le, slice_index_or}
use Rattle.figure.specs.declared.fault.FigureFault.{FigureFault}
use Rattle.figure.specs.Orders.{same_rank}
use Rattle.figure.specs.Refusal.{denial, unless}
use Rattle.figure.specs.Cover.{not_above}

-- whether at least percent in 100 of the window are not above x, a figure of the window or not
abbrev pub enough_upto : {F : Type 0} → (F → F → Bool) → List F → ℕ → F → Bool
enough_upto upto window percent x = nat_le (percent * length window) (100 * not_above upto window x)

-- the lower of two figures where there are two, the first of them where they share a rank
abbrev pub lower : {F : Type 0} → (F → F → Bool) → F → Option F → Option F
lower upto x None = Some x
lower upto x (Some y) = Some (if upto x y then x else y)

abbrev pub lowest_of : {F : Type 0} → (F → F → Bool) → List F → Option F
lowest_of upto [] = None
lowest_of upto (x ∷ xs) = lower upto x (lowest_of upto xs)

-- the figures of the window that have enough of it not above them
abbrev pub covering : {F : Type 0} → (F → F → Bool) → List F → ℕ → List F
covering upto window percent = filter (enough_upto upto window percent) window

-- the cover: the lowest of these, and none of an empty window
abbrev pub cover_of : {F : Type 0} → (F → F → Bool) → List F → ℕ → Option F
cover_of upto window percent = lowest_of upto (covering upto window percent)

-- the figure at `place` shares its rank with y, and as many figures are not above y as are counted
abbrev pub RanksWith : {F : Type 0} → (F → F → Bool) → List F → ℕ → ℕ → F → Type 0
RanksWith {F} upto window place count y =
    ((d : F) → same_rank upto (slice_index_or window place d) y ≡ true)
    × (count ≡ not_above upto window y)

-- whatever the cover's call answers, it shares rank and count with the chosen figure
abbrev pub RanksWithChoice : {F : Type 0} → (F → F → Bool) → List F → ℕ → Result (Option (ℕ × ℕ)) FigureFault → Type 0
RanksWithChoice upto window percent (Err fault) = Unit {0}
RanksWithChoice upto window percent (Ok None) = cover_of upto window percent ≡ None
RanksWithChoice upto window percent (Ok (Some (place, count))) =
    MatchOption (cover_of upto window percent) ⊥ (RanksWith upto window place count)

-- what a call answers that asks whether enough of the window is not above x
abbrev pub enough_answer : {F : Type 0} → (F → F → Bool) → List F → ℕ → F → Result Bool FigureFault
enough_answer upto window percent x = unless (denial percent (length window)) (enough_upto upto window percent x)

-- enough of a window that is not empty is not above x exactly when its cover is not above x
abbrev pub BoundedByCover : {F : Type 0} → (F → F → Bool) → List F → ℕ → F → Result Bool FigureFault → Type 0
BoundedByCover upto window percent x (Err fault) = Unit {0}
BoundedByCover upto window percent x (Ok enough) =
    MatchOption (cover_of upto window percent) (length window ≡ 0) (λ y. enough ≡ upto y x)
