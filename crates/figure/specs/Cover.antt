-- The cover of a window at a percent: the lowest of its figures that has so many in a hundred not above it.
use Rattle.std.specs.Prelude.{◌≡◌, ℕ, ◌*◌, ◌<◌, ◌≤◌, Bool, true, List, length, Some, None, Ok, Err, count_by, Option, Result, slice_index_or}
use Rattle.figure.specs.declared.fault.FigureFault.{FigureFault}
use Rattle.figure.specs.Orders.{same_rank}
use Rattle.figure.specs.Refusal.{denial}

-- how many figures of the window are not above x
abbrev pub not_above : {F : Type 0} → (F → F → Bool) → List F → F → ℕ
not_above upto window x = count_by (λ y. upto y x) window

-- count figures are at least percent in 100 of the window
abbrev pub Reaches : {F : Type 0} → List F → ℕ → ℕ → Type 0
Reaches window percent count = percent * length window ≤ 100 * count

-- The figure at `place` covers the window at `percent`, and `count` figures are not above it.
-- Where several figures share its rank, each of their places will do: nothing else is free.
pub record Covers {F : Type 0} (upto : F → F → Bool) (window : List F) (percent place count : ℕ) : Type 0 where
  pub within : place < length window
  pub counted : (d : F) → count ≡ not_above upto window (slice_index_or window place d)
  pub enough : Reaches window percent count
  pub lowest : (k : ℕ) (d : F) → k < length window
      → Reaches window percent (not_above upto window (slice_index_or window k d))
      → upto (slice_index_or window place d) (slice_index_or window k d) ≡ true

-- what a call for the cover answers: the refusal that is due, or else none for an empty window, or else a cover
abbrev pub Answered : {F : Type 0} → (F → F → Bool) → List F → ℕ → Result (Option (ℕ × ℕ)) FigureFault → Type 0
Answered upto window percent (Err fault) = denial percent (length window) ≡ Some fault
Answered upto window percent (Ok None) = (denial percent (length window) ≡ None) × (length window ≡ 0)
Answered upto window percent (Ok (Some (place, count))) =
    (denial percent (length window) ≡ None) × Covers upto window percent place count

-- the one freedom of an answer: two places whose figures share a rank, with one count
abbrev pub SameButPlace : {F : Type 0} → (F → F → Bool) → List F → ℕ × ℕ → ℕ × ℕ → Type 0
SameButPlace {F} upto window a b =
    ((d : F) → same_rank upto (slice_index_or window a.0 d) (slice_index_or window b.0 d) ≡ true)
    × (a.1 ≡ b.1)

-- an answer fixes all other answers but for the place: those are the places that share its figure's rank, with its count
abbrev pub FreeInPlaceOnly : {F : Type 0} → (F → F → Bool) → List F → ℕ → Result (Option (ℕ × ℕ)) FigureFault → Type 0
FreeInPlaceOnly upto window percent (Err fault) = Unit {0}
FreeInPlaceOnly upto window percent (Ok None) = (place count : ℕ) → Covers upto window percent place count → ⊥
FreeInPlaceOnly upto window percent (Ok (Some answer)) =
    (place count : ℕ)
    → (Covers upto window percent place count
    → (place < length window) × SameButPlace upto window answer (place, count))
    × (place < length window → SameButPlace upto window answer (place, count)
    → Covers upto window percent place count)
