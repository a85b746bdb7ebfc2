-- The ratios of neighbouring prices are the moves.
use Rattle.std.proofs.Common.{◌≡◌, ℕ, ◌+◌, ◌-◌, ◌<◌, List, map, length, get_or, drop, Option, Result, arith}
use Rattle.std.specs.List.{zip}
use Rattle.std.specs.Result.{MatchResult, OnOk}
use Rattle.std.specs.Iterator.{Drains, Yields}
use Rattle.std.proofs.lemmas.List.{length-map, length-drop, get_or-map, get_or-drop}
use Rattle.std.proofs.lemmas.Slice.Zip.{length-zip, get_or-zip}
use Rattle.std.proofs.lemmas.Iterator.{YieldsList}
use Rattle.std.proofs.lemmas.Iterator.Consumers.{YieldsList-at}
use Rattle.std.proofs.lemmas.Iterator.Adapters.{fact_from_extend}
use Rattle.figure.specs.declared.kinds.Ratio.{Ratio}
use Rattle.market.specs.Moves.{move_between, moves, parts}

-- what a chain passes to `extend`, seen through v
pub seen_from_extend : {T A C E : Type 0} {steps : T → Option A → T → Type 0} {all : List C} {P : List A → Type 0} {s : T}
    (v : A → C) (r : Result (Unit {0}) E)
    → ((it : T) × (xs : List A) × (it ≡ s) × P xs × MatchResult r (λ _. Drains steps it xs) (λ _. (t : T) × Yields steps it xs t))
    → YieldsList steps v s all → OnOk r ((xs : List A) × (map v xs ≡ all) × P xs)
seen_from_extend v r ran road = fact_from_extend v r ran (λ it b. YieldsList-at b road) (λ xs e h. (xs, e, h))

-- the move from a price to the next
pub move_at : (ps : List ℕ) (k : ℕ) → k + 1 < length ps
    → get_or (moves ps) k (0, 1) ≡ move_between (get_or ps k 0) (get_or ps (k + 1) 0)
move_at ps k h =
    let at = get_or-map (λ (pair : ℕ × ℕ). move_between pair.0 pair.1) (zip ps (drop 1 ps)) k (0, 0) (0, 1) in
    grind (arith, at, length-drop 1 ps, length-zip ps (drop 1 ps), get_or-zip ps (drop 1 ps) k (0, 0), get_or-drop 1 ps k 0)

-- there is one move fewer than prices
pub length-moves : (ps : List ℕ) → length (moves ps) ≡ length ps - 1
length-moves ps =
    let size = length-map (zip ps (drop 1 ps)) (λ (pair : ℕ × ℕ). move_between pair.0 pair.1) in
    grind (arith, size, length-zip ps (drop 1 ps), length-drop 1 ps)

-- there is one ratio fewer than prices
pub ratios_count : (ps : List ℕ) (rs : List Ratio) → map parts rs ≡ moves ps → length rs ≡ length ps - 1
ratios_count ps rs same = grind (arith, length-map rs parts, length-moves ps)
