-- The ratios gathered from a run of prices are its moves.
use Rattle.std.proofs.Common.{◌≡◌, ℕ, ◌+◌, ◌<◌, List, [], ◌∷◌, ◌++◌, map, get_or, take, length, arith}
use Rattle.std.proofs.lemmas.List.{map_push, take_more}
use Rattle.figure.specs.declared.kinds.Ratio.{Ratio}
use Rattle.market.specs.Moves.{move_between, moves, parts}
use Rattle.market.proofs.Moving.{length-moves, move_at}

-- one ratio more
pub ratios_more : (ps : List ℕ) (rs : List Ratio) (x : Ratio) (k : ℕ) → k + 1 < length ps → parts x ≡ move_between (get_or ps k 0) (get_or ps (k + 1) 0) → map parts rs ≡ take k (moves ps) → map parts (rs ++ x ∷ []) ≡ take (k + 1) (moves ps)
ratios_more ps rs x k h m so =
    let one = map_push parts rs x in
    let here = move_at ps k h in
    let more = take_more (moves ps) k (0, 1) (omega (arith, length-moves ps)) in
    cc
