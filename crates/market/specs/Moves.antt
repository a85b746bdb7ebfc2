-- How prices move from one to the next.
use Rattle.std.specs.Prelude.{ℕ, ◌+◌, ◌-◌, ◌*◌, Bool, List, map, drop, nat_le}
use Rattle.std.specs.List.{zip}
use Rattle.figure.specs.declared.kinds.Ratio.{Ratio}

-- a move: how far, over the price that it starts from
abbrev pub Move : Type 0
Move = ℕ × ℕ

-- |later − earlier| / earlier
abbrev pub move_between : ℕ → ℕ → Move
move_between earlier later = ((later - earlier) + (earlier - later), earlier)

-- the moves of neighbouring prices: each price beside the one behind it
abbrev pub moves : List ℕ → List Move
moves prices = map (λ (pair : ℕ × ℕ). move_between pair.0 pair.1) (zip prices (drop 1 prices))

-- moves compare as ratios do: a/b is not above c/d when a × d ≤ c × b
abbrev pub move_upto : Move → Move → Bool
move_upto x y = nat_le (x.0 * y.1) (y.0 * x.1)

-- a ratio as a move
abbrev pub parts : Ratio → Move
parts ratio = (ratio.numerator, ratio.denominator)
