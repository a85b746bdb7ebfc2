-- The move that covers 99 in 100 of the moves from one price to the next.
use Rattle.std.specs.Prelude.{◌≡◌, ℕ, ◌+◌, ◌-◌, ◌<◌, List, map, length, Some, Ok, Err, vec_items, Result, Vec, slice_index, slice_index_or}
use Rattle.std.specs.declared.alloc.Global.{Global}
use Rattle.figure.specs.declared.kinds.Ratio.{Ratio}
use Rattle.figure.specs.Orders.{ratio_upto}
use Rattle.figure.specs.Refusal.{denial}
use Rattle.figure.specs.Cover.{Covers}
use Rattle.market.specs.Moves.{moves, parts}
use Rattle.statement.specs.declared.moves.CoveringMove.{CoveringMove}
use Rattle.statement.specs.declared.moves.NoMove.{NoMove}
use Rattle.statement.specs.declared.moves.NoMove.TheVariants.{TooFew, ZeroPrice, Cover, Memory}

-- a price that is not the last is zero, so that a move starts from it
abbrev pub ZeroInside : List ℕ → Type 0
ZeroInside prices = (k : ℕ) × (k + 1 < length prices) × (slice_index prices k ≡ 0)

-- the ratios of a run of prices; want of memory can come of any run
abbrev pub RatiosOf : List ℕ → Result (Vec Ratio Global) NoMove → Type 0
RatiosOf prices (Ok v) = map parts (vec_items v) ≡ moves prices
RatiosOf prices (Err TooFew) = ⊥
RatiosOf prices (Err ZeroPrice) = ZeroInside prices
RatiosOf prices (Err (Cover fault)) = ⊥
RatiosOf prices (Err Memory) = Unit {0}

-- the covering move of a run of prices; want of memory can come of any run
abbrev pub IsCoveringMove : List ℕ → Result CoveringMove NoMove → Type 0
IsCoveringMove prices (Ok m) =
    (ratios : List Ratio) × (map parts ratios ≡ moves prices) × Covers ratio_upto ratios 99 m.place m.not_above
    × ((d : Ratio) → m.ratio ≡ slice_index_or ratios m.place d) × (m.days ≡ length ratios)
IsCoveringMove prices (Err TooFew) = length prices < 2
IsCoveringMove prices (Err ZeroPrice) = ZeroInside prices
IsCoveringMove prices (Err (Cover fault)) = denial 99 (length prices - 1) ≡ Some fault
IsCoveringMove prices (Err Memory) = Unit {0}
