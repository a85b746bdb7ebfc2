-- A row as its users see it: what making it, rolling it forward and asking for its cover answer.
use Rattle.std.specs.Prelude.{◌≡◌, ℕ, true, List, [], ◌∷◌, ◌++◌, IsSomeAnd, Some, None, Ok, Err, Result, slice_index_or}
use Rattle.figure.specs.Orders.{same_rank}
use Rattle.figure.specs.Cover.{Covers}
use Rattle.figure.specs.Choice.{cover_of}
use Rattle.record.specs.declared.quote.Quote.{Quote}
use Rattle.market.specs.declared.fault.PriceFault.{PriceFault}
use Rattle.market.specs.declared.fault.RowFault.{RowFault}
use Rattle.market.specs.declared.fault.RowFault.TheVariants.{Memory}
use Rattle.market.specs.declared.row.Row.{Row}
use Rattle.market.specs.declared.covering.CoveringRatio.{CoveringRatio}
use Rattle.market.specs.Moves.{moves, move_upto, parts}
use Rattle.market.specs.Rows.{PriceRow, prices, row_denial, latest}

-- the code and the prices that a row shows
abbrev pub row_of : Row → PriceRow
row_of row = record { code = row.code; prices = row.prices.items }

-- making a row of a run answers the refusal that is due, else a row of its prices or want of memory
abbrev pub MadeOf : ℕ → List Quote → Result Row RowFault → Type 0
MadeOf code run (Ok row) =
    (row_denial code run ≡ None) × (row_of row ≡ record { code = code; prices = prices run })
MadeOf code run (Err Memory) = row_denial code run ≡ None
MadeOf code run (Err fault) = row_denial code run ≡ Some fault

-- rolling forward leaves the price behind the others, the latest 121 kept; a refusal no change
abbrev pub Rolled : Row → ℕ → Row → Result (Unit {0}) PriceFault → Type 0
Rolled before price after (Ok done) =
    row_of after
    ≡ record (row_of before) { prices = latest 121 ((row_of before).prices ++ price ∷ []) }
Rolled before price after (Err fault) = after ≡ before

-- the covering ratio of a row at 99 percent: its place among the moves, its count, and its rank
pub record Covering (row : List ℕ) (c : CoveringRatio) : Type 0 where
  pub covers : Covers move_upto (moves row) 99 c.place c.count
  pub ratio : parts c.ratio ≡ slice_index_or (moves row) c.place (0, 1)
  pub rank : IsSomeAnd (cover_of move_upto (moves row) 99)
      (λ m. same_rank move_upto (parts c.ratio) m ≡ true)
