-- The run of prices that a row is made of, what is refused of it, and what holds of a row.
use Rattle.std.specs.Prelude.{ℕ, ◌-◌, ◌≤◌, Bool, if◌then◌else◌, not, ◌||◌, List, map, length, drop, All, Some, None, Option, ◌==◌, nat_lt, slice_index}
use Rattle.std.specs.List.{list_any}
use Rattle.std.specs.Option.{option_map}
use Rattle.record.specs.declared.quote.Quote.{Quote}
use Rattle.market.specs.declared.fault.RowFault.{RowFault}
use Rattle.market.specs.declared.fault.RowFault.TheVariants.{Code, Run, Price}
use Rattle.market.specs.Limits.{WithinLimits, KeepsPace, first_fault}

-- a run's prices alone
abbrev pub prices : List Quote → List ℕ
prices run = map (λ (q : Quote). q.price) run

-- the run holds a price of another issue
abbrev pub holds_other : ℕ → List Quote → Bool
holds_other code run = list_any (λ (q : Quote). not (q.code == code)) run

-- the run has not 2 to 121 prices, or holds another issue
abbrev pub bad_run : ℕ → List Quote → Bool
bad_run code run = nat_lt (length run) 2 || nat_lt 121 (length run) || holds_other code run

-- no row is made for code 0, then of a bad run, then where a price is at fault, oldest first
abbrev pub row_denial : ℕ → List Quote → Option RowFault
row_denial code run =
    if code == 0 then Some Code
    else if bad_run code run then Some Run
    else option_map (Price code) (first_fault None (prices run))

-- a row as its users see it: an issue's code, and its prices, oldest first
pub record PriceRow : Type 0 where
  pub code : ℕ
  pub prices : List ℕ

-- every row has 2 to 121 prices, within their limits, none above twice the one before it
pub record IsRow (row : PriceRow) : Type 0 where
  pub coded : 1 ≤ row.code
  pub count : (2 ≤ length row.prices) × (length row.prices ≤ 121)
  pub limits : All WithinLimits row.prices
  pub pace : KeepsPace row.prices

-- the newest price of a row
abbrev pub newest : List ℕ → ℕ
newest row = slice_index row (length row - 1)

-- the latest of a list, at most so many
abbrev pub latest : {X : Type 0} → ℕ → List X → List X
latest most xs = drop (length xs - most) xs
