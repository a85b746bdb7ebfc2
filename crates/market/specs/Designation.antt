-- What a designated list holds, and which refusals are due when a price is set or removed.
use Rattle.std.specs.Prelude.{◌≢◌, ◌≤◌, ℕ, if◌then◌else◌, not, ◌&&◌, List, map, length, Some, None, Option, AllPairs, ◌==◌, nat_le}
use Rattle.std.specs.Ordering.{nat_cmp}
use Rattle.std.specs.FinMap.{FinMap, contains_key, len, from_entries}
use Rattle.record.specs.declared.quote.Quote.{Quote}
use Rattle.market.specs.declared.fault.MarketFault.{MarketFault}
use Rattle.market.specs.declared.fault.MarketFault.TheVariants.{Code, Price, NotDesignated, Full}
use Rattle.market.specs.Limits.{outside_limits}

-- the prices of the designated issues, by their codes
abbrev pub Prices : Type 0
Prices = FinMap nat_cmp ℕ

-- the prices that quotes give their codes
abbrev pub prices_by_code : List Quote → Prices
prices_by_code quotes = from_entries (map (λ q. (q.code, q.price)) quotes)

-- the quotes of a list: at most 16, and no issue twice
pub record Designates (quotes : List Quote) : Type 0 where
  pub few : length quotes ≤ 16
  pub once : AllPairs (λ p q. p.code ≢ q.code) quotes

-- a designated price is refused for code 0, then for its limits, then where 16 other issues are designated
abbrev pub set_denial : Prices → ℕ → ℕ → Option MarketFault
set_denial prices code price =
    if code == 0 then Some (Code code)
    else if outside_limits price then Some (Price code)
    else if not (contains_key prices code) && nat_le 16 (len prices) then Some Full
    else None

-- removing a price is refused where the issue is not designated
abbrev pub remove_denial : Prices → ℕ → Option MarketFault
remove_denial prices code = if contains_key prices code then None else Some (NotDesignated code)
