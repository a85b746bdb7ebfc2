-- The limits of a price, and what is wrong with one that is to follow another.
use Rattle.std.specs.Prelude.{ℕ, ◌*◌, ◌≤◌, Bool, false, if◌then◌else◌, ◌||◌, List, [], ◌∷◌, length, Some, None, Option, nat_lt}
use Rattle.std.specs.List.{AllAdjacentBelow}
use Rattle.std.specs.Option.{option_or}
use Rattle.market.specs.declared.fault.PriceFault.{PriceFault}
use Rattle.market.specs.declared.fault.PriceFault.TheVariants.{OutsideLimits, AboveTwice}

-- a price is 1 to 800,000 yen
abbrev pub WithinLimits : ℕ → Type 0
WithinLimits price = (1 ≤ price) × (price ≤ 800000)

abbrev pub outside_limits : ℕ → Bool
outside_limits price = nat_lt price 1 || nat_lt 800000 price

-- the price is more than twice the former one, if there is a former one
abbrev pub above_twice : Option ℕ → ℕ → Bool
above_twice None price = false
above_twice (Some former) price = nat_lt (2 * former) price

-- no price is more than twice the one before it
abbrev pub KeepsPace : List ℕ → Type 0
KeepsPace prices = AllAdjacentBelow (λ former price. price ≤ 2 * former) prices (length prices)

-- what is wrong with a price behind a former one: its limits are tested first
abbrev pub price_fault : Option ℕ → ℕ → Option PriceFault
price_fault former price =
    if outside_limits price then Some OutsideLimits
    else if above_twice former price then Some AboveTwice
    else None

-- the first fault of prices that follow one another, from the oldest
abbrev pub first_fault : Option ℕ → List ℕ → Option PriceFault
first_fault former [] = None
first_fault former (price ∷ prices) =
    option_or (price_fault former price) (first_fault (Some price) prices)
