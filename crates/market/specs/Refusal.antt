-- The numbers and values of what the market refuses.
use Rattle.std.specs.Prelude.{ℕ, Some, None, Option}
use Rattle.figure.specs.Refusal.{fault_number}
use Rattle.market.specs.declared.fault.MarketFault.{MarketFault}
use Rattle.market.specs.declared.fault.MarketFault.TheVariants.{Figure, Code, Price, NotDesignated, Full, Memory}

-- the refusal's number; want of memory has none, since no input is at fault
abbrev pub market_number : MarketFault → Option ℕ
market_number (Figure fault) = Some (fault_number fault)
market_number (Code code) = Some 15
market_number (Price code) = Some 18
market_number (NotDesignated code) = Some 20
market_number Full = Some 29
market_number Memory = None

-- the code that the refusal names
abbrev pub market_code : MarketFault → Option ℕ
market_code (Figure fault) = None
market_code (Code code) = Some code
market_code (Price code) = Some code
market_code (NotDesignated code) = Some code
market_code Full = None
market_code Memory = None
