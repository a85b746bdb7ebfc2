-- What a designated list shows of itself.
use Rattle.std.specs.Prelude.{List}
use Rattle.record.specs.declared.quote.Quote.{Quote}
use Rattle.market.specs.declared.designated.DesignatedList.{DesignatedList}
use Rattle.market.specs.Designation.{Prices, prices_by_code}

abbrev pub quotes_of : DesignatedList → List Quote
quotes_of list = list.quotes.items

-- its prices, by their codes
abbrev pub prices_of : DesignatedList → Prices
prices_of list = prices_by_code (quotes_of list)
