use Rattle.std.proofs.Common.{◌≡◌, drop, None}
use Rattle.market.specs.Limits.{first_fault}
use Rattle.market.specs.Rows.{prices}
use Rattle.market.proofs.making.check_prices.Given as goal

-- the run has the first fault of what is left of it
abbrev pub invariant-loop-quote : goal.invariant-loop-quote
invariant-loop-quote l =
    first_fault l.former (prices (drop l.quote-index l.run)) ≡ first_fault None (prices l.run)
