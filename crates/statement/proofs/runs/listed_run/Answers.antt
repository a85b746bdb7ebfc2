use Rattle.std.proofs.Common.{◌≡◌, None, rules}
use Rattle.market.specs.Rows.{prices}
use Rattle.statement.specs.Runs.{other_issue}
use Rattle.statement.proofs.runs.listed_run.Goals as goal

pub returns : goal.returns
returns c =
    let same : c.in_ok-prices.prices.items ≡ prices c.args.run.now = search rules in
    let none : other_issue c.args.code c.args.run.now ≡ None = search rules in
    search rules
