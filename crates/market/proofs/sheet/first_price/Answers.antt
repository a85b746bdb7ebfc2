use Rattle.std.proofs.Common.{List, ℕ, rules}
use Rattle.std.specs.Iterator.Runs.{ItemsMapTo}
use Rattle.market.specs.Sheet.{price_in, whole_records}
use Rattle.market.proofs.Found.{first_given}
use Rattle.market.proofs.sheet.first_price.Goals as goal

pub returns : goal.returns
returns c =
    let run = c.find_map.ensures.runs in
    let records : List (List ℕ) = whole_records c.args.bytes.now in
    let items : ItemsMapTo run.0 (λ r. r.now) records = search (rules, c.iter.ensures.runs) in
    first_given (λ r. r.now) (λ r. price_in r c.args.code) _ _ (λ a r q called. search rules) run.0 records _ items run.2
