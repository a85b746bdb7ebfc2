use Rattle.std.proofs.Common.{arith}
use Rattle.market.proofs.Moving.{ratios_count}
use Rattle.market.proofs.row.Row.ratios.Goals as goal

pub returns-clause-count : goal.returns-clause-count
returns-clause-count c =
    let size = ratios_count _ _ c.args.self.now.moved in
    (omega arith, omega arith)
