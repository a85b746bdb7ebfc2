use Rattle.std.proofs.Common.{sym}
use Rattle.market.proofs.Runs.{IsRow-from_run}
use Rattle.market.proofs.row.Row.new.Goals as goal

pub ratios_of-requires-clause-limits : goal.ratios_of-requires-clause-limits
ratios_of-requires-clause-limits c =
    let row = IsRow-from_run c.args.code c.args.run.now (sym c.in_ok-check_run.ensures) in
    rw (c.deref.ensures.value, c.in_ok-prices.ensures.items) row.limits

pub invariant_of-result-clause-kept : goal.invariant_of-result-clause-kept
invariant_of-result-clause-kept c =
    rw c.in_ok-prices.ensures.items (IsRow-from_run c.args.code c.args.run.now (sym c.in_ok-check_run.ensures))
