use Rattle.std.proofs.Common.{arith, sym, ◌≡◌}
use Rattle.market.specs.Moves.{move_between, parts}
use Rattle.market.specs.Rows.{newest}
use Rattle.market.specs.View.{row_of}
use Rattle.market.proofs.Moving.{ratios_count}
use Rattle.market.proofs.Sliding.{IsRow-slid, ratios_slid}
use Rattle.market.proofs.row.Row.roll.Goals as goal

pub slide-requires-2-clause-few : goal.slide-requires-2-clause-few
slide-requires-2-clause-few c = omega (arith, ratios_count _ _ c.args.self.now.moved)

pub invariant_of-self-clause-kept : goal.invariant_of-self-clause-kept
invariant_of-self-clause-kept c =
    rw c.slide.ensures.items (IsRow-slid (row_of c.args.self.now) c.args.self.now.kept c.args.price (sym c.in_ok-test.ensures))

pub invariant_of-self-clause-moved : goal.invariant_of-self-clause-moved
invariant_of-self-clause-moved c =
    let row = row_of c.args.self.now in
    let ratio : parts c.ratio_between-ratio.result ≡ move_between (newest row.prices) c.args.price = rw (← c.newest.ensures) c.ratio_between-ratio.ensures in
    rw (c.slide.ensures.items, c.slide-2.ensures.items)
    (ratios_slid row c.args.self.now.kept c.args.price (sym c.in_ok-test.ensures) _ _ ratio c.args.self.now.moved)
