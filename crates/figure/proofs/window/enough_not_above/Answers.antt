use Rattle.std.proofs.Common.{◌≡◌, arith, rules}
use Rattle.figure.specs.Choice.{enough_upto}
use Rattle.figure.proofs.Bounding.{enough_exactly_from_cover}
use Rattle.figure.proofs.window.enough_not_above.Goals as goal

pub returns-clause-bounded_by_cover : goal.returns-clause-bounded_by_cover
returns-clause-bounded_by_cover g c =
    let window = c.args.window.now in
    let made = c.in_ok-coverage.ensures.made in
    let tested : c.is_reached_by.result ≡ enough_upto g.F.Figure.upto window c.args.percent c.args.figure.now = search rules in
    rw tested (enough_exactly_from_cover g.met.F.Figure.ordered window c.args.percent (omega arith) (omega arith) c.args.figure.now)
