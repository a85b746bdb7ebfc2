use Rattle.std.proofs.Common.{map, sym, ap, ◌∙◌}
use Rattle.std.proofs.lemmas.Result.{err_from_is_err_and}
use Rattle.figure.specs.Refusal.{denial}
use Rattle.market.specs.Moves.{parts}
use Rattle.market.proofs.Moving.{ratios_count}
use Rattle.statement.proofs.moves.covering_move.Goals as goal

pub returns-in_err-cover : goal.returns-in_err-cover
returns-in_err-cover c =
    let p = err_from_is_err_and c.from_residual-in_err-cover.result c.from_residual-in_err-cover.ensures.1 in
    let count = ratios_count c.args.prices.now c.deref.result.now (ap (map parts) c.deref.ensures.value ∙ c.in_ok-ratios.ensures) in
    rw (p.1, p.2) (ap (denial 99) (sym count) ∙ c.in_err-cover.ensures.answer)
