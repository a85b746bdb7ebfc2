use Rattle.std.proofs.Common.{arith, ap, sym, ◌∙◌}
use Rattle.std.proofs.lemmas.List.{drop-drop}
use Rattle.record.specs.Writing.{field_bytes}
use Rattle.record.proofs.Spelled.{whole}
use Rattle.record.proofs.fields.Fields.from_rest.Goals as goal

pub returns-clause-answer : goal.returns-clause-answer
returns-clause-answer c =
    let code = c.in_ok-code.ensures.cases in
    let date = c.in_ok-date.ensures.cases in
    let units = c.in_ok-units.ensures.cases in
    let money = c.in_ok-money.ensures.cases in
    let spare = c.in_ok-spare.ensures.cases in
    let rest = c.args.rest.now in
    (omega arith, cc (drop-drop 4 4 rest, drop-drop 4 8 rest, drop-drop 8 12 rest))

pub returns-clause-only_spelling : goal.returns-clause-only_spelling
returns-clause-only_spelling c =
    let all = returns-clause-answer c in
    whole c.args.rest.now (λ i. omega (arith, c.type_inv.rest i)) all.0 ∙ ap field_bytes (sym all.1)
