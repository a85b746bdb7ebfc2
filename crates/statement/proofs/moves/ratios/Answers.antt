use Rattle.std.proofs.Common.{◌≡◌, ◌+◌, ◌-◌, ◌<◌, length, get_or, take, drop, rules, arith, length-drop, ◌∙◌, ap}
use Rattle.std.proofs.lemmas.List.{take_all, get_or-drop}
use Rattle.std.proofs.lemmas.Result.{err_from_is_err_and}
use Rattle.statement.specs.declared.moves.NoMove.TheVariants.{ZeroPrice}
use Rattle.market.specs.Moves.{moves, move_between, parts}
use Rattle.market.proofs.Moving.{length-moves}
use Rattle.statement.proofs.Moving.{ratios_more}
use Rattle.statement.proofs.moves.ratios.Goals as goal

pub returns-in_err-ratio : goal.returns-in_err-ratio
returns-in_err-ratio c =
    let ps = c.args.prices.now in
    let p = err_from_is_err_and c.from_residual.result c.from_residual.ensures.1 in
    let cause : c.in_err-ratio.field-0.0 ≡ ZeroPrice = search rules in
    let zero : c.loop-later.earlier ≡ 0 = search rules in
    let rest : take (length ps - 1) (drop 1 ps) ≡ drop 1 ps = search (rules, take_all) in
    rw (p.1, p.2, cause) (c.loop-later.later-index, omega (arith, rw rest at c.loop-later-test.true, length-drop 1 ps), rw (← c.loop-later.invariant.before) zero)

pub loop-later-preserved : goal.loop-later-preserved
loop-later-preserved c =
    let ps = c.args.prices.now in
    let k = c.loop-later.later-index in
    let rest : take (length ps - 1) (drop 1 ps) ≡ drop 1 ps = search (rules, take_all) in
    let within : k + 1 < length ps = omega (arith, rw rest at c.loop-later-test.true, length-drop 1 ps) in
    let next : get_or (take (length ps - 1) (drop 1 ps)) k 0 ≡ get_or ps (k + 1) 0 = rw rest (get_or-drop 1 ps k 0 ∙ ap (λ i. get_or ps i 0) (omega arith)) in
    let moved : parts c.in_ok-ratio.ratio ≡ move_between (get_or ps k 0) (get_or ps (k + 1) 0) = rw (← next, ← c.loop-later.invariant.before) (search rules) in
    record {
      so_far = rw c.in_ok-push.ensures.items (ratios_more ps c.loop-later.ratios.items c.in_ok-ratio.ratio k within moved c.loop-later.invariant.so_far);
      before = next;
    }

pub returns : goal.returns
returns c =
    let ps = c.args.prices.now in
    let rest : take (length ps - 1) (drop 1 ps) ≡ drop 1 ps = search (rules, take_all) in
    c.loop-later.invariant.so_far ∙ take_all c.loop-later.later-index (moves ps) (omega (arith, rw rest at c.loop-later-test.false, length-drop 1 ps, length-moves ps))
