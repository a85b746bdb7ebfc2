use Rattle.std.proofs.Common.{◌≡◌, ℕ, rules, drop, arith}
use Rattle.std.proofs.lemmas.List.{take_all}
use Rattle.std.proofs.lemmas.Grind.{common_steps}
use Rattle.std.proofs.lemmas.Iterator.{YieldsList-from_slice, YieldsList-from_map_by, YieldsList-from_zip}
use Rattle.std.proofs.lemmas.Iterator.Consumers.{YieldsList-at}
use Rattle.market.specs.Moves.{move_between, parts}
use Rattle.market.proofs.Moving.{seen_from_extend}
use Rattle.market.proofs.making.ratios_of.Goals as goal

pub returns : goal.returns
returns c =
    let behind : c.zip.result.b.rest.now ≡ drop 1 c.args.prices.now = search (rules, take_all) in
    let pairs = YieldsList-at c.map.ensures.source
    (YieldsList-from_zip (YieldsList-from_slice c.args.prices.now cc) (YieldsList-from_slice (drop 1 c.args.prices.now) behind)) in
    let h = seen_from_extend parts c.extend.result c.extend.ensures.ran
    (YieldsList-from_map_by _ parts (λ (pair : ℕ × ℕ). move_between pair.0 pair.1) pairs c.map.ensures.closure (λ x r q k. search rules)) in
    grind (arith, common_steps, h, c.in_ok-ratios.ensures.items, c.in_ok-ratios.ensures.exact)
