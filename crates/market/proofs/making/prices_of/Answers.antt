use Rattle.std.proofs.Common.{rules}
use Rattle.std.proofs.lemmas.Iterator.{YieldsList-from_slice, YieldsList-from_map}
use Rattle.std.proofs.lemmas.Iterator.Adapters.{items_from_extend}
use Rattle.record.specs.declared.quote.Quote.{Quote}
use Rattle.market.proofs.making.prices_of.Goals as goal

pub returns : goal.returns
returns c =
    let h = items_from_extend c.extend.result c.extend.ensures.ran
    (YieldsList-from_map _ (λ (q : Quote). q.price) (YieldsList-from_slice c.args.run.now cc) c.map.ensures.closure (λ x r q k. search rules)) in
    search rules
