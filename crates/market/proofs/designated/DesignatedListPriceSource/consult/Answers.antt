use Rattle.std.proofs.Common.{refl}
use Rattle.market.proofs.Designations.{undesignated, priced}
use Rattle.market.proofs.designated.DesignatedListPriceSource.consult.Goals as goal

pub returns-in_default-clause-answer : goal.returns-in_default-clause-answer
returns-in_default-clause-answer c =
    let none = undesignated c.args.self.now.quotes.items _ refl c.args.self.now.kept.once c.args.code (cc) in
    rw none

pub returns-clause-answer : goal.returns-clause-answer
returns-clause-answer c =
    let price = priced c.args.self.now.quotes.items _ refl c.args.self.now.kept.once c.args.code c.in-Some.place c.index.result.now (cc) in
    rw (price, ← c.index.ensures)
