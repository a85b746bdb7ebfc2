use Rattle.std.proofs.Common.{refl, ap, ◌∙◌}
use Rattle.market.specs.Designation.{prices_by_code}
use Rattle.market.proofs.Designations.{remove_denied, removes}
use Rattle.market.proofs.designated.DesignatedList.remove.Goals as goal

pub returns-clause-answer : goal.returns-clause-answer
returns-clause-answer c = (removes c.args.self.now.quotes.items _ refl c.args.self.now.kept.once c.args.code c.in-Some.place (cc)).0

pub returns-clause-changed_at_the_code_alone : goal.returns-clause-changed_at_the_code_alone
returns-clause-changed_at_the_code_alone c =
    ap prices_by_code c.remove.ensures.items ∙ (removes c.args.self.now.quotes.items _ refl c.args.self.now.kept.once c.args.code c.in-Some.place (cc)).1

pub returns-in_default-clause-answer : goal.returns-in_default-clause-answer
returns-in_default-clause-answer c = remove_denied c.args.self.now.quotes.items _ refl c.args.self.now.kept.once c.args.code (cc)
