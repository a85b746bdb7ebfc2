use Rattle.std.proofs.Common.{refl, ap, ◌∙◌, arith}
use Rattle.market.specs.Designation.{prices_by_code}
use Rattle.market.proofs.Designations.{set_denied, replaces, adds, one_more, counted_in_place, counted_behind}
use Rattle.market.proofs.designated.DesignatedList.set.Goals as goal

pub returns-in-None-clause-answer : goal.returns-in-None-clause-answer
returns-in-None-clause-answer c =
    set_denied c.args.self.now.quotes.items _ refl c.args.self.now.kept.once c.args.code c.args.price
    c.if-code-eq0.false c.if-is_outside_limits.ensures (omega arith) (cc)

pub returns-in-Some-clause-answer : goal.returns-in-Some-clause-answer
returns-in-Some-clause-answer c =
    (replaces c.args.self.now.quotes.items _ refl c.args.self.now.kept.once c.args.code c.args.price
    c.if-code-eq0.false c.if-is_outside_limits.ensures c.in-Some.place c.index_mut.result.now (cc) c.index_mut.ensures.value).0

pub returns-in-Some-clause-changed_at_the_code_alone : goal.returns-in-Some-clause-changed_at_the_code_alone
returns-in-Some-clause-changed_at_the_code_alone c =
    (replaces c.args.self.now.quotes.items _ refl c.args.self.now.kept.once c.args.code c.args.price
    c.if-code-eq0.false c.if-is_outside_limits.ensures c.in-Some.place c.index_mut.result.now (cc) c.index_mut.ensures.value).1

pub invariant_of-self-in-None-2 : goal.invariant_of-self-in-None-2
invariant_of-self-in-None-2 c = record {
  room = omega arith;
  kept = rw c.push_reserved.ensures.items (one_more c.args.self.now.quotes.items _ refl c.args.self.now.kept.once c.args.code c.args.price (omega arith) (cc));
}

pub returns-in-None-2-clause-answer : goal.returns-in-None-2-clause-answer
returns-in-None-2-clause-answer c =
    (adds c.args.self.now.quotes.items _ refl c.args.self.now.kept.once c.args.code c.args.price
    c.if-code-eq0.false c.if-is_outside_limits.ensures (omega arith) (cc)).0

pub returns-in-None-2-clause-changed_at_the_code_alone : goal.returns-in-None-2-clause-changed_at_the_code_alone
returns-in-None-2-clause-changed_at_the_code_alone c =
    ap prices_by_code c.push_reserved.ensures.items
    ∙ (adds c.args.self.now.quotes.items _ refl c.args.self.now.kept.once c.args.code c.args.price
    c.if-code-eq0.false c.if-is_outside_limits.ensures (omega arith) (cc)).1

pub returns-in-Some-clause-one_more_where_new : goal.returns-in-Some-clause-one_more_where_new
returns-in-Some-clause-one_more_where_new c =
    (counted_in_place c.args.self.now.quotes.items _ refl c.args.self.now.kept.once c.args.code c.in-Some.place _ (cc))

pub returns-in-None-2-clause-one_more_where_new : goal.returns-in-None-2-clause-one_more_where_new
returns-in-None-2-clause-one_more_where_new c =
    rw c.push_reserved.ensures.items (counted_behind c.args.self.now.quotes.items _ refl c.args.self.now.kept.once c.args.code _ (cc))
