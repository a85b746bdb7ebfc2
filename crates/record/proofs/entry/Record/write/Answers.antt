use Rattle.std.proofs.Common.{arith, ap, ◌∙◌}
use Rattle.record.specs.WellFormed.{reading}
use Rattle.record.proofs.Spelled.{reading-spelled}
use Rattle.record.proofs.entry.Record.write.Goals as goal

pub returns-clause-reads_back : goal.returns-clause-reads_back
returns-clause-reads_back c =
    let spelled = reading-spelled c.letter.result c.fields.result (omega arith) (omega arith) (omega arith) (omega arith) (omega arith) in
    ap reading c.spell.ensures ∙ spelled ∙ rw c.letter.ensures c.fields.ensures.reads_back
