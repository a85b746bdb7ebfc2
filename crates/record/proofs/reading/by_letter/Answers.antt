use Rattle.std.proofs.Common.{rules}
use Rattle.record.proofs.reading.by_letter.Goals as goal
use Rattle.record.proofs.reading.by_letter.Goals.{in-80, in-76, in-79, in-66, in-83, in-75}

pub returns-clause-answer : goal.returns-clause-answer
returns-clause-answer c =
    elim c.match-letter.branch [
      | in-80 w ↦ search rules
      | in-76 w ↦ search rules
      | in-79 w ↦ search rules
      | in-66 w ↦ search rules
      | in-83 w ↦ search rules
      | in-75 w ↦ search rules
    ]
