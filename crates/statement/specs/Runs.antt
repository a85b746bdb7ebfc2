-- What a listing makes of the run of prices before it.
use Rattle.std.specs.Prelude.{◌≡◌, ℕ, not, List, map, length, find, Some, None, Ok, Err, Option, Result, ◌==◌}
use Rattle.record.specs.declared.quote.Quote.{Quote}
use Rattle.market.specs.Rows.{prices}
use Rattle.statement.specs.declared.runs.ListedRow.{ListedRow}
use Rattle.statement.specs.declared.runs.NoRow.{NoRow}
use Rattle.statement.specs.declared.runs.NoRow.TheVariants.{OtherIssue, NoCoveringMove, Memory}
use Rattle.statement.specs.Movement.{IsCoveringMove}

-- the first code of the run other than the given one
abbrev pub other_issue : ℕ → List Quote → Option ℕ
other_issue code run = find (λ c. not (c == code)) (map (λ (q : Quote). q.code) run)

-- what a listing of a code makes of the run before it; want of memory can come of any run
abbrev pub Listed : List Quote → ℕ → Result ListedRow NoRow → Type 0
Listed run code (Ok row) =
    (other_issue code run ≡ None) × (row.prices ≡ length run) × IsCoveringMove (prices run) (Ok row.covering)
Listed run code (Err (OtherIssue other)) = other_issue code run ≡ Some other
Listed run code (Err (NoCoveringMove count cause)) =
    (other_issue code run ≡ None) × (count ≡ length run) × IsCoveringMove (prices run) (Err cause)
Listed run code (Err (Memory e)) = Unit {0}
