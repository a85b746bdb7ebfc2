use Rattle.std.proofs.Common.{◌≡◌, length, get_or, drop, ap, ◌∙◌, arith}
use Rattle.std.proofs.lemmas.List.{take_rest, length-drop, drop-drop}
use Rattle.record.specs.Layout.{fields_at}
use Rattle.record.specs.WellFormed.{by_letter}
use Rattle.record.proofs.entry.Record.read.Goals as goal

pub returns-clause-answer : goal.returns-clause-answer
returns-clause-answer c =
    let bytes = c.args.bytes.now in
    let got = c.in_ok-fields.ensures.answer in
    let rest = take_rest bytes 4 in
    let size : length bytes ≡ 32 = omega (arith, got.0, ap length rest, length-drop 4 bytes) in
    let behind : fields_at (drop 4 bytes) 0 ≡ fields_at bytes 4 = simp drop-drop in
    let one : get_or bytes 1 0 ≡ 0 = omega arith in
    let two : get_or bytes 2 0 ≡ 0 = omega arith in
    let three : get_or bytes 3 0 ≡ 0 = omega arith in
    rw (size, one, two, three) (c.by_letter.ensures.answer ∙ ap (by_letter (get_or bytes 0 0)) (got.1 ∙ ap (λ r. fields_at r 0) rest ∙ behind))
