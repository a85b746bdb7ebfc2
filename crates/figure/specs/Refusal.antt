-- When a cover is refused, and by which number.
use Rattle.std.specs.Prelude.{ℕ, if◌then◌else◌, ◌||◌, Some, None, Ok, Err, Option, Result, nat_lt}
use Rattle.figure.specs.declared.fault.FigureFault.{FigureFault}
use Rattle.figure.specs.declared.fault.FigureFault.TheVariants.{Percent, Window}

abbrev pub fault_number : FigureFault → ℕ
fault_number Percent = 27
fault_number Window = 28

-- a percent outside 1 to 100 is refused first, and then a window of more than 4,096 figures
abbrev pub denial : ℕ → ℕ → Option FigureFault
denial percent size =
    if nat_lt percent 1 || nat_lt 100 percent then Some Percent
    else if nat_lt 4096 size then Some Window
    else None

-- an answer, unless a refusal is due
abbrev pub unless : {R : Type 0} → Option FigureFault → R → Result R FigureFault
unless (Some fault) answer = Err fault
unless None answer = Ok answer
