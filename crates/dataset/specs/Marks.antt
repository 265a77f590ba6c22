-- The marks of slots, and the numbers by which an area tells them.
use Rattle.std.specs.Prelude.{ℕ, Ok, Err, Result, if◌then◌else◌, ◌==◌}
use Rattle.dataset.specs.declared.mark.Mark.{Mark}
use Rattle.dataset.specs.declared.mark.Mark.TheVariants.{Blank, Written, Bad}
use Rattle.dataset.specs.declared.mark.UnknownMark.{UnknownMark}

abbrev pub number_of : Mark → ℕ
number_of Blank = 0
number_of Written = 1
number_of Bad = 2

-- The mark that a number tells: a number over 2 tells none.
abbrev pub mark_from : ℕ → Result Mark UnknownMark
mark_from n =
    if n == 0 then Ok Blank else (if n == 1 then Ok Written else (if n == 2 then Ok Bad else Err (record { 0 = n })))
