-- How a pair is printed.
use Rattle.std.specs.Prelude.{ℕ, List, ◌∷◌, ◌++◌}
use Rattle.std.specs.Fmt.{decimal}
use Rattle.translation.specs.declared.pair.Pair.{Pair}

-- As 8:4096, the page and where its frame starts.
abbrev pub pair_text : Pair → List ℕ
pair_text p = decimal p.page ++ (58 ∷ decimal p.start)
