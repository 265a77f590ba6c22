-- The line that shows the pairs of a translator, layer by layer.
use Rattle.std.specs.Prelude.{ℕ, Bool, false, ◌||◌, if◌then◌else◌, List, [], ◌∷◌, ◌++◌, codes, length, nat_lt}
use Rattle.listing.specs.Lines.{listed}
use Rattle.translation.specs.declared.pair.Pair.{Pair}
use Rattle.translation.specs.Printed.{pair_text}

-- The pairs of some layers, the upper first: what the first layer starts with, and ` /` in front of each further one.
abbrev pub layers_text : List ℕ → List (List Pair) → List ℕ
layers_text start [] = []
layers_text start (pairs ∷ below) = listed pair_text start pairs ++ layers_text (codes " /") below

-- Whether any layer has a pair.
abbrev pub any_pair : List (List Pair) → Bool
any_pair [] = false
any_pair (pairs ∷ below) = nat_lt 0 (length pairs) || any_pair below

-- The line: the word alone where there is no pair.
abbrev pub pairs_line : List (List Pair) → List ℕ
pairs_line layers = if any_pair layers then codes "PAIRS" ++ layers_text [] layers else codes "PAIRS"
