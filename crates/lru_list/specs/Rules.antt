-- The policy by recency: the frames in the order of their use, the one used last at the end.
use Rattle.std.specs.Prelude.{ℕ, cond, ◌&&◌, List, [], ◌∷◌, ◌++◌, Some, None, ◌==◌, nat_lt}
use Rattle.frames.specs.Held.{times_in, without, Once}
use Rattle.frames.specs.Policy.{Rules, Took}

-- a new frame stands last; any other changes nothing
abbrev pub entered : List ℕ → ℕ → List ℕ
entered xs f = cond (nat_lt f 256 && times_in f xs == 0) (xs ++ (f ∷ [])) xs

-- a held frame goes to the end; any other changes nothing
abbrev pub touched : List ℕ → ℕ → List ℕ
touched xs f = cond (times_in f xs == 1) (without f xs ++ (f ∷ [])) xs

-- the first frame is taken, and the keys are kept
abbrev pub taken : List ℕ → List ℕ → Took (List ℕ)
taken [] keys = record { frame = None; keys = keys; left = [] }
taken (f ∷ xs) keys = record { frame = Some f; keys = keys; left = xs }

abbrev pub lru_rules : Rules (List ℕ)
lru_rules = record {
  good = Once;
  times = λ xs f. times_in f xs;
  enter = entered;
  return_frame = λ xs f referred changed. entered xs f;
  leave = λ xs f. without f xs;
  touch = touched;
  clear = λ xs. [];
  take = taken;
}
