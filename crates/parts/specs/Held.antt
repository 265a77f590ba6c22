-- The lines that show which frames a policy holds.
use Rattle.std.specs.Prelude.{ℕ, List, ◌∷◌, ◌++◌, codes}
use Rattle.std.specs.Fmt.{decimal}
use Rattle.listing.specs.Lines.{listed}
use Rattle.queues.specs.declared.queue.Queue.{Queue}
use Rattle.queues.specs.declared.queue.Queue.TheVariants.{Q00, Q01, Q10, Q11, Hq}
use Rattle.queues.specs.Five.{Five}
use Rattle.queues.specs.Names.{frames_of, name_of}

-- A queue: its name, and its frames, the head first.
abbrev pub queue_line : Five → Queue → List ℕ
queue_line m q = listed decimal (name_of q) (frames_of m q)

-- The five queues, a line each, with a line feed between.
abbrev pub five_lines : Five → List ℕ
five_lines m =
    queue_line m Q00 ++ (10 ∷ (queue_line m Q01 ++ (10 ∷ (queue_line m Q10 ++ (10 ∷ (queue_line m Q11 ++ (10 ∷ queue_line m Hq)))))))

-- The LRU list, first to go first.
abbrev pub lru_line : List ℕ → List ℕ
lru_line frames = listed decimal (codes "LRU") frames
