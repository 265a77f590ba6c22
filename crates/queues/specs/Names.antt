-- The names of the five queues. The queues have numbers, 0 to 4; the names go round them.
use Rattle.std.specs.Prelude.{ℕ, ◌+◌, ◌%◌, List, [], ◌∷◌, Some, None, Option, codes}
use Rattle.queues.specs.declared.queue.Queue.{Queue}
use Rattle.queues.specs.declared.queue.Queue.TheVariants.{Q00, Q01, Q10, Q11, Hq}
use Rattle.queues.specs.Five.{Five}

-- the names in order
abbrev pub number_of : Queue → ℕ
number_of Q00 = 0
number_of Q01 = 1
number_of Q10 = 2
number_of Q11 = 3
number_of Hq = 4

-- the names as they are printed
abbrev pub name_of : Queue → List ℕ
name_of Q00 = codes "Q00"
name_of Q01 = codes "Q01"
name_of Q10 = codes "Q10"
name_of Q11 = codes "Q11"
name_of Hq = codes "HQ"

-- the frames of the queue with a name
abbrev pub frames_of : Five → Queue → List ℕ
frames_of m Q00 = m.q00
frames_of m Q01 = m.q01
frames_of m Q10 = m.q10
frames_of m Q11 = m.q11
frames_of m Hq = m.hq

-- the head of a queue
abbrev pub head_of : List ℕ → Option ℕ
head_of [] = None
head_of (f ∷ fs) = Some f

-- the five queues, where the one with the number `first` is Q00 at present, and the others follow in the order of the names
abbrev pub named : (ℕ → List ℕ) → ℕ → Five
named lists first = record {
  q00 = lists ((first + 0) % 5);
  q01 = lists ((first + 1) % 5);
  q10 = lists ((first + 2) % 5);
  q11 = lists ((first + 3) % 5);
  hq = lists ((first + 4) % 5);
}
