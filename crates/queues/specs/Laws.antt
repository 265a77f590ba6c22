-- What is certain of Take, beyond its rule.
use Rattle.std.specs.Prelude.{◌≡◌, ℕ, zero, suc, ◌*◌, false, List, [], ◌∷◌, ◌++◌, Some, None, Option, ◌≢◌, slice_index}
use Rattle.frames.specs.Held.{times_in}
use Rattle.frames.specs.Keys.{referred, changed}
use Rattle.queues.specs.declared.queue.Queue.{Queue}
use Rattle.queues.specs.Five.{Five, times_held, size, dropped, turned, step, steps}
use Rattle.queues.specs.Names.{frames_of}

-- the frame that a step looks at, where Q00 and Q01 have these frames
abbrev pub looks_at : List ℕ → List ℕ → List ℕ
looks_at (f ∷ fs) gs = f ∷ []
looks_at [] (f ∷ fs) = f ∷ []
looks_at [] [] = []

-- the frame that the next step looks at, if it looks at one
abbrev pub looked_at : Five → List ℕ
looked_at m = looks_at m.q00 m.q01

-- one turn of the names more, where a step at these frames of Q00 and Q01 turns them
abbrev pub turns_from : List ℕ → List ℕ → ℕ → ℕ
turns_from (f ∷ fs) gs n = n
turns_from [] (f ∷ fs) n = n
turns_from [] [] n = suc n

-- the names turned so many times
abbrev pub turned_by : ℕ → Five → Five
turned_by zero m = m
turned_by (suc n) m = turned_by n (turned m)

-- what comes after a step: nothing, if it took a frame
abbrev pub unless : {A : Type 0} → Option ℕ → A → A → A
unless (Some f) stop more = stop
unless None stop more = more

-- the frames that Take looks at, in at most n steps
unfoldable pub looked : ℕ → Five → List ℕ → List ℕ
looked zero m keys = []
looked (suc n) m keys = looked_at m ++ unless (step m keys).frame [] (looked n (step m keys).left (step m keys).keys)

-- how often it turns the names
unfoldable pub turns : ℕ → Five → List ℕ → ℕ
turns zero m keys = 0
turns (suc n) m keys = unless (step m keys).frame 0 (turns_from m.q00 m.q01 (turns n (step m keys).left (step m keys).keys))

-- the queues without the frames of a list
abbrev pub keep : List ℕ → Five → Five
keep [] m = m
keep (f ∷ fs) m = dropped (keep fs m) f

-- The frame that is taken was looked at, after some steps that took none, with its reference bit off.
abbrev pub Unreferred : Five → List ℕ → Option ℕ → Type 0
Unreferred m keys None = Unit {0}
Unreferred m keys (Some f) =
    (n : ℕ) × ((steps n m keys).frame ≡ None) × (looked_at (steps n m keys).left ≡ f ∷ []) × (referred (slice_index (steps n m keys).keys f) ≡ false)

-- A frame stands in one queue, once, and in no other.
pub record InOne (m : Five) (f : ℕ) : Type 0 where
  pub queue : Queue
  pub there : times_in f (frames_of m queue) ≡ 1
  pub nowhere_else : (other : Queue) → (other ≢ queue) → times_in f (frames_of m other) ≡ 0

-- What Take does, where the queues and keys were m and keys, the answer is o, and the keys and queues are then keys' and left.
pub record TakeLaws (m : Five) (keys : List ℕ) (o : Option ℕ) (keys' : List ℕ) (left : Five) : Type 0 where
  -- the frame answered had its reference bit off when it was looked at
  pub unreferred : Unreferred m keys o
  -- no change bit is altered
  pub change_kept : (f : ℕ) → changed (slice_index keys' f) ≡ changed (slice_index keys f)
  -- each frame left is in exactly one queue
  pub in_one : (f : ℕ) → times_held m f ≡ 1 → (o ≢ Some f) → InOne left f
  -- the frames that were not looked at stand in the same queues and in the same order, but for the turns of the names
  pub order_kept : keep (looked (6 * size m) m keys) left ≡ turned_by (turns (6 * size m) m keys) (keep (looked (6 * size m) m keys) m)
