-- The rule of the five queues, over five lists of frames.
use Rattle.std.specs.Prelude.{◌≡◌, ℕ, zero, suc, ◌+◌, ◌*◌, ◌≤◌, Bool, true, false, cond, ◌&&◌, List, [], ◌∷◌, ◌++◌, length, Some, None, Option, ◌==◌, nat_lt, slice_index, slice_set}
use Rattle.frames.specs.Held.{times_in, without}
use Rattle.frames.specs.Keys.{referred, changed, reference_off}
use Rattle.frames.specs.Policy.{Rules, Took}
use Rattle.queues.specs.declared.queue.Queue.{Queue}
use Rattle.queues.specs.declared.queue.Queue.TheVariants.{Q00, Q01, Q10, Q11, Hq}

-- the five queues, the head of each first
pub record Five : Type 0 where
  pub q00 : List ℕ
  pub q01 : List ℕ
  pub q10 : List ℕ
  pub q11 : List ℕ
  pub hq : List ℕ

abbrev pub empty : Five
empty = record { q00 = []; q01 = []; q10 = []; q11 = []; hq = [] }

-- how often a frame is held
abbrev pub times_held : Five → ℕ → ℕ
times_held m f = times_in f m.q00 + times_in f m.q01 + times_in f m.q10 + times_in f m.q11 + times_in f m.hq

-- how many frames are held
abbrev pub size : Five → ℕ
size m = length m.q00 + length m.q01 + length m.q10 + length m.q11 + length m.hq

-- the queues without a frame
abbrev pub dropped : Five → ℕ → Five
dropped m f = record {
  q00 = without f m.q00;
  q01 = without f m.q01;
  q10 = without f m.q10;
  q11 = without f m.q11;
  hq = without f m.hq;
}

-- the queues with a frame at the tail of one of them
abbrev pub on : Queue → Five → ℕ → Five
on Q00 m f = record { q00 = m.q00 ++ (f ∷ []); q01 = m.q01; q10 = m.q10; q11 = m.q11; hq = m.hq }
on Q01 m f = record { q00 = m.q00; q01 = m.q01 ++ (f ∷ []); q10 = m.q10; q11 = m.q11; hq = m.hq }
on Q10 m f = record { q00 = m.q00; q01 = m.q01; q10 = m.q10 ++ (f ∷ []); q11 = m.q11; hq = m.hq }
on Q11 m f = record { q00 = m.q00; q01 = m.q01; q10 = m.q10; q11 = m.q11 ++ (f ∷ []); hq = m.hq }
on Hq m f = record { q00 = m.q00; q01 = m.q01; q10 = m.q10; q11 = m.q11; hq = m.hq ++ (f ∷ []) }

-- Q with these reference and change bits
abbrev pub queue_for : Bool → Bool → Queue
queue_for false false = Q00
queue_for false true = Q01
queue_for true false = Q10
queue_for true true = Q11

-- The names turn: Q10 becomes Q00, HQ becomes Q10, Q01 becomes HQ, Q11 becomes Q01, Q00 becomes Q11.
abbrev pub turned : Five → Five
turned m = record { q00 = m.q10; q10 = m.hq; hq = m.q01; q01 = m.q11; q11 = m.q00 }

-- the keys with the reference bit of a frame off
abbrev pub turned_off : List ℕ → ℕ → List ℕ
turned_off keys f = slice_set keys f (reference_off (slice_index keys f))

-- The head of Q00 was looked at, with these reference and change bits: with both off it is taken, else it goes to the tail
-- of Q01, Q10 or Q11.
abbrev pub seen_q00 : Bool → Bool → Five → List ℕ → ℕ → Took Five
seen_q00 false false m keys f = record { frame = Some f; keys = turned_off keys f; left = dropped m f }
seen_q00 false true m keys f = record { frame = None; keys = turned_off keys f; left = on Q01 (dropped m f) f }
seen_q00 true false m keys f = record { frame = None; keys = turned_off keys f; left = on Q10 (dropped m f) f }
seen_q00 true true m keys f = record { frame = None; keys = turned_off keys f; left = on Q11 (dropped m f) f }

-- The head of Q01 was looked at, with this reference bit: with it off it is taken, else it goes to the tail of Q11.
abbrev pub seen_q01 : Bool → Five → List ℕ → ℕ → Took Five
seen_q01 false m keys f = record { frame = Some f; keys = turned_off keys f; left = dropped m f }
seen_q01 true m keys f = record { frame = None; keys = turned_off keys f; left = on Q11 (dropped m f) f }

-- one step, at these frames of Q00 and Q01: a look at the head of Q00, or of Q01 where Q00 has none, or a turn of the names
abbrev pub step_at : List ℕ → List ℕ → Five → List ℕ → Took Five
step_at (f ∷ fs) gs m keys = seen_q00 (referred (slice_index keys f)) (changed (slice_index keys f)) m keys f
step_at [] (f ∷ fs) m keys = seen_q01 (referred (slice_index keys f)) m keys f
step_at [] [] m keys = record { frame = None; keys = keys; left = turned m }

-- one step of Take
abbrev pub step : Five → List ℕ → Took Five
step m keys = step_at m.q00 m.q01 m keys

-- the first of two results, if it has a frame, and else the second
abbrev pub first_of : Option ℕ → Took Five → Took Five → Took Five
first_of (Some f) one two = one
first_of None one two = two

-- at most n steps, up to one that takes a frame
unfoldable pub steps : ℕ → Five → List ℕ → Took Five
steps zero m keys = record { frame = None; keys = keys; left = m }
steps (suc n) m keys = first_of (step m keys).frame (step m keys) (steps n (step m keys).left (step m keys).keys)

-- Take: six steps for each frame held are enough
abbrev pub taken : Five → List ℕ → Took Five
taken m keys = steps (6 * size m) m keys

-- whether a frame can be entered
abbrev pub free_in : Five → ℕ → Bool
free_in m f = nat_lt f 256 && times_held m f == 0

-- each frame is held at most once, and is at most 255
abbrev pub Good : Five → Type 0
Good m = (f : ℕ) → (times_held m f ≤ 1) × (256 ≤ f → times_held m f ≡ 0)

abbrev pub five_rules : Rules Five
five_rules = record {
  good = Good;
  times = times_held;
  enter = λ m f. cond (free_in m f) (on Hq m f) m;
  return_frame = λ m f ref chg. cond (free_in m f) (on (queue_for ref chg) m f) m;
  leave = dropped;
  touch = λ m f. m;
  clear = λ m. empty;
  take = taken;
}
