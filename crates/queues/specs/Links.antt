-- Queues of frames, linked both ways. A node is a frame, 0 to 255, or the end mark 256 + q of the queue q. From its end
-- mark the links of a queue lead through its frames, in order, to the end mark again.
use Rattle.std.specs.Prelude.{◌≡◌, ℕ, zero, suc, ◌+◌, ◌<◌, ◌≤◌, cond, List, [], ◌∷◌, ◌++◌, length, map, Some, None, Option, IfSome, ◌==◌, nat_lt, slice_index, slice_index_or}
use Rattle.frames.specs.Held.{times_in}

-- the frames from a node on, up to an end mark, and at most n of them
unfoldable pub walk : ℕ → List ℕ → ℕ → List ℕ
walk zero next node = []
walk (suc n) next node = cond (nat_lt node 256) (node ∷ walk n next (slice_index next node)) []

-- the frames of the queue q
abbrev pub list_of : List ℕ → ℕ → List ℕ
list_of next q = walk 256 next (slice_index next (256 + q))

-- node i of a queue, from its end mark, at 0, to its end mark again
abbrev pub node_at : List ℕ → ℕ → ℕ → ℕ
node_at xs q i = slice_index ((256 + q) ∷ (xs ++ ((256 + q) ∷ []))) i

-- each frame stands once in the queue that the table `place` names, and in no other
abbrev pub Placed : List ℕ → List ℕ → Type 0
Placed next place = (q f : ℕ) → q < 5 → times_in f (list_of next q) ≡ cond (slice_index_or place f 5 == q) 1 0

-- the links lead from each node of a queue to the one behind it
abbrev pub Forward : List ℕ → Type 0
Forward next = (q i : ℕ) → (q < 5) × (i ≤ length (list_of next q))
    → slice_index next (node_at (list_of next q) q i) ≡ node_at (list_of next q) q (suc i)

-- and back to the one before it
abbrev pub Backward : List ℕ → List ℕ → Type 0
Backward next prev = (q i : ℕ) → (q < 5) × (i ≤ length (list_of next q))
    → slice_index prev (node_at (list_of next q) q (suc i)) ≡ node_at (list_of next q) q i

-- the number of the queue in which a frame stands, or 5 for a frame in none
abbrev pub number_in : Option ℕ → ℕ
number_in None = 5
number_in (Some q) = q

-- What is true of the links from node to node, the links back, the queue of each frame, and the number of the queue that is
-- Q00 at present.
pub record IsLinked (next prev : List ℕ) (place : List (Option ℕ)) (first : ℕ) : Type 0 where
  pub next_long : length next ≡ 261
  pub prev_long : length prev ≡ 261
  pub long : length place ≡ 256
  pub named : first < 5
  -- a frame's queue is one of the five
  pub of_five : (f : ℕ) → IfSome (slice_index_or place f None) (λ q. q < 5)
  pub placed : Placed next (map number_in place)
  pub forward : Forward next
  pub backward : Backward next prev
