-- Runs of a page store, and what they leave, told by the calls alone.
use Rattle.std.specs.Prelude.{◌≡◌, ℕ, cond, ◌&&◌, List, [], ◌∷◌, length, Some, None, vec_items, Option, ◌==◌}
use Rattle.std.specs.Option.{unwrap_or}
use Rattle.pages.specs.declared.call.Call.{Call}
use Rattle.pages.specs.declared.call.Call.TheVariants.{Read, Write}
use Rattle.pages.specs.Store.{Rules, refusal_at, read_into, written, Usable}

-- The store that a call leaves, by the rules of its kind.
abbrev pub step_of : {M : Type 0} → Rules M → Call → M → M
step_of r (Read k) m = m
step_of r (Write k page) m = written r m k (vec_items page) (refusal_at r m k (length (vec_items page)))

abbrev pub run_of : {M : Type 0} → Rules M → List Call → M → M
run_of r [] m = m
run_of r (c ∷ cs) m = run_of r cs (step_of r c m)

-- The buffer that a call leaves: an answered read's slot, and any other call's as it was.
abbrev pub buffer_of : {M : Type 0} → Rules M → Call → M → List ℕ → List ℕ
buffer_of r (Read k) m buffer = read_into r m k buffer (refusal_at r m k (length buffer))
buffer_of r (Write k page) m buffer = buffer

abbrev pub run_buffer : {M : Type 0} → Rules M → List Call → M → List ℕ → List ℕ
run_buffer r [] m buffer = buffer
run_buffer r (c ∷ cs) m buffer = run_buffer r cs (step_of r c m) (buffer_of r c m buffer)

-- The page that a call writes to a slot: none unless it has 2,048 bytes.
abbrev pub writes : Call → ℕ → Option (List ℕ)
writes (Read j) k = None
writes (Write j page) k = cond (j == k && length (vec_items page) == 2048) (Some (vec_items page)) None

-- The later of two pages.
abbrev pub later : Option (List ℕ) → Option (List ℕ) → Option (List ℕ)
later first None = first
later first (Some page) = Some page

-- The last page that a list of calls writes to a slot, told by the calls alone.
abbrev pub last_written : List Call → ℕ → Option (List ℕ)
last_written [] k = None
last_written (c ∷ cs) k = later (writes c k) (last_written cs k)

-- What a run leaves: the number of slots, which of them are bad, and in each good slot the last page written to it, or
-- the page that it held at the start.
pub record Kept {M : Type 0} (r : Rules M) (calls : List Call) (before after : M) : Type 0 where
  pub count : r.count after ≡ r.count before
  pub bad : (k : ℕ) → r.bad after k ≡ r.bad before k
  pub slot : (k : ℕ) → Usable r before k → r.slot after k ≡ unwrap_or (last_written calls k) (r.slot before k)
