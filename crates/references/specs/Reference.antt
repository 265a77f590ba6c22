-- What a reference to a page leaves: a resident page's frame is touched, and any other page goes into a frame that is taken.
use Rattle.std.specs.Prelude.{ℕ, zero, suc, false, List, Some, None, Option, slice_index, slice_set}
use Rattle.frames.specs.Keys.{reference_on}
use Rattle.frames.specs.Policy.{Rules, Took}
use Rattle.recency.specs.Places.{place_of}

-- the policy, the storage keys, and the page in each frame
pub record State (M : Type 0) : Type 0 where
  pub held : M
  pub keys : List ℕ
  pub pages : List ℕ

-- the frames 1 to n are returned, in order, with reference and change bit off
abbrev pub returned : {M : Type 0} → Rules M → M → ℕ → M
returned r m zero = m
returned r m (suc n) = r.return_frame (returned r m n) (suc n) false false

-- a page that is in no frame: the frame that was taken holds it, and is entered
abbrev pub brought : {M : Type 0} → Rules M → ℕ → List ℕ → Took M → Option ℕ → State M
brought r page pages t (Some f) = record { held = r.enter t.left f; keys = slice_set t.keys f (reference_on 0); pages = slice_set pages f page }
brought r page pages t None = record { held = t.left; keys = t.keys; pages = pages }

-- a page that is in the frame f, or in none
abbrev pub referred_at : {M : Type 0} → Rules M → ℕ → M → List ℕ → List ℕ → Option ℕ → State M
referred_at r page m keys pages (Some f) = record { held = r.touch m f; keys = slice_set keys f (reference_on (slice_index keys f)); pages = pages }
referred_at r page m keys pages None = brought r page pages (r.take m keys) (r.take m keys).frame

-- a reference to a page
abbrev pub referred_to : {M : Type 0} → Rules M → ℕ → M → List ℕ → List ℕ → State M
referred_to r page m keys pages = referred_at r page m keys pages (place_of (λ x. x) page pages 0)
