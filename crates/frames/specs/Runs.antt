-- Lists of calls, and what their answers say of the frames held.
use Rattle.std.specs.Prelude.{◌≡◌, ℕ, ◌≤◌, Bool, true, false, cond, ◌&&◌, List, [], ◌∷◌, Some, None, ◌==◌}
use Rattle.frames.specs.declared.calls.Call.{Call}
use Rattle.frames.specs.declared.calls.Call.TheVariants.{Enter, Return, Leave, Touch, Empty, Take}
use Rattle.frames.specs.declared.calls.Answer.{Answer}
use Rattle.frames.specs.declared.calls.Answer.TheVariants.{Said, Done, Took as TookFrame}
use Rattle.frames.specs.Policy.{Rules, free, holds}

-- what a call answers and leaves
pub record Called (M : Type 0) : Type 0 where
  pub answer : Answer
  pub keys : List ℕ
  pub left : M

abbrev pub called_of : {M : Type 0} → Rules M → Call → M → List ℕ → Called M
called_of r (Enter f) m keys = record { answer = Said (free r m f); keys = keys; left = r.enter m f }
called_of r (Return f bits) m keys = record { answer = Said (free r m f); keys = keys; left = r.return_frame m f bits.referred bits.changed }
called_of r (Leave f) m keys = record { answer = Said (holds r m f); keys = keys; left = r.leave m f }
called_of r (Touch f) m keys = record { answer = Done; keys = keys; left = r.touch m f }
called_of r Empty m keys = record { answer = Done; keys = keys; left = r.clear m }
called_of r Take m keys = record { answer = TookFrame (r.take m keys).frame; keys = (r.take m keys).keys; left = (r.take m keys).left }

-- what a list of calls answers and leaves
pub record Ran (M : Type 0) : Type 0 where
  pub answers : List Answer
  pub left : M

abbrev pub run : {M : Type 0} → Rules M → List Call → M → List ℕ → Ran M
run r [] m keys = record { answers = []; left = m }
run r (c ∷ cs) m keys = record {
  answers = (called_of r c m keys).answer ∷ (run r cs (called_of r c m keys).left (called_of r c m keys).keys).answers;
  left = (run r cs (called_of r c m keys).left (called_of r c m keys).keys).left;
}

-- The frame g is held after a call, as the answer says, if it was held before or not.
abbrev pub held_after : ℕ → Bool → Call → Answer → Bool
held_after g was (Enter f) (Said told) = cond (g == f && told) true was
held_after g was (Enter f) Done = was
held_after g was (Enter f) (TookFrame o) = was
held_after g was (Return f bits) (Said told) = cond (g == f && told) true was
held_after g was (Return f bits) Done = was
held_after g was (Return f bits) (TookFrame o) = was
held_after g was (Leave f) (Said told) = cond (g == f && told) false was
held_after g was (Leave f) Done = was
held_after g was (Leave f) (TookFrame o) = was
held_after g was (Touch f) a = was
held_after g was Empty a = false
held_after g was Take (Said told) = was
held_after g was Take Done = was
held_after g was Take (TookFrame (Some f)) = cond (g == f) false was
held_after g was Take (TookFrame None) = was

-- and after a list of calls
abbrev pub held_by : ℕ → Bool → List Call → List Answer → Bool
held_by g was [] says = was
held_by g was (c ∷ cs) [] = was
held_by g was (c ∷ cs) (a ∷ says) = held_by g (held_after g was c a) cs says

-- After the calls and their answers each frame is held at most once, and it is held exactly if the answers say so.
abbrev pub HeldAsTold : {M : Type 0} → Rules M → M → List Call → List Answer → M → Type 0
HeldAsTold r m cs says left = (g : ℕ) → (r.times left g ≤ 1) × (holds r left g ≡ held_by g (holds r m g) cs says)
