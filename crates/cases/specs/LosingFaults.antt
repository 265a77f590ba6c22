-- Two page faults that lose a page. Each differs from the rules in the second step alone, the emptying of the frame that
-- was taken, and each is refuted by a list of calls that the flat machine answers otherwise.
use Rattle.std.specs.Prelude.{◌≡◌, ℕ, not, ◌&&◌, List, [], ◌∷◌, Some, None, Ok, Err, Option, Result, ◌==◌, slice_index}
use Rattle.frames.specs.Held.{times_in}
use Rattle.frames.specs.Keys as keys
use Rattle.model.specs.declared.calls.Reply.{Reply}
use Rattle.model.specs.declared.calls.Reply.TheVariants.{Byte, Done}
use Rattle.model.specs.declared.calls.Call.{Call}
use Rattle.model.specs.declared.calls.Call.TheVariants.{Load, Store, Fix, Free, Purge, Settle}
use Rattle.model.specs.declared.calls.Refusal.{Refusal}
use Rattle.model.specs.declared.shape.Request.{Request}
use Rattle.model.specs.Flat.{blank, flat_answers}
use Rattle.model.specs.Ipl.{ipl}
use Rattle.model.specs.Layout.{no_page, page_in}
use Rattle.model.specs.Refusals.{decode_fix, decode_load, decode_store}
use Rattle.model.specs.Steps as steps
use Rattle.model.specs.Steps.{worked}
use Rattle.model.specs.World.{Config}
use Rattle.cases.specs.Table.{partition}
use Rattle.cases.specs.Worked.{Machine, off, parts}

-- How a frame is emptied: from the machine before Take, the frame, and the machine after Take.
abbrev pub Emptying : Type 0
Emptying = Machine → ℕ → Machine → Machine

-- As the rules say.
abbrev pub sound : Emptying
sound before f w = steps.emptied parts f w

-- The change bit trusted from the queue's name: a frame that stands in Q00 counts as unchanged, whatever its storage key
-- says, so that its page is not put out.
abbrev pub by_name : Emptying
by_name before f w =
    steps.emptying parts (not (page_in w.records f == no_page))
    (times_in f before.policy.q00 == 0 && keys.changed (slice_index w.keys f)) f (page_in w.records f) w

-- The pair left in the translator: all as the rules say, but no Forget.
abbrev pub no_forget : Emptying
no_forget before f w = record {
  config = w.config;
  storage = (sound before f w).storage;
  keys = w.keys;
  records = (sound before f w).records;
  translator = w.translator;
  policy = w.policy;
  store = (sound before f w).store;
}

module _ (x : Emptying) where
  -- A page brought in, the frame that was taken emptied so.
  abbrev pub brought_by : ℕ → ℕ → Machine → Option ℕ → Machine
  brought_by p key w (Some f) = w
  brought_by p key w None =
      steps.connected parts (steps.taken_frame parts w) p key
      (steps.filled parts (steps.taken_frame parts w) p (x w (steps.taken_frame parts w) (steps.taken parts w)))

  -- The three calls that may bring a page in, by what their tests have given.
  abbrev pub loading_by : ℕ → Machine → Result Request Refusal → Result Reply Refusal × Machine
  loading_by a w (Err why) = (Err why, w)
  loading_by a w (Ok q) = (
    Ok (Byte (slice_index (brought_by q.page q.key w q.frame).storage (steps.asked parts a (steps.brought_frame parts w q.frame) (brought_by q.page q.key w q.frame)))),
    steps.loaded_in parts a (steps.brought_frame parts w q.frame) (brought_by q.page q.key w q.frame),
  )

  abbrev pub storing_by : ℕ → ℕ → Machine → Result Request Refusal → Result Reply Refusal × Machine
  storing_by a byte w (Err why) = (Err why, w)
  storing_by a byte w (Ok q) =
      (Ok Done, steps.stored_in parts a byte (steps.brought_frame parts w q.frame) (brought_by q.page q.key w q.frame))

  abbrev pub fixing_by : Machine → Result Request Refusal → Result Reply Refusal × Machine
  fixing_by w (Err why) = (Err why, w)
  fixing_by w (Ok q) = (Ok Done, steps.fixed_once parts (steps.brought_frame parts w q.frame) (brought_by q.page q.key w q.frame))

  abbrev pub worked_by : Call → Machine → Result Reply Refusal × Machine
  worked_by (Load a key) w = loading_by a w (decode_load w a key)
  worked_by (Store a key byte) w = storing_by a byte w (decode_store w a key)
  worked_by (Fix p) w = fixing_by w (decode_fix w p)
  worked_by (Free p) w = worked parts (Free p) w
  worked_by Purge w = worked parts Purge w
  worked_by Settle w = worked parts Settle w

  abbrev pub answers_by : List Call → Machine → List (Result Reply Refusal)
  answers_by [] w = []
  answers_by (c ∷ cs) w = (worked_by c w).0 ∷ answers_by cs (worked_by c w).1

-- A machine just started with so many blank slots.
unfoldable pub started : Config → ℕ → Machine
started c slots = (ipl parts c (off c.frames slots)).1

-- A page fault with such an emptying is refuted: IPL is answered, it gives wrong answers to these calls, and the flat machine gives others,
-- which are those of the rules.
pub record Refuted (x : Emptying) (c : Config) (slots : ℕ) (calls : List Call) (wrong right : List (Result Reply Refusal)) : Type 0 where
  pub answered : (ipl parts c (off c.frames slots)).0 ≡ Ok tt
  pub wrongly : answers_by x calls (started c slots) ≡ wrong
  pub rightly : answers_by sound calls (started c slots) ≡ right
  pub flatly : flat_answers calls (blank c) ≡ right
  pub differs : answers_by x calls (started c slots) ≡ flat_answers calls (blank c) → ⊥

-- One pageable frame, 2, and two pages. Fixed and freed at once, page 2 stands in Q00, both its bits off; the Store turns
-- its change bit on, and the queue's name stays. Page 3 takes the frame: the byte is lost.
abbrev pub two : Config
two = record { frames = 3; supervisor = 2; pages = 4; partitions = partition 2 2 1 ∷ [] }

abbrev pub by_name_calls : List Call
by_name_calls = Fix 2 ∷ Free 2 ∷ Store 4096 1 7 ∷ Load 6144 1 ∷ Load 4096 1 ∷ []

-- Two pageable frames, 2 and 3, and three pages. Page 2 is in frame 2 with its pair; page 4 takes that frame, and page 2
-- comes back into frame 3: by the pair that was left its Load reads page 4. With one pageable frame a page comes back into
-- the frame that it had, where the old pair is right again.
abbrev pub three : Config
three = record { frames = 4; supervisor = 2; pages = 5; partitions = partition 2 3 1 ∷ [] }

abbrev pub no_forget_calls : List Call
no_forget_calls = Load 4096 1 ∷ Load 6144 1 ∷ Store 8192 1 9 ∷ Load 4096 1 ∷ []

pub record LosingFaults : Type 0 where
  -- with the emptying of the rules a call is worked as the rules say
  pub same : (c : Call) (w : Machine) → worked_by sound c w ≡ worked parts c w
  pub by_name_refuted : Refuted by_name two 2 by_name_calls (Ok Done ∷ Ok Done ∷ Ok Done ∷ Ok (Byte 0) ∷ Ok (Byte 0) ∷ []) (Ok Done ∷ Ok Done ∷ Ok Done ∷ Ok (Byte 0) ∷ Ok (Byte 7) ∷ [])
  pub no_forget_refuted : Refuted no_forget three 3 no_forget_calls (Ok (Byte 0) ∷ Ok (Byte 0) ∷ Ok Done ∷ Ok (Byte 9) ∷ []) (Ok (Byte 0) ∷ Ok (Byte 0) ∷ Ok Done ∷ Ok (Byte 0) ∷ [])
