-- What a disturbed run promises.
use Rattle.std.specs.Prelude.{◌≡◌, ◌≤◌, ◌<◌, ℕ, List, [], ◌∷◌, ◌++◌, length, Ok, Err, vec_items, vec_capacity, Result, Vec}
use Rattle.std.specs.declared.alloc.Global.{Global}
use Rattle.model.specs.declared.calls.Reply.{Reply}
use Rattle.model.specs.declared.calls.Call.{Call}
use Rattle.model.specs.declared.calls.Refusal.{Refusal}
use Rattle.model.specs.Ipl.{ipl}
use Rattle.model.specs.Law.{Steady, handed}
use Rattle.model.specs.Steps.{worked}
use Rattle.model.specs.World.{Config, Parts, World}
use Rattle.runs.specs.declared.handed.Handed.{Handed}
use Rattle.runs.specs.declared.stopped.Stopped.{Stopped}
use Rattle.runs.specs.declared.stopped.Stopped.TheVariants.{Refused, Memory}

-- The main storages and the calls.
abbrev pub handing : List Handed → List (List ℕ × Call)
handing [] = []
handing (h ∷ hs) = (vec_items h.storage, h.call) ∷ handing hs

-- The main storages alone.
abbrev pub storages_of : List Handed → List (List ℕ)
storages_of [] = []
storages_of (h ∷ hs) = vec_items h.storage ∷ storages_of hs

module _ {T P S : Type 0} (r : Parts T P S) where
  -- the answers of calls that are handed any main storage, the storages that they leave, and the world after the last
  abbrev pub disturbed_answers : List (List ℕ × Call) → World T P S → List (Result Reply Refusal)
  disturbed_answers [] w = []
  disturbed_answers (h ∷ hs) w = (worked r h.1 (handed r h.0 w)).0 ∷ disturbed_answers hs (worked r h.1 (handed r h.0 w)).1

  abbrev pub disturbed_storages : List (List ℕ × Call) → World T P S → List (List ℕ)
  disturbed_storages [] w = []
  disturbed_storages (h ∷ hs) w = (worked r h.1 (handed r h.0 w)).1.storage ∷ disturbed_storages hs (worked r h.1 (handed r h.0 w)).1

  abbrev pub disturbed_last : List (List ℕ × Call) → World T P S → World T P S
  disturbed_last [] w = w
  disturbed_last (h ∷ hs) w = disturbed_last hs (worked r h.1 (handed r h.0 w)).1

  -- calls made, each on the storage that it is handed: their answers come behind the old ones, each storage is left as
  -- its call leaves it, and of the machine there is left what is left after the last call, whatever storage it is seen with
  pub record Moved (calls : List (List ℕ × Call)) (before : World T P S) (after : List ℕ → World T P S) (old new : List (Result Reply Refusal)) (left : List (List ℕ)) : Type 0 where
    pub answers : new ≡ old ++ disturbed_answers calls before
    pub storages : left ≡ disturbed_storages calls before
    pub last : (s : List ℕ) → after s ≡ handed r s (disturbed_last calls before)

  -- a disturbed run after an answered IPL: answers, storages and the machine left are those of the rules, and the law over
  -- disturbed runs holds of it, call by call
  pub record Steadily (c : Config) (calls : List (List ℕ × Call)) (before : World T P S) (after : List ℕ → World T P S) (answers : List (Result Reply Refusal)) (left : List (List ℕ)) : Type 0 where
    pub started : (ipl r c before).0 ≡ Ok tt
    pub moved : Moved calls (ipl r c before).1 after [] answers left
    pub steady : Steady r calls (ipl r c before).1

  -- by what the run answers; where it is not begun everything is as found
  abbrev pub RanDisturbed : Config → List Handed → World T P S → (List ℕ → World T P S) → List ℕ → List Handed → Result (Vec (Result Reply Refusal) Global) Stopped → Type 0
  RanDisturbed c calls before after storage left (Ok v) = Steadily c (handing calls) before after (vec_items v) (storages_of left)
  RanDisturbed c calls before after storage left (Err (Refused why)) = ((ipl r c before).0 ≡ Err why) × (after storage ≡ before) × (left ≡ calls)
  RanDisturbed c calls before after storage left (Err Memory) = (after storage ≡ before) × (left ≡ calls)

  -- the same where a list is handed in, which is to hold the answers: it is told exactly where it has no room for them, and
  -- otherwise the run is begun; where it is not begun the list is as found too
  abbrev pub RanDisturbedInto : Config → List Handed → World T P S → (List ℕ → World T P S) → List ℕ → List Handed → (old new : Vec (Result Reply Refusal) Global) → Result (Unit {0}) Stopped → Type 0
  RanDisturbedInto c calls before after storage left old new (Ok _) = (length calls ≤ vec_capacity old) × Steadily c (handing calls) before after (vec_items new) (storages_of left)
  RanDisturbedInto c calls before after storage left old new (Err (Refused why)) = (length calls ≤ vec_capacity old) × ((ipl r c before).0 ≡ Err why) × (after storage ≡ before) × (left ≡ calls) × (new ≡ old)
  RanDisturbedInto c calls before after storage left old new (Err Memory) = (vec_capacity old < length calls) × (after storage ≡ before) × (left ≡ calls) × (new ≡ old)
