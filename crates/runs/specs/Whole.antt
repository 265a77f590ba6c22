-- What a whole run promises.
use Rattle.std.specs.Prelude.{◌≡◌, ◌≤◌, ◌<◌, List, [], ◌∷◌, ◌++◌, length, Ok, Err, vec_items, vec_capacity, Result, Vec}
use Rattle.std.specs.declared.alloc.Global.{Global}
use Rattle.model.specs.declared.calls.Reply.{Reply}
use Rattle.model.specs.declared.calls.Call.{Call}
use Rattle.model.specs.declared.calls.Refusal.{Refusal}
use Rattle.model.specs.Flat.{blank, flat_answers}
use Rattle.model.specs.Ipl.{ipl}
use Rattle.model.specs.Law.{Sound}
use Rattle.model.specs.Steps.{worked}
use Rattle.model.specs.World.{Config, Parts, World}
use Rattle.runs.specs.declared.stopped.Stopped.{Stopped}
use Rattle.runs.specs.declared.stopped.Stopped.TheVariants.{Refused, Memory}

module _ {T P S : Type 0} (r : Parts T P S) where
  -- the answers of the calls, and the world that they leave, by the rules
  abbrev pub answers_of : List Call → World T P S → List (Result Reply Refusal)
  answers_of [] w = []
  answers_of (c ∷ cs) w = (worked r c w).0 ∷ answers_of cs (worked r c w).1

  abbrev pub last_of : List Call → World T P S → World T P S
  last_of [] w = w
  last_of (c ∷ cs) w = last_of cs (worked r c w).1

  -- calls made: their answers come behind the old ones
  pub record Run (calls : List Call) (before after : World T P S) (old new : List (Result Reply Refusal)) : Type 0 where
    pub answers : new ≡ old ++ answers_of calls before
    pub last : after ≡ last_of calls before

  -- a run after an answered IPL: the answers and the world left are those of the rules; the answers are the flat machine's;
  -- and the law over whole runs holds of it, call by call
  pub record Lawfully (c : Config) (calls : List Call) (before after : World T P S) (answers : List (Result Reply Refusal)) : Type 0 where
    pub started : (ipl r c before).0 ≡ Ok tt
    pub by_rules : answers ≡ answers_of calls (ipl r c before).1
    pub last : after ≡ last_of calls (ipl r c before).1
    pub by_flat : answers ≡ flat_answers calls (blank c)
    pub sound : Sound r calls (ipl r c before).1 (blank c)

  -- by what the run answers; where it is not begun everything is as found
  abbrev pub Ran : Config → List Call → World T P S → World T P S → Result (Vec (Result Reply Refusal) Global) Stopped → Type 0
  Ran c calls before after (Ok v) = Lawfully c calls before after (vec_items v)
  Ran c calls before after (Err (Refused why)) = ((ipl r c before).0 ≡ Err why) × (after ≡ before)
  Ran c calls before after (Err Memory) = after ≡ before

  -- the same where a list is handed in, which is to hold the answers: it is told exactly where it has no room for them, and
  -- otherwise the run is begun; where it is not begun the list is as found too
  abbrev pub RanInto : Config → List Call → World T P S → World T P S → (old new : Vec (Result Reply Refusal) Global) → Result (Unit {0}) Stopped → Type 0
  RanInto c calls before after old new (Ok _) = (length calls ≤ vec_capacity old) × Lawfully c calls before after (vec_items new)
  RanInto c calls before after old new (Err (Refused why)) = (length calls ≤ vec_capacity old) × ((ipl r c before).0 ≡ Err why) × (after ≡ before) × (new ≡ old)
  RanInto c calls before after old new (Err Memory) = (vec_capacity old < length calls) × (after ≡ before) × (new ≡ old)
