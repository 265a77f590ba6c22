-- What a machine is: all that a call can leave.
use Rattle.std.specs.Prelude.{ℕ, List}
use Rattle.frames.specs.Policy as policies
use Rattle.model.specs.declared.shape.FrameRecord.{FrameRecord}
use Rattle.model.specs.declared.shape.Partition.{Partition}
use Rattle.pages.specs.Store as stores
use Rattle.translation.specs.Translator as translators

-- What the translator, the policy and the page store do.
pub record Parts (T P S : Type 0) : Type 1 where
  pub translator : translators.Rules T
  pub policy : policies.Rules P
  pub store : stores.Rules S

abbrev pub parts_of : {T P S : Type 0} → translators.Rules T → policies.Rules P → stores.Rules S → Parts T P S
parts_of t p s = record { translator = t; policy = p; store = s }

pub record LawfulParts {T P S : Type 0} (r : Parts T P S) : Type 0 where
  pub translator : translators.Lawful r.translator
  pub policy : policies.Lawful r.policy
  pub store : stores.Lawful r.store

-- What IPL was given: the number of frames, of supervisor frames and of virtual pages, and the partitions.
pub record Config : Type 0 where
  pub frames : ℕ
  pub supervisor : ℕ
  pub pages : ℕ
  pub partitions : List Partition

pub record World (T P S : Type 0) : Type 0 where
  pub config : Config
  -- main storage, and a storage key for each of 256 frames
  pub storage : List ℕ
  pub keys : List ℕ
  -- the frame table: 256 records
  pub records : List FrameRecord
  pub translator : T
  pub policy : P
  pub store : S

-- The three parts have values that their types can have.
pub record GoodParts {T P S : Type 0} (r : Parts T P S) (t : T) (p : P) (s : S) : Type 0 where
  pub translator : r.translator.good t
  pub policy : r.policy.good p
  pub store : r.store.good s
