-- The machine as a whole: what is its own, and main storage as it is handed in.
use Rattle.std.specs.Prelude.{ℕ, List}
use Rattle.std.specs.Option.{unwrap_or}
use Rattle.frames.specs.declared.Policy as policies
use Rattle.model.specs.Layout.{key_of}
use Rattle.model.specs.World.{Config, Parts, World, parts_of}
use Rattle.pages.specs.declared.store.PageStore as stores
use Rattle.paging.specs.declared.own.Own.{Own}
use Rattle.translation.specs.declared.translator.Translator as translators

-- By what each of the three parts means.
abbrev pub world_of : {X Y Z T P S : Type 0} → (X → T) → (Y → P) → (Z → S) → Own X Y Z → List ℕ → World T P S
world_of translator policy store m s = record {
  config = m.state.config;
  storage = s;
  keys = m.keys;
  records = m.state.records;
  translator = translator m.translator;
  policy = policy m.policy;
  store = store m.store;
}

module _ {X Y Z : Type 0} (t : translators.Ghosts X) (p : policies.Ghosts Y) (s : stores.Ghosts Z) where
  abbrev pub seen : Own X Y Z → List ℕ → World t.Model p.Model s.Model
  seen m storage = world_of t.model p.model s.model m storage

  abbrev pub rules_of : Parts t.Model p.Model s.Model
  rules_of = parts_of t.rules p.rules s.rules

-- The access key of a page's partition; 0 for a page of none.
abbrev pub access_for : Config → ℕ → ℕ
access_for c p = unwrap_or (key_of c.partitions p) 0

-- The machine with another page store.
abbrev pub with_store : {T P S : Type 0} → World T P S → S → World T P S
with_store w x = record {
  config = w.config;
  storage = w.storage;
  keys = w.keys;
  records = w.records;
  translator = w.translator;
  policy = w.policy;
  store = x;
}
