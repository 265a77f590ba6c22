-- A machine and main storage as one world, and what a call does to it.
use Rattle.std.specs.Prelude.{◌≡◌, ℕ, List, [], replicate}
use Rattle.frames.specs.declared.Policy as policies
use Rattle.model.specs.Layout.{vacant}
use Rattle.model.specs.World.{Parts, World}
use Rattle.pages.specs.declared.store.PageStore as stores
use Rattle.paging.specs.Seen as paging
use Rattle.translation.specs.declared.translator.Translator as translators
use Rattle.machine.specs.declared.machine.Machine as the

module _ {X Y Z : Type 0} (t : translators.Ghosts X) (p : policies.Ghosts Y) (s : stores.Ghosts Z) where
  abbrev pub world : the.Machine X Y Z → List ℕ → World t.Model p.Model s.Model
  world m storage = paging.seen t p s m.own storage

  -- the rules of its parts
  abbrev pub rules : Parts t.Model p.Model s.Model
  rules = paging.rules_of t p s

  -- the answer and the world left are those of a rule
  abbrev pub Does : {A : Type 0} → (Parts t.Model p.Model s.Model → World t.Model p.Model s.Model → A × World t.Model p.Model s.Model)
      → A → World t.Model p.Model s.Model → World t.Model p.Model s.Model → Type 0
  Does rule answer before after = (answer, after) ≡ rule rules before

-- Before IPL: no frame, no page, no partition, every key 0 and every record vacant.
abbrev pub unstarted : {T P S : Type 0} → T → P → S → List ℕ → World T P S
unstarted t p s storage = record {
  config = record { frames = 0; supervisor = 0; pages = 0; partitions = [] };
  storage = storage;
  keys = replicate 256 0;
  records = replicate 256 vacant;
  translator = t;
  policy = p;
  store = s;
}

-- A world with another translator.
abbrev pub with_translator : {T P S : Type 0} → World T P S → T → World T P S
with_translator w t = record {
  config = w.config;
  storage = w.storage;
  keys = w.keys;
  records = w.records;
  translator = t;
  policy = w.policy;
  store = w.store;
}
