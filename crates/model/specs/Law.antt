-- The law over whole runs, and the law over disturbed runs.
use Rattle.std.specs.Prelude.{◌≡◌, ℕ, ◌+◌, ◌-◌, ◌*◌, ◌/◌, ◌<◌, ◌≤◌, true, ◌⊎◌, List, [], ◌∷◌, length, get_or, Some, None, Ok, Err, Option, Result, ◌≢◌, slice_index, slice_index_or}
use Rattle.std.specs.Result.{IsOk, result_err}
use Rattle.frames.specs.Keys.{access_of}
use Rattle.frames.specs.Policy as policies
use Rattle.model.specs.declared.calls.Reply.{Reply}
use Rattle.model.specs.declared.calls.Call.{Call}
use Rattle.model.specs.declared.calls.Call.TheVariants.{Load, Store, Fix, Free, Purge, Settle}
use Rattle.model.specs.declared.calls.Refusal.{Refusal}
use Rattle.model.specs.declared.shape.FrameRecord.{FrameRecord}
use Rattle.model.specs.Flat.{Flat, blank, flat}
use Rattle.model.specs.declared.calls.IplRefusal.{IplRefusal}
use Rattle.model.specs.Ipl.{first_entry, ipl, partitions_fit, sizes_fit, with_tables}
use Rattle.model.specs.Layout.{bit15, controls_of, entry_at, fixes_in, key_of, no_page, page_in, segment_at, segment_entries, segment_word, segments, vacant}
use Rattle.model.specs.Refusals.{decode_fix, decode_free, decode_load, decode_purge, decode_settle, decode_store, tables_right, where_is}
use Rattle.model.specs.Steps.{worked}
use Rattle.model.specs.World.{Config, GoodParts, Parts, World}
use Rattle.pages.specs.Store as stores
use Rattle.storage.specs.Bytes.{half, page, word, zeros}
use Rattle.tables.specs.Bits.{half_bits}
use Rattle.tables.specs.Walk.{walk}
use Rattle.translation.specs.Translator as translators

-- A valid page entry names a frame, which then belongs to its page.
pub record Belongs (s : List ℕ) (p f : ℕ) : Type 0 where
  pub valid : half_bits 13 13 (half s (entry_at p)) ≡ 0
  pub names : half_bits 0 12 (half s (entry_at p)) ≡ f

-- A page that has an entry in the tables.
abbrev pub InTables : Config → ℕ → Type 0
InTables c p = p < 32 * segments c

-- A page is fixed where its flat count is above 0.
abbrev pub Fixed : Flat → ℕ → Type 0
Fixed m p = 0 < slice_index m.fixes p

abbrev pub Pageable : Config → ℕ → Type 0
Pageable c f = (c.supervisor ≤ f) × (f < c.frames)

module _ {T P S : Type 0} (r : Parts T P S) where
  -- a frame that the policy holds once, and that belongs to no fixed page
  pub record HeldOnce (w : World T P S) (m : Flat) (f : ℕ) : Type 0 where
    pub once : r.policy.times w.policy f ≡ 1
    pub unfixed : (p : ℕ) → InTables w.config p → Fixed m p → Belongs w.storage p f → ⊥

  -- a frame that the policy does not hold, and that belongs to one fixed page
  pub record HasFixed (w : World T P S) (m : Flat) (f : ℕ) : Type 0 where
    pub not_held : r.policy.times w.policy f ≡ 0
    pub page_of : ℕ
    pub listed : InTables w.config page_of
    pub fixed : Fixed m page_of
    pub belongs : Belongs w.storage page_of f

  -- every pageable frame is held once or belongs to one fixed page, every fixed page has such a frame, and no two valid
  -- entries name the same frame
  pub record Placed (w : World T P S) (m : Flat) : Type 0 where
    pub each_frame : (f : ℕ) → Pageable w.config f → HeldOnce w m f ⊎ HasFixed w m f
    pub each_fixed : (p : ℕ) → Fixed m p → (f : ℕ) × Pageable w.config f × Belongs w.storage p f × (r.policy.times w.policy f ≡ 0)
    pub apart : (p q f : ℕ) → InTables w.config p → InTables w.config q → Belongs w.storage p f → Belongs w.storage q f → p ≡ q

  -- the byte of an address stands in main storage where the walk leads
  pub record Stands (w : World T P S) (m : Flat) (a : ℕ) : Type 0 where
    pub real : ℕ
    pub walked : walk w.storage (r.translator.controls w.translator) a ≡ Ok real
    pub byte : get_or w.storage real 0 ≡ slice_index m.bytes a

  -- the slot of a page can be used; its flat bytes stand there, or are all zero where its entry says never written out
  abbrev pub Saved : World T P S → Flat → ℕ → Type 0
  Saved w m p =
      stores.Usable r.store w.store (p - w.config.supervisor)
      × (((bit15 w.storage p ≡ 0) × (r.store.slot w.store (p - w.config.supervisor) ≡ page m.bytes (2048 * p)))
      ⊎ ((bit15 w.storage p ≡ 1) × (page m.bytes (2048 * p) ≡ zeros)))

  -- what holds after a call that is answered
  abbrev pub After : Call → World T P S → Flat → Type 0
  After (Load a key) w m = Stands w m a
  After (Store a key byte) w m = Stands w m a
  After (Fix p) w m = Unit {0}
  After (Free p) w m = Unit {0}
  After Purge w m = Unit {0}
  After Settle w m = (p key : ℕ) → key_of w.config.partitions p ≡ Some key → Saved w m p

  -- a run from w beside the flat machine's from m
  abbrev pub Sound : List Call → World T P S → Flat → Type 0
  Sound [] w m = Placed w m
  Sound (c ∷ cs) w m =
      Placed w m
      × ((worked r c w).0 ≡ (flat c m).0)
      × (IsOk (worked r c w).0 → After c (worked r c w).1 (flat c m).1)
      × Sound cs (worked r c w).1 (flat c m).1

  -- the law over whole runs: after an answered IPL, every list of calls
  abbrev pub LawOf : Type 0
  LawOf = (c : Config) (w : World T P S) → GoodParts r w.translator w.policy w.store → (ipl r c w).0 ≡ Ok tt
      → (calls : List Call) → Sound calls (ipl r c w).1 (blank c)

-- What IPL has tested.
pub record Fits (c : Config) : Type 0 where
  pub few : c.frames ≤ 256
  pub low : 2 ≤ c.supervisor
  pub some : c.supervisor < c.frames
  pub more : c.supervisor < c.pages
  pub most : c.pages ≤ 8192
  pub tables : 32 * segments c ≤ 1024 * (c.supervisor - 1)
  pub ordered : partitions_fit c ≡ true
  pub keys : (p key : ℕ) → key_of c.partitions p ≡ Some key → (c.supervisor ≤ p) × (p < c.pages) × (key ≤ 15)

-- The frame table: a pageable frame has no page and count 0, or a partition page that no other frame has; every other
-- record is as IPL left it.
pub record Table (c : Config) (rs : List FrameRecord) : Type 0 where
  pub long : length rs ≡ 256
  pub supervisor : (f : ℕ) → f < c.supervisor → page_in rs f ≡ f
  pub unfixed : (f : ℕ) → f < c.supervisor → fixes_in rs f ≡ 0
  pub past : (f : ℕ) → c.frames ≤ f → slice_index_or rs f vacant ≡ vacant
  pub named : (f : ℕ) → Pageable c f → (page_in rs f ≢ no_page) → (key : ℕ) × (key_of c.partitions (page_in rs f) ≡ Some key)
  pub unused : (f : ℕ) → Pageable c f → page_in rs f ≡ no_page → fixes_in rs f ≡ 0
  pub apart : (f g : ℕ) → Pageable c f → Pageable c g → page_in rs f ≡ page_in rs g → (page_in rs f ≢ no_page) → f ≡ g

-- The storage keys: a frame with a page has its access key.
pub record Keyed (c : Config) (rs : List FrameRecord) (ks : List ℕ) : Type 0 where
  pub long : length ks ≡ 256
  pub access : (f key : ℕ) → Pageable c f → key_of c.partitions (page_in rs f) ≡ Some key → access_of (slice_index ks f) ≡ key

-- The policy holds just the pageable frames that have no fixed page, each once.
pub record Holding {P : Type 0} (r : policies.Rules P) (c : Config) (rs : List FrameRecord) (m : P) : Type 0 where
  pub free : (f : ℕ) → Pageable c f → fixes_in rs f ≡ 0 → r.times m f ≡ 1
  pub fixed : (f : ℕ) → Pageable c f → 0 < fixes_in rs f → r.times m f ≡ 0
  pub other : (f : ℕ) → (f < c.supervisor) ⊎ (c.frames ≤ f) → r.times m f ≡ 0

-- The translator has IPL's control words, and each of its pairs has a frame whose record names the page.
pub record Paired {T : Type 0} (r : translators.Rules T) (c : Config) (rs : List FrameRecord) (t : T) : Type 0 where
  pub words : r.controls t ≡ controls_of c
  pub each : (p start : ℕ) → r.has_pair t p start ≡ true
      → (f : ℕ) × (f < c.frames) × (page_in rs f ≡ p) × (p < c.pages) × (start ≡ 2048 * f)

-- The slots of all pages can be used.
abbrev pub Slots : {S : Type 0} → stores.Rules S → Config → S → Type 0
Slots r c m = (k : ℕ) → k < c.pages - c.supervisor → stores.Usable r m k

-- The parts that are the machine's own are consistent, whatever main storage holds.
pub record Consistent {T P S : Type 0} (r : Parts T P S) (w : World T P S) : Type 0 where
  pub good : GoodParts r w.translator w.policy w.store
  pub fits : Fits w.config
  pub table : Table w.config w.records
  pub keyed : Keyed w.config w.records w.keys
  pub holding : Holding r.policy w.config w.records w.policy
  pub paired : Paired r.translator w.config w.records w.translator
  pub slots : Slots r.store w.config w.store

-- What IPL does to main storage: it writes both tables, and alters no other byte.
pub record Written (c : Config) (s t : List ℕ) : Type 0 where
  pub long : length t ≡ length s
  pub segment : (g : ℕ) → g < segment_entries c → word t (segment_at g) ≡ segment_word c g
  pub entry : (p : ℕ) → p < 32 * segments c → half t (entry_at p) ≡ first_entry c p
  pub below : (j : ℕ) → j < segment_at 0 → slice_index t j ≡ slice_index s j
  pub between : (j : ℕ) → segment_at (segment_entries c) ≤ j → j < entry_at 0 → slice_index t j ≡ slice_index s j
  pub above : (j : ℕ) → entry_at (32 * segments c) ≤ j → slice_index t j ≡ slice_index s j

abbrev pub TablesOf : Type 0
TablesOf = (c : Config) (s : List ℕ) → sizes_fit c s ≡ true → partitions_fit c ≡ true → Written c s (with_tables c s)

-- The entries of the page that frame f has are right.
pub record FrameRight (c : Config) (s : List ℕ) (rs : List FrameRecord) (f : ℕ) : Type 0 where
  pub segment : word s (segment_at (page_in rs f / 32)) ≡ segment_word c (page_in rs f / 32)
  pub entry : half s (entry_at (page_in rs f)) / 2 ≡ 4 * f

-- The tables are what IPL, partitions and frame table give, bit 15 of a page entry aside: the page's segment entry; its
-- page entry, which names its frame, or is invalid with its key where no frame has it; and in that case the entries of
-- every page that a frame has.
pub record TablesRight (c : Config) (s : List ℕ) (rs : List FrameRecord) (p key : ℕ) : Type 0 where
  pub segment : word s (segment_at (p / 32)) ≡ segment_word c (p / 32)
  pub inside : (f : ℕ) → Pageable c f → page_in rs f ≡ p → half s (entry_at p) / 2 ≡ 4 * f
  pub outside : ((f : ℕ) → Pageable c f → page_in rs f ≢ p) → half s (entry_at p) / 2 ≡ 2 + 8 * key
  pub others : ((f : ℕ) → Pageable c f → page_in rs f ≢ p) → (g : ℕ) → Pageable c g → (page_in rs g ≢ no_page) → FrameRight c s rs g

-- The first refusal of the table that holds, if any.
abbrev pub first_refusal : {T P S : Type 0} → Call → World T P S → Option Refusal
first_refusal (Load a key) w = result_err (decode_load w a key)
first_refusal (Store a key byte) w = result_err (decode_store w a key)
first_refusal (Fix p) w = result_err (decode_fix w p)
first_refusal (Free p) w = result_err (decode_free w p)
first_refusal Purge w = result_err (decode_purge w)
first_refusal Settle w = result_err (decode_settle w)

module _ {T P S : Type 0} (r : Parts T P S) where
  -- an outcome is an answer, or the first refusal that holds with everything left as found
  abbrev pub ToldBy : Result Reply Refusal × World T P S → World T P S → Option Refusal → Type 0
  ToldBy x w (Some why) = x ≡ (Err why, w)
  ToldBy x w None = IsOk x.0

  abbrev pub Told : Call → World T P S → Option Refusal → Type 0
  Told c w o = ToldBy (worked r c w) w o

  -- main storage as it is handed to a call
  abbrev pub handed : List ℕ → World T P S → World T P S
  handed s w = record {
    config = w.config;
    storage = s;
    keys = w.keys;
    records = w.records;
    translator = w.translator;
    policy = w.policy;
    store = w.store;
  }

  -- calls, each handed any main storage whatever
  abbrev pub Steady : List (List ℕ × Call) → World T P S → Type 0
  Steady [] w = Consistent r w
  Steady (c ∷ cs) w =
      Consistent r w
      × Told c.1 (handed c.0 w) (first_refusal c.1 (handed c.0 w))
      × Steady cs (worked r c.1 (handed c.0 w)).1

  -- in a consistent machine the test of 54 is just whether the tables are right
  pub record Tested (w : World T P S) (p key : ℕ) : Type 0 where
    pub to : tables_right w p key (where_is w p) ≡ true → TablesRight w.config w.storage w.records p key
    pub from : TablesRight w.config w.storage w.records p key → tables_right w p key (where_is w p) ≡ true

  abbrev pub TestOf : Type 0
  TestOf = (w : World T P S) (p key : ℕ) → Consistent r w → key_of w.config.partitions p ≡ Some key → Tested w p key

  -- a refused IPL leaves everything as found
  abbrev pub RefusedOf : Type 0
  RefusedOf = (c : Config) (w : World T P S) (why : IplRefusal) → (ipl r c w).0 ≡ Err why → (ipl r c w).1 ≡ w

  -- the law over disturbed runs
  abbrev pub SteadyOf : Type 0
  SteadyOf = (c : Config) (w : World T P S) → GoodParts r w.translator w.policy w.store → (ipl r c w).0 ≡ Ok tt
      → (calls : List (List ℕ × Call)) → Steady calls (ipl r c w).1
