-- What a machine keeps of its frames and pages, and what the tests of the calls look at.
use Rattle.std.specs.Prelude.{◌≡◌, ℕ, ◌-◌, ◌/◌, ◌≤◌, List, [], Ok, Result, nat_le}
use Rattle.model.specs.declared.calls.Refusal.{Refusal}
use Rattle.model.specs.declared.calls.Refusal.TheVariants.{Sizes, Key}
use Rattle.model.specs.declared.shape.FrameRecord.{FrameRecord}
use Rattle.model.specs.declared.shape.Request.{Request}
use Rattle.model.specs.Layout.{fixed_in}
use Rattle.model.specs.Refusals.{and_then, page_key, right_length, unless, where_is}
use Rattle.model.specs.World.{Config, World}

-- What IPL was given, and the records of the frame table, frame 0 first.
pub record Contents : Type 0 where
  pub config : Config
  pub records : List FrameRecord

-- So many pageable frames have a fixed page, and there are no more frames than the table has records.
pub record IsCounted (c : Config) (rs : List FrameRecord) (fixed : ℕ) : Type 0 where
  pub count : fixed ≡ fixed_in rs c.supervisor (c.frames - c.supervisor)
  pub few : c.frames ≤ 256

-- The contents and main storage as a machine. Keys and parts are left out.
abbrev pub bare : Contents → List ℕ → World (Unit {0}) (Unit {0}) (Unit {0})
bare st s = record {
  config = st.config;
  storage = s;
  keys = [];
  records = st.records;
  translator = tt;
  policy = tt;
  store = tt;
}

-- The request for a page by its number: 5, 4.
abbrev pub request_for : {T P S : Type 0} → World T P S → ℕ → Result Request Refusal
request_for w p = and_then (page_key w.config p) (λ own. Ok (record { page = p; key = own; frame = where_is w p }))

-- The request for a page by an address in it, with a key that is handed in, as Load and Store begin: 32, 36, 5, 4.
abbrev pub request_at : {T P S : Type 0} → World T P S → ℕ → ℕ → Result Request Refusal
request_at w a key =
    and_then (unless (right_length w) Sizes) (λ _.
    and_then (unless (nat_le key 15) Key) (λ _. request_for w (a / 2048)))
