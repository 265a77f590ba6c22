-- The page fault in its four steps, and what the six calls leave. Each rule is total and names all that it leaves.
use Rattle.std.specs.Prelude.{ℕ, zero, suc, ◌+◌, ◌-◌, ◌*◌, ◌/◌, ◌%◌, min, Bool, cond, not, ◌&&◌, List, length, Some, None, Ok, Err, Option, Result, ◌==◌, nat_le, nat_lt, slice_index, slice_set, unwrap_or}
use Rattle.std.specs.Result.{result_map_both, result_unwrap_or}
use Rattle.frames.specs.Keys.{access_of, changed, reference_on, referred}
use Rattle.frames.specs.Policy.{Took}
use Rattle.model.specs.declared.calls.Reply.{Reply}
use Rattle.model.specs.declared.calls.Reply.TheVariants.{Byte, Done}
use Rattle.model.specs.declared.calls.Call.{Call}
use Rattle.model.specs.declared.calls.Call.TheVariants.{Load, Store, Fix, Free, Purge, Settle}
use Rattle.model.specs.declared.calls.Refusal.{Refusal}
use Rattle.model.specs.declared.shape.Request.{Request}
use Rattle.model.specs.Layout.{bit15, entry_at, fixes_in, no_page, page_in}
use Rattle.model.specs.Refusals.{decode_fix, decode_free, decode_load, decode_purge, decode_settle, decode_store}
use Rattle.model.specs.World.{Parts, World}
use Rattle.pages.specs.Store as stores
use Rattle.storage.specs.Bytes.{fits, frame, half, put_frame, put_half, zeros}

-- The key with its change bit on, and off; every other bit as it was.
abbrev pub change_on : ℕ → ℕ
change_on key = key + 2 * (1 - key / 2 % 2)

abbrev pub change_off : ℕ → ℕ
change_off key = key - 2 * (key / 2 % 2)

-- The frame that the policy hands over; the first pageable frame stands in for none, and for one that is not pageable.
abbrev pub chosen : ℕ → ℕ → Option ℕ → ℕ
chosen k n None = k
chosen k n (Some f) = cond (nat_le k f && nat_lt f n) f k

-- A store after a page is put out to a slot, and a buffer after a slot is read into it.
abbrev pub put_out : {S : Type 0} → stores.Rules S → S → ℕ → List ℕ → S
put_out r m k page = stores.written r m k page (stores.refusal_at r m k (length page))

abbrev pub read_in : {S : Type 0} → stores.Rules S → S → ℕ → List ℕ → List ℕ
read_in r m k buffer = stores.read_into r m k buffer (stores.refusal_at r m k (length buffer))

-- Main storage with a frame filled; as it was where the frame does not stand wholly in it.
abbrev pub fill_frame : List ℕ → ℕ → List ℕ → List ℕ
fill_frame s f bytes = cond (fits 2048 s (2048 * f)) (put_frame s f bytes) s

-- The answers of all six calls, of one type.
abbrev pub byte_answer : Result ℕ Refusal → Result Reply Refusal
byte_answer r = result_map_both Byte (λ why. why) r

abbrev pub done_answer : Result (Unit {0}) Refusal → Result Reply Refusal
done_answer r = result_map_both (λ _. Done) (λ why. why) r

module _ {T P S : Type 0} (r : Parts T P S) where
  -- Taken: the policy picks a frame, and may turn reference bits off.
  abbrev pub taking : World T P S → Took P
  taking w = r.policy.take w.policy w.keys

  abbrev pub taken_frame : World T P S → ℕ
  taken_frame w = chosen w.config.supervisor w.config.frames (taking w).frame

  abbrev pub taken : World T P S → World T P S
  taken w = record {
    config = w.config;
    storage = w.storage;
    keys = (taking w).keys;
    records = w.records;
    translator = w.translator;
    policy = (taking w).left;
    store = w.store;
  }

  -- Emptied, by whether the frame has a page q and whether it was changed: a changed page is put out and its bit 15 goes
  -- off; its entry becomes invalid with its access key, its pairs end, and the record names no page.
  abbrev pub emptying : Bool → Bool → ℕ → ℕ → World T P S → World T P S
  emptying occupied dirty f q w = record {
    config = w.config;
    storage = cond occupied (put_half w.storage (entry_at q) (4 + 16 * access_of (slice_index w.keys f) + cond dirty 0 (bit15 w.storage q))) w.storage;
    keys = w.keys;
    records = cond occupied (slice_set w.records f (record { page = no_page; fixes = fixes_in w.records f })) w.records;
    translator = cond occupied (r.translator.forget w.translator q) w.translator;
    policy = w.policy;
    store = cond (occupied && dirty) (put_out r.store w.store (q - w.config.supervisor) (frame w.storage f)) w.store;
  }

  abbrev pub emptied : ℕ → World T P S → World T P S
  emptied f w =
      emptying (not (page_in w.records f == no_page)) (changed (slice_index w.keys f)) f (page_in w.records f) w

  -- Filled: the page's slot is read into the frame, or zeros where it was never written out.
  abbrev pub filled : ℕ → ℕ → World T P S → World T P S
  filled f p w = record {
    config = w.config;
    storage = fill_frame w.storage f (cond (bit15 w.storage p == 1) zeros (read_in r.store w.store (p - w.config.supervisor) (frame w.storage f)));
    keys = w.keys;
    records = w.records;
    translator = w.translator;
    policy = w.policy;
    store = w.store;
  }

  -- Connected: the key is the page's access key with both bits off, the entry names the frame, the record the page, and
  -- the policy has the frame.
  abbrev pub connected : ℕ → ℕ → ℕ → World T P S → World T P S
  connected f p key w = record {
    config = w.config;
    storage = put_half w.storage (entry_at p) (8 * f + bit15 w.storage p);
    keys = slice_set w.keys f (16 * key);
    records = slice_set w.records f (record { page = p; fixes = fixes_in w.records f });
    translator = w.translator;
    policy = r.policy.enter w.policy f;
    store = w.store;
  }

  -- A page fault.
  abbrev pub faulted : ℕ → ℕ → ℕ → World T P S → World T P S
  faulted f p key w = connected f p key (filled f p (emptied f (taken w)))

  -- A page brought in: the frame that it has then, and the world.
  abbrev pub brought_frame : World T P S → Option ℕ → ℕ
  brought_frame w o = unwrap_or o (taken_frame w)

  abbrev pub brought : ℕ → ℕ → World T P S → Option ℕ → World T P S
  brought p key w (Some f) = w
  brought p key w None = faulted (taken_frame w) p key w

  -- The translator is asked for an address whose page is in frame f; that byte of f stands in for a refusal.
  abbrev pub asked : ℕ → ℕ → World T P S → ℕ
  asked a f w = result_unwrap_or (r.translator.translate w.translator w.storage a).answer (2048 * f + a % 2048)

  -- Referred to: the reference bit goes on, and the policy is told.
  abbrev pub loaded_in : ℕ → ℕ → World T P S → World T P S
  loaded_in a f w = record {
    config = w.config;
    storage = w.storage;
    keys = slice_set w.keys f (reference_on (slice_index w.keys f));
    records = w.records;
    translator = (r.translator.translate w.translator w.storage a).left;
    policy = r.policy.touch w.policy f;
    store = w.store;
  }

  -- The same with a byte stored: the change bit goes on too.
  abbrev pub stored_in : ℕ → ℕ → ℕ → World T P S → World T P S
  stored_in a byte f w = record {
    config = w.config;
    storage = slice_set w.storage (asked a f w) byte;
    keys = slice_set w.keys f (change_on (reference_on (slice_index w.keys f)));
    records = w.records;
    translator = (r.translator.translate w.translator w.storage a).left;
    policy = r.policy.touch w.policy f;
    store = w.store;
  }

  -- Fixed once more, up to 255 times: at 1 the frame leaves the policy.
  abbrev pub fixed_once : ℕ → World T P S → World T P S
  fixed_once f w = record {
    config = w.config;
    storage = w.storage;
    keys = w.keys;
    records = slice_set w.records f (record { page = page_in w.records f; fixes = min 255 (fixes_in w.records f + 1) });
    translator = w.translator;
    policy = cond (fixes_in w.records f == 0) (r.policy.leave w.policy f) w.policy;
    store = w.store;
  }

  -- Freed once: at 0 the frame is returned to the policy with its reference and change bit.
  abbrev pub freed_in : ℕ → World T P S → World T P S
  freed_in f w = record {
    config = w.config;
    storage = w.storage;
    keys = w.keys;
    records = slice_set w.records f (record { page = page_in w.records f; fixes = fixes_in w.records f - 1 });
    translator = w.translator;
    policy = cond (fixes_in w.records f == 1) (r.policy.return_frame w.policy f (referred (slice_index w.keys f)) (changed (slice_index w.keys f))) w.policy;
    store = w.store;
  }

  -- Settled: a frame with a changed page is written to its slot, its change bit and its page's bit 15 go off.
  abbrev pub settling : Bool → ℕ → ℕ → World T P S → World T P S
  settling dirty f q w = record {
    config = w.config;
    storage = cond dirty (put_half w.storage (entry_at q) (2 * (half w.storage (entry_at q) / 2))) w.storage;
    keys = cond dirty (slice_set w.keys f (change_off (slice_index w.keys f))) w.keys;
    records = w.records;
    translator = w.translator;
    policy = w.policy;
    store = cond dirty (put_out r.store w.store (q - w.config.supervisor) (frame w.storage f)) w.store;
  }

  abbrev pub settled_in : ℕ → World T P S → World T P S
  settled_in f w = settling (not (page_in w.records f == no_page) && changed (slice_index w.keys f)) f (page_in w.records f) w

  -- n frames from f on, in order.
  unfoldable pub swept : ℕ → ℕ → World T P S → World T P S
  swept f zero w = w
  swept f (suc n) w = swept (f + 1) n (settled_in f w)

  abbrev pub purged : World T P S → World T P S
  purged w = record {
    config = w.config;
    storage = w.storage;
    keys = w.keys;
    records = w.records;
    translator = r.translator.purge w.translator w.storage;
    policy = w.policy;
    store = w.store;
  }

  -- Each call, by what its tests have given.
  abbrev pub loading : ℕ → World T P S → Result Request Refusal → Result ℕ Refusal × World T P S
  loading a w (Err why) = (Err why, w)
  loading a w (Ok q) = (
    Ok (slice_index (brought q.page q.key w q.frame).storage (asked a (brought_frame w q.frame) (brought q.page q.key w q.frame))),
    loaded_in a (brought_frame w q.frame) (brought q.page q.key w q.frame),
  )

  abbrev pub storing : ℕ → ℕ → World T P S → Result Request Refusal → Result (Unit {0}) Refusal × World T P S
  storing a byte w (Err why) = (Err why, w)
  storing a byte w (Ok q) = (Ok tt, stored_in a byte (brought_frame w q.frame) (brought q.page q.key w q.frame))

  abbrev pub fixing : World T P S → Result Request Refusal → Result (Unit {0}) Refusal × World T P S
  fixing w (Err why) = (Err why, w)
  fixing w (Ok q) = (Ok tt, fixed_once (brought_frame w q.frame) (brought q.page q.key w q.frame))

  abbrev pub freeing : World T P S → Result Request Refusal → Result (Unit {0}) Refusal × World T P S
  freeing w (Err why) = (Err why, w)
  freeing w (Ok q) = (Ok tt, freed_in (brought_frame w q.frame) w)

  abbrev pub purging : World T P S → Result (Unit {0}) Refusal → Result (Unit {0}) Refusal × World T P S
  purging w (Err why) = (Err why, w)
  purging w (Ok _) = (Ok tt, purged w)

  abbrev pub sweeping : World T P S → Result (Unit {0}) Refusal → Result (Unit {0}) Refusal × World T P S
  sweeping w (Err why) = (Err why, w)
  sweeping w (Ok _) = (Ok tt, swept w.config.supervisor (w.config.frames - w.config.supervisor) w)

  -- The six calls.
  unfoldable pub load : ℕ → ℕ → World T P S → Result ℕ Refusal × World T P S
  load a key w = loading a w (decode_load w a key)

  unfoldable pub store : ℕ → ℕ → ℕ → World T P S → Result (Unit {0}) Refusal × World T P S
  store a key byte w = storing a byte w (decode_store w a key)

  unfoldable pub fix : ℕ → World T P S → Result (Unit {0}) Refusal × World T P S
  fix p w = fixing w (decode_fix w p)

  unfoldable pub free : ℕ → World T P S → Result (Unit {0}) Refusal × World T P S
  free p w = freeing w (decode_free w p)

  unfoldable pub purge : World T P S → Result (Unit {0}) Refusal × World T P S
  purge w = purging w (decode_purge w)

  unfoldable pub settle : World T P S → Result (Unit {0}) Refusal × World T P S
  settle w = sweeping w (decode_settle w)

  abbrev pub worked : Call → World T P S → Result Reply Refusal × World T P S
  worked (Load a key) w = (byte_answer (load a key w).0, (load a key w).1)
  worked (Store a key byte) w = (done_answer (store a key byte w).0, (store a key byte w).1)
  worked (Fix p) w = (done_answer (fix p w).0, (fix p w).1)
  worked (Free p) w = (done_answer (free p w).0, (free p w).1)
  worked Purge w = (done_answer (purge w).0, (purge w).1)
  worked Settle w = (done_answer (settle w).0, (settle w).1)
