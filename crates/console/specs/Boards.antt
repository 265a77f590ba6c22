-- A board as a world: its machine, and the main storage that its machine is handed.
use Rattle.std.specs.Prelude.{◌≡◌, ℕ, zero, suc, ◌*◌, Bool, ◌&&◌, if◌then◌else◌, not, List, [], ◌∷◌, ◌++◌, replicate, vec_items, nat_le}
use Rattle.frames.specs.declared.Policy as policies
use Rattle.model.specs.declared.shape.FrameRecord.{FrameRecord}
use Rattle.model.specs.World.{Parts, World}
use Rattle.machine.specs.Machine as machines
use Rattle.pages.specs.declared.store.PageStore as stores
use Rattle.table.specs.Table.{record_in}
use Rattle.translation.specs.declared.translator.Translator as translators
use Rattle.console.specs.declared.answer.Answer.{Answer}
use Rattle.console.specs.declared.answer.Digests.{Digests}
use Rattle.console.specs.declared.board.Board.{Board}
use Rattle.listing.specs.Digests.{digest_of}
use Rattle.listing.specs.Records.{records_bytes}
use Rattle.listing.specs.Slots.{store_bytes}
use Rattle.pages.specs.Store as page_stores

module _ {X Y Z : Type 0} (t : translators.Ghosts X) (p : policies.Ghosts Y) (s : stores.Ghosts Z) where
  abbrev pub world : Board X Y Z → World t.Model p.Model s.Model
  world b = machines.world t p s b.machine (vec_items b.storage)

  -- A command is a call of the machine by a rule: it says what the rule answers, and the board is left as by the rule.
  pub record Works {A : Type 0} (said : A → Answer)
      (rule : Parts t.Model p.Model s.Model → World t.Model p.Model s.Model → A × World t.Model p.Model s.Model) (answer : Answer)
      (before after : World t.Model p.Model s.Model) : Type 0 where
    pub answers : answer ≡ said (rule (machines.rules t p s) before).0
    pub leaves : after ≡ (rule (machines.rules t p s) before).1

-- Main storage as IPL finds it: made anew for N frames where no STORAGE gave it a length and N is at most 256.
abbrev pub prepared : Bool → ℕ → List ℕ → List ℕ
prepared sized frames storage = if not sized && nat_le frames 256 then replicate (2048 * frames) 0 else storage

-- The records of the frames below n.
unfoldable pub records_below : List FrameRecord → ℕ → List FrameRecord
records_below records zero = []
records_below records (suc n) = records_below records n ++ (record_in records n ∷ [])

-- Six digests, by which two boards are compared.
abbrev pub digests_of : {T P S : Type 0} → page_stores.Rules S → World T P S → List ℕ → List ℕ → Digests
digests_of r w lines pairs = record {
  storage = digest_of w.storage;
  keys = digest_of w.keys;
  frames = digest_of (records_bytes (records_below w.records 256));
  policy = digest_of lines;
  pairs = digest_of pairs;
  store = digest_of (store_bytes r w.store);
}
