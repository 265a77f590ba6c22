-- What the answers to commands say.
use Rattle.std.specs.Prelude.{◌≡◌, ℕ, ◌+◌, ◌*◌, ◌/◌, Bool, true, false, cond, if◌then◌else◌, List, Some, None, Ok, Err, vec_items, string_bytes, Option, Result, nat_lt}
use Rattle.std.specs.Option.{option_map}
use Rattle.dataset.specs.declared.refusal.MarkRefusal.{MarkRefusal}
use Rattle.dataset.specs.declared.refusal.OpenRefusal.{OpenRefusal}
use Rattle.dataset.specs.Marks.{number_of as number_of_mark}
use Rattle.model.specs.declared.calls.IplRefusal.{IplRefusal}
use Rattle.model.specs.declared.calls.Refusal.{Refusal as CallRefusal}
use Rattle.model.specs.declared.shape.FrameRecord.{FrameRecord}
use Rattle.pages.specs.declared.fault.Fault.{Fault}
use Rattle.pages.specs.Store.{Rules, refusal_at}
use Rattle.parts.specs.Marks.{Marks}
use Rattle.storage.specs.Bytes.{fits, half_at}
use Rattle.tables.specs.declared.Refusal.{Refusal}
use Rattle.tables.specs.declared.Refusal.TheVariants.{Addressing}
use Rattle.script.specs.declared.verb.Verb.{Verb}
use Rattle.script.specs.declared.verb.Verb.TheVariants as Verbs
use Rattle.script.specs.declared.wrong.Wrong.{Wrong}
use Rattle.script.specs.declared.wrong.Wrong.TheVariants.{NoMarks, Started}
use Rattle.console.specs.declared.answer.Answer.{Answer}
use Rattle.console.specs.declared.answer.Answer.TheVariants.{Byte, Bytes, Done, Entry, Frames, Keys, Lines, NotOpened, NotStarted, Opened, Page, Real, Refused, Words}
use Rattle.console.specs.declared.answer.Refusal.TheVariants as Why
use Rattle.listing.specs.Digests.{digest_text}
use Rattle.listing.specs.Hexadecimal.{hex_of, word_bytes}
use Rattle.listing.specs.Memory.{bytes_at}

-- The answer to WALK.
abbrev pub walked : Result ℕ Refusal → Answer
walked (Ok real) = Real real
walked (Err why) = Refused Verbs.Walk (Why.Walk why)

-- A command that asks for bytes which are not all there.
abbrev pub not_there : Verb → Answer
not_there verb = Refused verb (Why.Walk Addressing)

-- The answer to ALTER, by whether all of the bytes are in storage.
abbrev pub alter_answer : Bool → Answer
alter_answer ok = cond ok (Done Verbs.Alter) (not_there Verbs.Alter)

-- An answer to DISPLAY: the digits of the bytes where all of them are in storage, and else a refusal with Addressing.
abbrev pub Displays : List ℕ → ℕ → ℕ → Answer → Type 0
Displays s at n (Bytes a digits) = (fits n s at ≡ true) × (a ≡ at) × (string_bytes digits ≡ hex_of (bytes_at s at n))
Displays s at n (Refused verb why) = (fits n s at ≡ false) × (Refused verb why ≡ not_there Verbs.Display)
Displays s at n _ = ⊥

-- An answer to KEYS: the digits of the keys where all of them are there, and else a refusal with Addressing.
abbrev pub ShowsKeys : List ℕ → ℕ → ℕ → Answer → Type 0
ShowsKeys keys first n (Keys f digits) = (fits n keys first ≡ true) × (f ≡ first) × (string_bytes digits ≡ hex_of (bytes_at keys first n))
ShowsKeys keys first n (Refused verb why) = (fits n keys first ≡ false) × (Refused verb why ≡ not_there Verbs.Keys)
ShowsKeys keys first n _ = ⊥

-- An answer to CONTROLS: the digits of both words.
abbrev pub ShowsControls : ℕ → ℕ → Answer → Type 0
ShowsControls cr0 cr1 (Words x y) = (string_bytes x ≡ hex_of (word_bytes cr0)) × (string_bytes y ≡ hex_of (word_bytes cr1))
ShowsControls cr0 cr1 _ = ⊥

-- An answer to SLOT: the digits of the digest of what a read gives, and the mark; or why the read is refused.
abbrev pub ShowsSlot : {M : Type 0} → Rules M → M → Option ℕ → ℕ → Answer → Type 0
ShowsSlot r m mark n (Page k digest held) =
    (refusal_at r m n 2048 ≡ None) × (k ≡ n) × (string_bytes digest ≡ digest_text (r.slot m n)) × (option_map number_of_mark held ≡ mark)
ShowsSlot r m mark n (Refused verb why) = (verb ≡ Verbs.Slot) × (option_map Why.Store (refusal_at r m n 2048) ≡ Some why)
ShowsSlot r m mark n _ = ⊥

-- The answer to WIRE.
abbrev pub wired_answer : Option OpenRefusal → Answer
wired_answer None = Done Verbs.Wire
wired_answer (Some why) = Refused Verbs.Wire (Why.Open why)

-- The answers to BAD and MARK, which want a data set, and a machine that has not started.
abbrev pub bad_said : Option (Result (Unit {0}) Fault) → Result Answer Wrong
bad_said None = Err (NoMarks Verbs.Bad)
bad_said (Some (Ok u)) = Ok (Done Verbs.Bad)
bad_said (Some (Err fault)) = Ok (Refused Verbs.Bad (Why.Store fault.refusal))

abbrev pub bad_answer : {S : Type 0} → Marks S → Bool → S → ℕ → Result Answer Wrong
bad_answer marks fresh store k = if fresh then bad_said (marks.bad store k) else Err (Started Verbs.Bad)

abbrev pub mark_said : Option (Result (Unit {0}) MarkRefusal) → Result Answer Wrong
mark_said None = Err (NoMarks Verbs.Mark)
mark_said (Some (Ok u)) = Ok Opened
mark_said (Some (Err why)) = Ok (NotOpened why)

abbrev pub mark_answer : {S : Type 0} → Marks S → Bool → S → ℕ → ℕ → Result Answer Wrong
mark_answer marks fresh store k v = if fresh then mark_said (marks.reopened store k v) else Err (Started Verbs.Mark)

-- The bytes of the store afterwards.
abbrev pub marked_area : {S : Type 0} → Marks S → Bool → S → ℕ → ℕ → List ℕ
marked_area marks fresh store k v = if fresh then marks.marked store k v else marks.area store

-- The answers to IPL and to the calls of the machine.
abbrev pub ipl_said : Result (Unit {0}) IplRefusal → Answer
ipl_said (Ok u) = Done Verbs.Ipl
ipl_said (Err why) = NotStarted why

abbrev pub load_said : Result ℕ CallRefusal → Answer
load_said (Ok byte) = Byte byte
load_said (Err why) = Refused Verbs.Load (Why.Call why)

abbrev pub call_said : Verb → Result (Unit {0}) CallRefusal → Answer
call_said verb (Ok u) = Done verb
call_said verb (Err why) = Refused verb (Why.Call why)

-- The answer to ENTRY: the tables have an entry for each of 32 pages a segment, and it has to stand in storage.
abbrev pub entry_said : ℕ → ℕ → Option ℕ → Answer
entry_said page at None = not_there Verbs.Entry
entry_said page at (Some entry) = Entry page at entry

abbrev pub entry_answer : ℕ → List ℕ → ℕ → Answer
entry_answer pages s page =
    if nat_lt page (32 * ((pages + 31) / 32)) then entry_said page (2048 + 2 * page) (half_at s (2048 + 2 * page)) else not_there Verbs.Entry

-- An answer to FRAMES has these records.
abbrev pub ShowsFrames : List FrameRecord → Answer → Type 0
ShowsFrames records (Frames held) = vec_items held ≡ records
ShowsFrames records _ = ⊥

-- An answer that is these lines.
abbrev pub ShowsLines : List ℕ → Answer → Type 0
ShowsLines lines (Lines text) = string_bytes text ≡ lines
ShowsLines lines _ = ⊥
