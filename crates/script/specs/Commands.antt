-- What commands are called, and what they say of the words behind their verbs.
use Rattle.std.specs.Prelude.{◌≡◌, ℕ, ◌≤◌, List, [], None, Some, Option, length, drop, slice_get, string_bytes}
use Rattle.std.specs.List.{AllZip}
use Rattle.std.specs.Option.{option_map_or}
use Rattle.std.proofs.Common.{Bor}
use Rattle.tables.specs.declared.Controls.{Controls as Words}
use Rattle.script.specs.Numbers.{Writes}
use Rattle.script.specs.Starts.{SaysStart}
use Rattle.script.specs.Wirings.{SaysWiring}
use Rattle.script.specs.declared.command.Command.{Command}
use Rattle.script.specs.declared.command.Command.TheVariants.{Help, Wire, Save, Bad, Mark, Storage, Display, Alter, Walk, Controls, Slot, Ipl, Load, Store, Fix, Free, Purge, Settle, Entry, Keys, Frames, Queues, Pairs, State}
use Rattle.script.specs.declared.verb.Verb.{Verb}

-- What a command is called.
abbrev pub verb_of : Command → Verb
verb_of Help = Verb.Help
verb_of (Wire wiring) = Verb.Wire
verb_of (Save path) = Verb.Save
verb_of (Bad slot) = Verb.Bad
verb_of (Mark slot value) = Verb.Mark
verb_of (Storage bytes) = Verb.Storage
verb_of (Display address count) = Verb.Display
verb_of (Alter address bytes) = Verb.Alter
verb_of (Walk address controls) = Verb.Walk
verb_of Controls = Verb.Controls
verb_of (Slot slot) = Verb.Slot
verb_of (Ipl start) = Verb.Ipl
verb_of (Load address key) = Verb.Load
verb_of (Store address key byte) = Verb.Store
verb_of (Fix page) = Verb.Fix
verb_of (Free page) = Verb.Free
verb_of Purge = Verb.Purge
verb_of Settle = Verb.Settle
verb_of (Entry page) = Verb.Entry
verb_of (Keys first count) = Verb.Keys
verb_of Frames = Verb.Frames
verb_of Queues = Verb.Queues
verb_of Pairs = Verb.Pairs
verb_of State = Verb.State

-- The text of the word at a place; no bytes where there is none.
abbrev pub word_at : List (Bor (List ℕ)) → ℕ → List ℕ
word_at words i = option_map_or (λ (w : Bor (List ℕ)). w.now) (slice_get words i) []

-- Each word writes the byte at its place, and there are as many bytes as words.
abbrev pub WriteBytes : List (Bor (List ℕ)) → List ℕ → Type 0
WriteBytes words bytes = AllZip (λ w byte. Writes w.now byte) words bytes

-- The words behind WALK: an address alone, or with both control words.
abbrev pub SaysWalk : List (Bor (List ℕ)) → ℕ → Option Words → Type 0
SaysWalk words address None = (length words ≡ 1) × Writes (word_at words 0) address
SaysWalk words address (Some controls) =
    (length words ≡ 3) × Writes (word_at words 0) address × Writes (word_at words 1) controls.cr0 × Writes (word_at words 2) controls.cr1

-- What a command says of the words behind its verb.
abbrev pub Says : List (Bor (List ℕ)) → Command → Type 0
Says words Help = length words ≡ 0
Says words (Wire wiring) = SaysWiring words wiring
Says words (Save path) = (length words ≡ 1) × (string_bytes path ≡ word_at words 0)
Says words (Bad slot) = (length words ≡ 1) × Writes (word_at words 0) slot
Says words (Mark slot value) = (length words ≡ 2) × Writes (word_at words 0) slot × Writes (word_at words 1) value
Says words (Storage bytes) = (length words ≡ 1) × Writes (word_at words 0) bytes × (bytes ≤ 67108864)
Says words (Display address count) = (length words ≡ 2) × Writes (word_at words 0) address × Writes (word_at words 1) count
Says words (Alter address bytes) =
    (2 ≤ length words) × Writes (word_at words 0) address × WriteBytes (drop 1 words) bytes.items
Says words (Walk address controls) = SaysWalk words address controls
Says words Controls = length words ≡ 0
Says words (Slot slot) = (length words ≡ 1) × Writes (word_at words 0) slot
Says words (Ipl start) = SaysStart words start
Says words (Load address key) = (length words ≡ 2) × Writes (word_at words 0) address × Writes (word_at words 1) key
Says words (Store address key byte) =
    (length words ≡ 3) × Writes (word_at words 0) address × Writes (word_at words 1) key × Writes (word_at words 2) byte
Says words (Fix page) = (length words ≡ 1) × Writes (word_at words 0) page
Says words (Free page) = (length words ≡ 1) × Writes (word_at words 0) page
Says words Purge = length words ≡ 0
Says words Settle = length words ≡ 0
Says words (Entry page) = (length words ≡ 1) × Writes (word_at words 0) page
Says words (Keys first count) = (length words ≡ 2) × Writes (word_at words 0) first × Writes (word_at words 1) count
Says words Frames = length words ≡ 0
Says words Queues = length words ≡ 0
Says words Pairs = length words ≡ 0
Says words State = length words ≡ 0
