-- Errors: when one shows a true fault of the words behind a verb.
use Rattle.std.specs.Prelude.{◌≡◌, ◌≢◌, ℕ, ◌<◌, ◌≤◌, ◌⊎◌, Bool, List, [], length, drop, Err, IsSome, IsSomeAnd, None, Option, codes, nat_eq}
use Rattle.std.specs.List.{after_first, before_first, position_or_len}
use Rattle.std.proofs.Common.{Bor}
use Rattle.script.specs.Commands.{word_at}
use Rattle.script.specs.Numbers.{ReadsTo}
use Rattle.script.specs.Said.{value_for, values}
use Rattle.script.specs.Wirings.{Chosen, SaysSource}
use Rattle.script.specs.Words.{kind_word, policy_word, translator_word}
use Rattle.script.specs.declared.number.NotNumber.{NotNumber}
use Rattle.script.specs.declared.start.Words.{Words as StartWords}
use Rattle.script.specs.declared.verb.Verb.{Verb}
use Rattle.script.specs.declared.verb.Verb.TheVariants.{Help, Wire, Save, Bad, Mark, Storage, Display, Alter, Walk, Controls, Slot, Ipl, Load, Store, Fix, Free, Purge, Settle, Entry, Keys, Frames, Queues, Pairs, State}
use Rattle.script.specs.declared.wiring.Kind.{Kind}
use Rattle.script.specs.declared.wiring.Source.{Source}
use Rattle.script.specs.declared.wiring.Words.{Words as WiringWords}
use Rattle.script.specs.declared.wrong.Wrong.{Wrong}
use Rattle.script.specs.declared.wrong.Wrong.TheVariants.{Arguments, Number, UnknownWord, Twice, Memory}

-- A text does not read as a number up to the largest one, for the reason that is given.
abbrev pub Misreads : List ℕ → ℕ → NotNumber → Type 0
Misreads text largest why = ReadsTo text largest (Err why)

-- A text does not read as a word of 32 bits.
abbrev pub NoWord : List ℕ → NotNumber → Type 0
NoWord text why = Misreads text 4294967295 why

-- A text does not read as a byte.
abbrev pub NoByte : List ℕ → NotNumber → Type 0
NoByte text why = Misreads text 255 why

-- The error says of what stands behind the verb that it is no number, and why it is none.
abbrev pub IsMisread : Verb → (NotNumber → Type 0) → Wrong → Type 0
IsMisread verb Misses (Number v why) = (v ≡ verb) × Misses why
IsMisread verb Misses _ = ⊥

-- One of the words has a fault.
abbrev pub SomeWord : (List ℕ → Type 0) → List (Bor (List ℕ)) → Type 0
SomeWord Fault words = (i : ℕ) × (i < length words) × Fault (word_at words i)

-- The error shows a true fault of the words of ALTER that are to be bytes, or that there is no memory.
abbrev pub BytesFaulty : List (Bor (List ℕ)) → Wrong → Type 0
BytesFaulty words (Number v why) = (v ≡ Alter) × SomeWord (λ word. NoByte word why) words
BytesFaulty words Memory = Unit {0}
BytesFaulty words _ = ⊥

-- A name stands twice or more.
abbrev pub Repeats : List ℕ → List (Bor (List ℕ)) → Type 0
Repeats name words = 2 ≤ length (values name words)

-- A word has a value for a name, and something is held for the name already.
abbrev pub Again : {A : Type 0} → Option (List ℕ) → Option A → Type 0
Again value held = IsSome value × IsSome held

abbrev pub is_comma : ℕ → Bool
is_comma c = nat_eq c 44

-- A text has no comma, or it has one.
abbrev pub NoComma : List ℕ → Type 0
NoComma text = position_or_len is_comma text ≡ length text

abbrev pub HasComma : List ℕ → Type 0
HasComma text = position_or_len is_comma text < length text

-- A value of partition= has fewer than two commas.
abbrev pub NoPartition : List ℕ → Type 0
NoPartition text = NoComma text ⊎ NoComma (after_first is_comma text)

-- A value of partition= has two commas or more, and the first page in front of the first, the count in front of the second
-- or the key behind it is no number, for the reason that is given.
abbrev pub PartitionMisreads : List ℕ → NotNumber → Type 0
PartitionMisreads text why =
    HasComma text × HasComma (after_first is_comma text)
    × (NoWord (before_first is_comma text) why
    ⊎ (NoWord (before_first is_comma (after_first is_comma text)) why ⊎ NoByte (after_first is_comma (after_first is_comma text)) why))

-- The error shows a true fault of a value of partition=.
abbrev pub PartitionFaulty : List ℕ → Wrong → Type 0
PartitionFaulty text (Arguments v) = (v ≡ Ipl) × NoPartition text
PartitionFaulty text (Number v why) = (v ≡ Ipl) × PartitionMisreads text why
PartitionFaulty text _ = ⊥

-- A word of IPL is of none of its names.
abbrev pub StartUnknown : List ℕ → Type 0
StartUnknown word =
    (value_for (codes "frames") word ≡ None) × (value_for (codes "supervisor") word ≡ None)
    × (value_for (codes "pages") word ≡ None) × (value_for (codes "partition") word ≡ None)

-- A word of IPL has a partition that is none.
abbrev pub StartUnfit : List ℕ → Type 0
StartUnfit word = IsSomeAnd (value_for (codes "partition") word) NoPartition

-- A word of IPL has a number that is none, for the reason that is given.
abbrev pub StartMisreads : List ℕ → NotNumber → Type 0
StartMisreads word why =
    IsSomeAnd (value_for (codes "frames") word) (λ text. NoWord text why)
    ⊎ (IsSomeAnd (value_for (codes "supervisor") word) (λ text. NoWord text why)
    ⊎ (IsSomeAnd (value_for (codes "pages") word) (λ text. NoWord text why)
    ⊎ IsSomeAnd (value_for (codes "partition") word) (λ text. PartitionMisreads text why)))

-- The error shows a true fault of a word of IPL, by what was met in front of it.
abbrev pub StartWordFaulty : StartWords → List ℕ → Wrong → Type 0
StartWordFaulty met word (Arguments v) = (v ≡ Ipl) × StartUnfit word
StartWordFaulty met word (Number v why) = (v ≡ Ipl) × StartMisreads word why
StartWordFaulty met word (UnknownWord v) = (v ≡ Ipl) × StartUnknown word
StartWordFaulty met word (Twice v) =
    (v ≡ Ipl)
    × (Again (value_for (codes "frames") word) met.frames
    ⊎ (Again (value_for (codes "supervisor") word) met.supervisor ⊎ Again (value_for (codes "pages") word) met.pages))
StartWordFaulty met word Memory = Unit {0}
StartWordFaulty met word _ = ⊥

-- A text is none of the values that are spelled.
abbrev pub NoValue : {A : Type 0} → (A → List ℕ) → List ℕ → Type 0
NoValue {A} spelling text = (x : A) → spelling x ≢ text

-- A word of WIRE is of none of its names, or its value is none of those of its name.
abbrev pub WiringUnknown : List ℕ → Type 0
WiringUnknown word =
    ((value_for (codes "policy") word ≡ None) × (value_for (codes "translator") word ≡ None)
    × (value_for (codes "store") word ≡ None) × (value_for (codes "slots") word ≡ None) × (value_for (codes "file") word ≡ None))
    ⊎ (IsSomeAnd (value_for (codes "policy") word) (NoValue policy_word)
    ⊎ (IsSomeAnd (value_for (codes "translator") word) (NoValue translator_word)
    ⊎ IsSomeAnd (value_for (codes "store") word) (NoValue kind_word)))

-- A word of WIRE has a number of slots that is none, for the reason that is given.
abbrev pub WiringMisreads : List ℕ → NotNumber → Type 0
WiringMisreads word why = IsSomeAnd (value_for (codes "slots") word) (λ text. Misreads text 16384 why)

-- The error shows a true fault of a word of WIRE, by what was met in front of it.
abbrev pub WiringWordFaulty : WiringWords → List ℕ → Wrong → Type 0
WiringWordFaulty met word (Number v why) = (v ≡ Wire) × WiringMisreads word why
WiringWordFaulty met word (UnknownWord v) = (v ≡ Wire) × WiringUnknown word
WiringWordFaulty met word (Twice v) =
    (v ≡ Wire)
    × (Again (value_for (codes "policy") word) met.policy
    ⊎ (Again (value_for (codes "translator") word) met.translator
    ⊎ (Again (value_for (codes "store") word) met.kind
    ⊎ (Again (value_for (codes "slots") word) met.slots ⊎ Again (value_for (codes "file") word) met.file))))
WiringWordFaulty met word _ = ⊥

-- What was met of store=, slots= and file= gives no source of the pages.
abbrev pub NoneChosen : Option Kind → Option ℕ → Option (Bor (List ℕ)) → Type 0
NoneChosen kind slots file = (source : Source) → ¬ Chosen kind slots file source

-- The error shows that what was met gives no source, or that there is no memory.
abbrev pub SourceFaulty : Option Kind → Option ℕ → Option (Bor (List ℕ)) → Wrong → Type 0
SourceFaulty kind slots file (Arguments v) = (v ≡ Wire) × NoneChosen kind slots file
SourceFaulty kind slots file Memory = Unit {0}
SourceFaulty kind slots file _ = ⊥

-- The words of store=, slots= and file= say no source of the pages.
abbrev pub NoSource : List (Bor (List ℕ)) → Type 0
NoSource words = (source : Source) → ¬ SaysSource (values (codes "store") words) (values (codes "slots") words) (values (codes "file") words) source

-- Other words must follow the verb: it takes another number of them; WIRE wants a policy=, a translator= and a source;
-- a partition= of IPL wants two commas.
abbrev pub Unfit : Verb → List (Bor (List ℕ)) → Type 0
Unfit Help words = length words ≢ 0
Unfit Wire words = (values (codes "policy") words ≡ []) ⊎ ((values (codes "translator") words ≡ []) ⊎ NoSource words)
Unfit Save words = length words ≢ 1
Unfit Bad words = length words ≢ 1
Unfit Mark words = length words ≢ 2
Unfit Storage words = length words ≢ 1
Unfit Display words = length words ≢ 2
Unfit Alter words = length words < 2
Unfit Walk words = (length words ≢ 1) × (length words ≢ 3)
Unfit Controls words = length words ≢ 0
Unfit Slot words = length words ≢ 1
Unfit Ipl words = SomeWord StartUnfit words
Unfit Load words = length words ≢ 2
Unfit Store words = length words ≢ 3
Unfit Fix words = length words ≢ 1
Unfit Free words = length words ≢ 1
Unfit Purge words = length words ≢ 0
Unfit Settle words = length words ≢ 0
Unfit Entry words = length words ≢ 1
Unfit Keys words = length words ≢ 2
Unfit Frames words = length words ≢ 0
Unfit Queues words = length words ≢ 0
Unfit Pairs words = length words ≢ 0
Unfit State words = length words ≢ 0

-- The words behind the verb are as many as it takes, and what is to be a number is none, for the reason that is given.
abbrev pub NoNumber : Verb → List (Bor (List ℕ)) → NotNumber → Type 0
NoNumber Wire words why = SomeWord (λ word. WiringMisreads word why) words
NoNumber Bad words why = (length words ≡ 1) × NoWord (word_at words 0) why
NoNumber Mark words why = (length words ≡ 2) × (NoWord (word_at words 0) why ⊎ NoByte (word_at words 1) why)
NoNumber Storage words why = (length words ≡ 1) × Misreads (word_at words 0) 67108864 why
NoNumber Display words why = (length words ≡ 2) × (NoWord (word_at words 0) why ⊎ NoWord (word_at words 1) why)
NoNumber Alter words why = (2 ≤ length words) × (NoWord (word_at words 0) why ⊎ SomeWord (λ word. NoByte word why) (drop 1 words))
NoNumber Walk words why =
    ((length words ≡ 1) × NoWord (word_at words 0) why)
    ⊎ ((length words ≡ 3) × (NoWord (word_at words 0) why ⊎ (NoWord (word_at words 1) why ⊎ NoWord (word_at words 2) why)))
NoNumber Slot words why = (length words ≡ 1) × NoWord (word_at words 0) why
NoNumber Ipl words why = SomeWord (λ word. StartMisreads word why) words
NoNumber Load words why = (length words ≡ 2) × (NoWord (word_at words 0) why ⊎ NoByte (word_at words 1) why)
NoNumber Store words why = (length words ≡ 3) × (NoWord (word_at words 0) why ⊎ (NoByte (word_at words 1) why ⊎ NoByte (word_at words 2) why))
NoNumber Fix words why = (length words ≡ 1) × NoWord (word_at words 0) why
NoNumber Free words why = (length words ≡ 1) × NoWord (word_at words 0) why
NoNumber Entry words why = (length words ≡ 1) × NoWord (word_at words 0) why
NoNumber Keys words why = (length words ≡ 2) × (NoWord (word_at words 0) why ⊎ NoWord (word_at words 1) why)
NoNumber _ words why = ⊥

-- A word behind WIRE or IPL is none that it knows.
abbrev pub Unknown : Verb → List (Bor (List ℕ)) → Type 0
Unknown Wire words = SomeWord WiringUnknown words
Unknown Ipl words = SomeWord StartUnknown words
Unknown _ words = ⊥

-- A word behind WIRE or IPL that may stand once stands twice.
abbrev pub Repeated : Verb → List (Bor (List ℕ)) → Type 0
Repeated Wire words =
    Repeats (codes "policy") words
    ⊎ (Repeats (codes "translator") words ⊎ (Repeats (codes "store") words ⊎ (Repeats (codes "slots") words ⊎ Repeats (codes "file") words)))
Repeated Ipl words = Repeats (codes "frames") words ⊎ (Repeats (codes "supervisor") words ⊎ Repeats (codes "pages") words)
Repeated _ words = ⊥

-- The error shows a true fault of the words behind a verb, and names the verb. That there is no memory may always come.
abbrev pub Faulty : Verb → List (Bor (List ℕ)) → Wrong → Type 0
Faulty verb words (Arguments v) = (v ≡ verb) × Unfit verb words
Faulty verb words (Number v why) = (v ≡ verb) × NoNumber verb words why
Faulty verb words (UnknownWord v) = (v ≡ verb) × Unknown verb words
Faulty verb words (Twice v) = (v ≡ verb) × Repeated verb words
Faulty verb words Memory = Unit {0}
Faulty verb words _ = ⊥
