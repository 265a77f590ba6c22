-- Errors of words of the form name=value.
use Rattle.std.proofs.Common.{◌≡◌, ◌≢◌, ℕ, ◌+◌, ◌<◌, ◌≤◌, List, [], ◌∷◌, ◌++◌, length, get_or, take, drop, Option, Some, None, Bool, true, false, cond, Result, Ok, Err, IfErr, MatchResult, MatchOption, Bor, codes, nat_eq, refl, sym, ap, ◌∙◌, inl, inr, zero, suc, arith, length-append, append_assoc, lit<}
use Rattle.std.specs.Option.{IsSome, IsSomeAnd, ok_or}
use Rattle.std.specs.Prelude.{String, string_bytes}
use Rattle.std.specs.Result.{IsErrAnd}
use Rattle.std.specs.List.{after_first, before_first, cons_option, starts_with}
use Rattle.std.specs.Cmp.Lexicographic.{same_text}
use Rattle.std.proofs.Math.ListN.{take-append-drop}
use Rattle.std.proofs.lemmas.List.Elements.{filter_map-append}
use Rattle.std.proofs.lemmas.Str.Pattern.{IsSplitOnceResult, split_after, split_once_first}
use Rattle.script.proofs.Named.{AtMostOnce}
use Rattle.script.specs.Faults.{Again, Faulty, HasComma, is_comma, IsMisread, NoneChosen, NoPartition, SourceFaulty, WiringMisreads, WiringUnknown, WiringWordFaulty, PartitionFaulty, PartitionMisreads, Repeats, StartMisreads, StartWordFaulty}
use Rattle.script.specs.Numbers.{Writes}
use Rattle.script.specs.Said.{Once, value_for, values}
use Rattle.script.specs.Wirings.{IsHeld, Names, SaysSource, Spells, WritesSlots}
use Rattle.script.specs.Words.{kind_word, policy_word, translator_word}
use Rattle.script.specs.declared.number.NotNumber.{NotNumber}
use Rattle.script.specs.declared.start.Words.{Words as StartWords}
use Rattle.script.specs.declared.verb.Verb.TheVariants.{Ipl, Wire}
use Rattle.script.specs.declared.wiring.Kind.{Kind}
use Rattle.script.specs.declared.wiring.Kind.TheVariants.{DataSet, Plain}
use Rattle.script.specs.declared.wiring.Source.{Source}
use Rattle.script.specs.declared.wiring.Words.{Words as WiringWords}
use Rattle.script.specs.declared.wrong.Wrong.{Wrong}
use Rattle.script.specs.declared.wrong.Wrong.TheVariants.{Arguments, Memory, Number, Twice, UnknownWord}
use Rattle.script.proofs.Faulty.{word_read}
use Rattle.script.proofs.Named.{said_all, values_more}

-- A text has no =.
abbrev pub plain : List ℕ → Bool
plain [] = true
plain (c ∷ cs) = cond (nat_eq c 61) false (plain cs)

other_case : (a b : Bool) → cond a false b ≡ true → b ≡ true
other_case true b h = cc
other_case false b h = h

plain_at : (text : List ℕ) → plain text ≡ true → (i : ℕ) → i < length text → get_or text i 0 ≢ 61
plain_at [] h i lt = absurd (omega arith)
plain_at (c ∷ cs) h zero lt = λ e. let k : plain (61 ∷ cs) ≡ true = rw e at h in cc
plain_at (c ∷ cs) h (suc i) lt = plain_at cs (other_case (nat_eq c 61) (plain cs) h) i (omega arith)

no_value_if : (b : Bool) (name word : List ℕ) → b ≡ starts_with nat_eq word (name ++ 61 ∷ []) → ((rest : List ℕ) → word ≢ name ++ (61 ∷ rest))
    → cond b (Some (drop (length name + 1) word)) None ≡ None
no_value_if false name word e h = refl
no_value_if true name word e h =
    let k = length (name ++ 61 ∷ []) in
    let begins : name ++ 61 ∷ [] ≡ take k word = same_text (name ++ 61 ∷ []) (take k word) e in
    absurd (h (drop k word) (sym (take-append-drop k word) ∙ ap (λ front. front ++ drop k word) (sym begins) ∙ append_assoc name (61 ∷ []) (drop k word)))

-- A word that does not begin with a name and = has no value for the name.
no_value : (name word : List ℕ) → ((rest : List ℕ) → word ≢ name ++ (61 ∷ rest)) → value_for name word ≡ None
no_value name word h = no_value_if (starts_with nat_eq word (name ++ 61 ∷ [])) name word refl h

clash : (name rest : List ℕ) (r : Option (Bor (List ℕ) × Bor (List ℕ))) → MatchOption r ⊥ (λ x. (x.0.now ≡ name) × (x.1.now ≡ rest))
    → MatchOption r (Unit {0}) (λ x. x.0.now ≢ name) → ⊥
clash name rest None h other = h
clash name rest (Some x) h other = other h.0

-- A word that has no =, or another name in front of it, has no value for a name.
pub other_name : (name word : List ℕ) (r : Option (Bor (List ℕ) × Bor (List ℕ))) → plain name ≡ true → IsSplitOnceResult 61 word r
    → MatchOption r (Unit {0}) (λ x. x.0.now ≢ name) → value_for name word ≡ None
other_name name word r ok split other =
    no_value name word (λ rest e. clash name rest r (split_after 61 word name rest r split (lit< tt) e (plain_at name ok)) other)

one_more : {A : Type 0} (o : Option A) → IsSome o → length (cons_option o []) ≡ 1
one_more None h = cc
one_more (Some x) h = refl

-- What stands twice, by what was met in front of a word.
repeated : {A : Type 0} (Says : List ℕ → A → Type 0) (name : List ℕ) (words : List (Bor (List ℕ))) (i : ℕ) (d : Bor (List ℕ)) (held : Option A) → i < length words
    → AtMostOnce Says (values name (take i words)) held → Again (value_for name (get_or words i d).now) held → Repeats name words
repeated Says name words i d None lt had h = absurd (let k = h.1 in cc)
repeated Says name words i d (Some x) lt had h =
    let front = values name (take (i + 1) words) in
    let back = values name (drop (i + 1) words) in
    let added = cons_option (value_for name (get_or words i d).now) [] in
    let whole : values name words ≡ front ++ back
    = ap (values name) (sym (take-append-drop (i + 1) words))
    ∙ filter_map-append (λ (w : Bor (List ℕ)). value_for name w.now) (take (i + 1) words) (drop (i + 1) words) in
    let all : length (values name words) ≡ length front + length back = ap length whole ∙ length-append front back in
    let more : length front ≡ length (values name (take i words)) + length added
    = ap length (values_more name words i d lt) ∙ length-append (values name (take i words)) added in
    let one : length added ≡ 1 = one_more (value_for name (get_or words i d).now) h.0 in
    let first : length (values name (take i words)) ≡ 1 = ap length had.1 in
    omega arith

some_and : {A : Type 0} (P : A → Type 0) (o : Option A) (x : A) → o ≡ Some x → P x → IsSomeAnd o P
some_and P o x e h = rw e h

-- The parts of a text at its first comma.
pub cut_comma : (text : List ℕ) (r : Option (Bor (List ℕ) × Bor (List ℕ))) (x : Bor (List ℕ) × Bor (List ℕ)) → IsSplitOnceResult 44 text r → r ≡ Some x
    → (x.0.now ≡ before_first is_comma text) × (x.1.now ≡ after_first is_comma text) × HasComma text
cut_comma text r x split is = let parts = rw is at (split_once_first 44 text r split (lit< tt)) in (parts.1, parts.2, parts.0)

partition_number : (value : List ℕ) (Misses : NotNumber → Type 0) (e : Wrong) → IsMisread Ipl Misses e
    → ((why : NotNumber) → Misses why → PartitionMisreads value why) → PartitionFaulty value e
partition_number value Misses (Number v why) h f = (h.0, f why h.1)
partition_number value Misses _ h f = absurd h

-- A part of a partition that is no number.
pub partition_misread : {A : Type 0} (r : Result A Wrong) (Q : A → Type 0) (value : List ℕ) (Misses : NotNumber → Type 0) (e : Wrong) → IsErrAnd r (λ y. y ≡ e)
    → IsMisread Ipl Misses e → ((why : NotNumber) → Misses why → PartitionMisreads value why) → MatchResult r Q (PartitionFaulty value)
partition_misread (Ok x) Q value Misses e same h f = absurd same
partition_misread (Err y) Q value Misses e same h f = rw same (partition_number value Misses e h f)

start_number : (met : StartWords) (word : List ℕ) (Misses : NotNumber → Type 0) (e : Wrong) → IsMisread Ipl Misses e
    → ((why : NotNumber) → Misses why → StartMisreads word why) → StartWordFaulty met word e
start_number met word Misses (Number v why) h f = (h.0, f why h.1)
start_number met word Misses _ h f = absurd h

-- A word of IPL with a number that is none.
pub start_misread : {A : Type 0} (r : Result A Wrong) (met : StartWords) (word : List ℕ) (Misses : NotNumber → Type 0) (e : Wrong) → IsErrAnd r (λ y. y ≡ e)
    → IsMisread Ipl Misses e → ((why : NotNumber) → Misses why → StartMisreads word why) → IfErr r (StartWordFaulty met word)
start_misread (Ok x) met word Misses e same h f = tt
start_misread (Err y) met word Misses e same h f = rw same (start_number met word Misses e h f)

partition_error : (met : StartWords) (word text : List ℕ) (e : Wrong) → value_for (codes "partition") word ≡ Some text → PartitionFaulty text e
    → StartWordFaulty met word e
partition_error met word text (Arguments v) is h = (h.0, some_and NoPartition _ text is h.1)
partition_error met word text (Number v why) is h = (h.0, inr (inr (inr (some_and (λ t. PartitionMisreads t why) _ text is h.1))))
partition_error met word text _ is h = absurd h

-- A word of IPL with a partition that is none.
pub start_partition : {A : Type 0} (r : Result A Wrong) (met : StartWords) (word text : List ℕ) (e : Wrong) → IsErrAnd r (λ y. y ≡ e)
    → value_for (codes "partition") word ≡ Some text → PartitionFaulty text e → IfErr r (StartWordFaulty met word)
start_partition (Ok x) met word text e same is h = tt
start_partition (Err y) met word text e same is h = rw same (partition_error met word text e is h)

-- A word of IPL that has no =.
pub start_bare : {A : Type 0} (r : Result A Wrong) (met : StartWords) (word : List ℕ) (o : Option (Bor (List ℕ) × Bor (List ℕ))) (e : Wrong) → IsErrAnd r (λ y. y ≡ e)
    → Err e ≡ ok_or o (UnknownWord Ipl) → o ≡ None → IsSplitOnceResult 61 word o → IfErr r (StartWordFaulty met word)
start_bare (Ok x) met word o e same is none split = tt
start_bare (Err y) met word o e same is none split =
    let named : e ≡ UnknownWord Ipl = (let k = rw none at is in cc) in
    let off : (name : List ℕ) → plain name ≡ true → value_for name word ≡ None
    = λ name ok. other_name name word o ok split (rw none tt) in
    rw (same, named) (refl, (off (codes "frames") refl, off (codes "supervisor") refl, off (codes "pages") refl, off (codes "partition") refl))

word_error : (words : List (Bor (List ℕ))) (i : ℕ) (d : Bor (List ℕ)) (met : StartWords) (e : Wrong) → i < length words
    → AtMostOnce Writes (values (codes "frames") (take i words)) met.frames
    → AtMostOnce Writes (values (codes "supervisor") (take i words)) met.supervisor
    → AtMostOnce Writes (values (codes "pages") (take i words)) met.pages
    → StartWordFaulty met (get_or words i d).now e → Faulty Ipl words e
word_error words i d met (Arguments v) lt frames supervisor pages h = (h.0, (i, lt, rw (word_read words i d lt) at h.1))
word_error words i d met (Number v why) lt frames supervisor pages h = (h.0, (i, lt, rw (word_read words i d lt) at h.1))
word_error words i d met (UnknownWord v) lt frames supervisor pages h = (h.0, (i, lt, rw (word_read words i d lt) at h.1))
word_error words i d met (Twice v) lt frames supervisor pages h = (
  h.0,
  elim h.1 [
    | inl a ↦ inl (repeated Writes (codes "frames") words i d met.frames lt frames a)
    | inr b ↦ elim b [
      | inl x ↦ inr (inl (repeated Writes (codes "supervisor") words i d met.supervisor lt supervisor x))
      | inr y ↦ inr (inr (repeated Writes (codes "pages") words i d met.pages lt pages y))
    ]
  ],
)
word_error words i d met Memory lt frames supervisor pages h = tt
word_error words i d met _ lt frames supervisor pages h = absurd h

-- A fault of one word of IPL is one of them all.
pub start_faulty : {A : Type 0} (r : Result A Wrong) (words : List (Bor (List ℕ))) (i : ℕ) (d : Bor (List ℕ)) (met : StartWords) (e : Wrong) → IsErrAnd r (λ y. y ≡ e)
    → i < length words
    → AtMostOnce Writes (values (codes "frames") (take i words)) met.frames
    → AtMostOnce Writes (values (codes "supervisor") (take i words)) met.supervisor
    → AtMostOnce Writes (values (codes "pages") (take i words)) met.pages
    → StartWordFaulty met (get_or words i d).now e → IfErr r (Faulty Ipl words)
start_faulty (Ok x) words i d met e same lt frames supervisor pages h = tt
start_faulty (Err y) words i d met e same lt frames supervisor pages h = rw same (word_error words i d met e lt frames supervisor pages h)

wiring_number : (met : WiringWords) (word : List ℕ) (Misses : NotNumber → Type 0) (e : Wrong) → IsMisread Wire Misses e
    → ((why : NotNumber) → Misses why → WiringMisreads word why) → WiringWordFaulty met word e
wiring_number met word Misses (Number v why) h f = (h.0, f why h.1)
wiring_number met word Misses _ h f = absurd h

-- A word of WIRE with a number that is none.
pub wiring_misread : {A : Type 0} (r : Result A Wrong) (met : WiringWords) (word : List ℕ) (Misses : NotNumber → Type 0) (e : Wrong) → IsErrAnd r (λ y. y ≡ e)
    → IsMisread Wire Misses e → ((why : NotNumber) → Misses why → WiringMisreads word why) → IfErr r (WiringWordFaulty met word)
wiring_misread (Ok x) met word Misses e same h f = tt
wiring_misread (Err y) met word Misses e same h f = rw same (wiring_number met word Misses e h f)

-- A word of WIRE that it does not know.
pub wiring_unknown : {A : Type 0} (r : Result A Wrong) (met : WiringWords) (word : List ℕ) (e : Wrong) → IsErrAnd r (λ y. y ≡ e)
    → e ≡ UnknownWord Wire → WiringUnknown word → IfErr r (WiringWordFaulty met word)
wiring_unknown (Ok x) met word e same named h = tt
wiring_unknown (Err y) met word e same named h = rw (same, named) (refl, h)

-- A word of WIRE that has no =.
pub wiring_bare : {A : Type 0} (r : Result A Wrong) (met : WiringWords) (word : List ℕ) (o : Option (Bor (List ℕ) × Bor (List ℕ))) (e : Wrong) → IsErrAnd r (λ y. y ≡ e)
    → Err e ≡ ok_or o (UnknownWord Wire) → o ≡ None → IsSplitOnceResult 61 word o → IfErr r (WiringWordFaulty met word)
wiring_bare r met word o e same is none split =
    let named : e ≡ UnknownWord Wire = (let k = rw none at is in cc) in
    let off : (name : List ℕ) → plain name ≡ true → value_for name word ≡ None
    = λ name ok. other_name name word o ok split (rw none tt) in
    wiring_unknown r met word e same named
    (inl (off (codes "policy") refl, off (codes "translator") refl, off (codes "store") refl, off (codes "slots") refl, off (codes "file") refl))

-- A word of WIRE that has none of its names in front of its =.
pub wiring_other : (word : List ℕ) (o : Option (Bor (List ℕ) × Bor (List ℕ))) (x : Bor (List ℕ) × Bor (List ℕ)) → IsSplitOnceResult 61 word o → o ≡ Some x
    → x.0.now ≢ codes "policy" → x.0.now ≢ codes "translator" → x.0.now ≢ codes "store" → x.0.now ≢ codes "slots" → x.0.now ≢ codes "file" → WiringUnknown word
wiring_other word o x split is policy translator store slots file =
    let off : (name : List ℕ) → plain name ≡ true → x.0.now ≢ name → value_for name word ≡ None
    = λ name ok other. other_name name word o ok split (rw is other) in
    inl (off (codes "policy") refl policy, off (codes "translator") refl translator, off (codes "store") refl store, off (codes "slots") refl slots, off (codes "file") refl file)

wiring_word_error : (words : List (Bor (List ℕ))) (i : ℕ) (d : Bor (List ℕ)) (met : WiringWords) (e : Wrong) → i < length words
    → AtMostOnce (Spells policy_word) (values (codes "policy") (take i words)) met.policy
    → AtMostOnce (Spells translator_word) (values (codes "translator") (take i words)) met.translator
    → AtMostOnce (Spells kind_word) (values (codes "store") (take i words)) met.kind
    → AtMostOnce WritesSlots (values (codes "slots") (take i words)) met.slots
    → AtMostOnce IsHeld (values (codes "file") (take i words)) met.file
    → WiringWordFaulty met (get_or words i d).now e → Faulty Wire words e
wiring_word_error words i d met (Number v why) lt policy translator kind slots file h = (h.0, (i, lt, rw (word_read words i d lt) at h.1))
wiring_word_error words i d met (UnknownWord v) lt policy translator kind slots file h = (h.0, (i, lt, rw (word_read words i d lt) at h.1))
wiring_word_error words i d met (Twice v) lt policy translator kind slots file h = (
  h.0,
  elim h.1 [
    | inl a ↦ inl (repeated (Spells policy_word) (codes "policy") words i d met.policy lt policy a)
    | inr x ↦ elim x [
      | inl b ↦ inr (inl (repeated (Spells translator_word) (codes "translator") words i d met.translator lt translator b))
      | inr y ↦ elim y [
        | inl k ↦ inr (inr (inl (repeated (Spells kind_word) (codes "store") words i d met.kind lt kind k)))
        | inr z ↦ elim z [
          | inl m ↦ inr (inr (inr (inl (repeated WritesSlots (codes "slots") words i d met.slots lt slots m))))
          | inr n ↦ inr (inr (inr (inr (repeated IsHeld (codes "file") words i d met.file lt file n))))
        ]
      ]
    ]
  ],
)
wiring_word_error words i d met _ lt policy translator kind slots file h = absurd h

-- A fault of one word of WIRE is one of them all.
pub wiring_faulty : {A : Type 0} (r : Result A Wrong) (words : List (Bor (List ℕ))) (i : ℕ) (d : Bor (List ℕ)) (met : WiringWords) (e : Wrong) → IsErrAnd r (λ y. y ≡ e)
    → i < length words
    → AtMostOnce (Spells policy_word) (values (codes "policy") (take i words)) met.policy
    → AtMostOnce (Spells translator_word) (values (codes "translator") (take i words)) met.translator
    → AtMostOnce (Spells kind_word) (values (codes "store") (take i words)) met.kind
    → AtMostOnce WritesSlots (values (codes "slots") (take i words)) met.slots
    → AtMostOnce IsHeld (values (codes "file") (take i words)) met.file
    → WiringWordFaulty met (get_or words i d).now e → IfErr r (Faulty Wire words)
wiring_faulty (Ok x) words i d met e same lt policy translator kind slots file h = tt
wiring_faulty (Err y) words i d met e same lt policy translator kind slots file h =
    rw same (wiring_word_error words i d met e lt policy translator kind slots file h)

other_kind : (k j : Kind) → kind_word j ≡ kind_word k → j ≡ k
other_kind Plain Plain e = refl
other_kind DataSet DataSet e = refl
other_kind Plain DataSet e = absurd (let n = ap length e in omega arith)
other_kind DataSet Plain e = absurd (let n = ap length e in omega arith)

held_kind : (texts : List (List ℕ)) (kind : Option Kind) (k : Kind) → AtMostOnce (Spells kind_word) texts kind → Once (Spells kind_word) texts k → kind ≡ Some k
held_kind texts None k had (text, is, s) = absurd (let e = had in cc)
held_kind texts (Some j) k (other, was, t) (text, is, s) = ap (λ x. Some x) (other_kind k j (let e : other ≡ text = cc in cc))

held_none : {A : Type 0} (Says : List ℕ → A → Type 0) (texts : List (List ℕ)) (held : Option A) → AtMostOnce Says texts held → texts ≡ [] → held ≡ None
held_none Says texts None had e = refl
held_none Says texts (Some x) (text, is, s) e = absurd (cc)

held_some : {A B : Type 0} (Says : List ℕ → A → Type 0) (Other : List ℕ → B → Type 0) (texts : List (List ℕ)) (held : Option A) (y : B)
    → AtMostOnce Says texts held → Once Other texts y → (x : A) × (held ≡ Some x)
held_some Says Other texts None y had (text, is, s) = absurd (let e = had in cc)
held_some Says Other texts (Some x) y had o = (x, refl)

held_file : {A : Type 0} (texts : List (List ℕ)) (file : Option (Bor (List ℕ))) (path : String A) → AtMostOnce IsHeld texts file → Once Names texts path
    → (f : Bor (List ℕ)) × (file ≡ Some f) × (string_bytes path ≡ f.now)
held_file texts None path had (text, is, s) = absurd (let e = had in cc)
held_file texts (Some f) path (other, was, t) (text, is, s) = (f, refl, (let e : other ≡ text = cc in cc))

-- Where what was met gives no source, the words say none.
no_source : (kinds slot_texts files : List (List ℕ)) (kind : Option Kind) (slots : Option ℕ) (file : Option (Bor (List ℕ)))
    → AtMostOnce (Spells kind_word) kinds kind → AtMostOnce WritesSlots slot_texts slots → AtMostOnce IsHeld files file
    → NoneChosen kind slots file → (source : Source) → ¬ SaysSource kinds slot_texts files source
no_source kinds slot_texts files kind slots file k s f none (Source.Plain n) = λ h.
    let m = held_some WritesSlots WritesSlots slot_texts slots n s h.1 in
    none (Source.Plain m.0) (held_kind kinds kind Plain k h.0, m.1, held_none IsHeld files file f h.2)
no_source kinds slot_texts files kind slots file k s f none (Source.Blank n) = λ h.
    let m = held_some WritesSlots WritesSlots slot_texts slots n s h.1 in
    none (Source.Blank m.0) (held_kind kinds kind DataSet k h.0, m.1, held_none IsHeld files file f h.2)
no_source kinds slot_texts files kind slots file k s f none (Source.File path) = λ h.
    let x = held_file files file path f h.2 in
    none (Source.File path) (held_kind kinds kind DataSet k h.0, held_none WritesSlots slot_texts slots s h.1, x.0, x.1, x.2)

source_error : (words : List (Bor (List ℕ))) (i : ℕ) (kind : Option Kind) (slots : Option ℕ) (file : Option (Bor (List ℕ))) (e : Wrong) → length words ≤ i
    → AtMostOnce (Spells kind_word) (values (codes "store") (take i words)) kind
    → AtMostOnce WritesSlots (values (codes "slots") (take i words)) slots
    → AtMostOnce IsHeld (values (codes "file") (take i words)) file
    → SourceFaulty kind slots file e → Faulty Wire words e
source_error words i kind slots file (Arguments v) all k s f h = (
  h.0,
  inr (inr (no_source (values (codes "store") words) (values (codes "slots") words) (values (codes "file") words) kind slots file
      (said_all (Spells kind_word) (codes "store") words i kind all k) (said_all WritesSlots (codes "slots") words i slots all s)
      (said_all IsHeld (codes "file") words i file all f) h.1)),
)
source_error words i kind slots file Memory all k s f h = tt
source_error words i kind slots file _ all k s f h = absurd h

-- Words of WIRE that say no source.
pub source_faulty : {A : Type 0} (r : Result A Wrong) (words : List (Bor (List ℕ))) (i : ℕ) (kind : Option Kind) (slots : Option ℕ) (file : Option (Bor (List ℕ))) (e : Wrong)
    → IsErrAnd r (λ y. y ≡ e) → length words ≤ i
    → AtMostOnce (Spells kind_word) (values (codes "store") (take i words)) kind
    → AtMostOnce WritesSlots (values (codes "slots") (take i words)) slots
    → AtMostOnce IsHeld (values (codes "file") (take i words)) file
    → SourceFaulty kind slots file e → IfErr r (Faulty Wire words)
source_faulty (Ok x) words i kind slots file e same all k s f h = tt
source_faulty (Err y) words i kind slots file e same all k s f h = rw same (source_error words i kind slots file e all k s f h)

-- What is not held when all words were met is not said.
pub missing : {A : Type 0} (Says : List ℕ → A → Type 0) (name : List ℕ) (words : List (Bor (List ℕ))) (i : ℕ) (held : Option A) → length words ≤ i
    → AtMostOnce Says (values name (take i words)) held → held ≡ None → values name words ≡ []
missing Says name words i held all h none = rw none at (said_all Says name words i held all h)
