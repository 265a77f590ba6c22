-- Errors of the words behind a verb, and the words at their places.
use Rattle.std.proofs.Common.{◌≡◌, ℕ, ◌+◌, ◌-◌, ◌<◌, ◌≤◌, ◌⊎◌, List, [], ◌∷◌, ◌++◌, length, take, drop, length-drop, subst, get_or, Result, Ok, Err, IfErr, IfOk, MatchResult, Bor, refl, sym, ◌∙◌, inl, inr, zero, suc, arith, ⊎_elim}
use Rattle.std.specs.Result.{IsErrAnd}
use Rattle.std.proofs.lemmas.List.{take_all, take_more}
use Rattle.script.specs.Commands.{Says, word_at, WriteBytes}
use Rattle.script.specs.Faults.{BytesFaulty, Faulty, IsMisread, Misreads, NoByte, NoNumber}
use Rattle.script.specs.Numbers.{ReadsTo, Writes}
use Rattle.script.specs.declared.command.Command.{Command}
use Rattle.script.specs.declared.number.NotNumber.{NotNumber}
use Rattle.script.specs.declared.number.NotNumber.TheVariants.{Malformed, TooLarge}
use Rattle.script.specs.declared.verb.Verb.{Verb}
use Rattle.script.specs.declared.verb.Verb.TheVariants.{Alter}
use Rattle.script.specs.declared.wrong.Wrong.{Wrong}
use Rattle.script.specs.declared.wrong.Wrong.TheVariants.{Memory, Number}
use Rattle.script.proofs.Named.{all_zip_push}

-- What reading a number up to a largest one says of the word, and of the error that comes of it.
pub limited_reads : (Post : NotNumber → Wrong → Type 0) (verb : Verb) (text : List ℕ) (largest : ℕ) (read : Result ℕ NotNumber) (r : Result ℕ Wrong)
    → ReadsTo text largest read → MatchResult read (λ x. r ≡ Ok x) (λ why. IsErrAnd r (Post why))
    → ((why : NotNumber) (e : Wrong) → Post why e → e ≡ Number verb why)
    → MatchResult r (λ n. Writes text n × (n ≤ largest)) (IsMisread verb (Misreads text largest))
limited_reads Post verb text largest (Ok v) r h is f = rw is h
limited_reads Post verb text largest (Err Malformed) (Err e) h is f = rw (f Malformed e is) (refl, h)
limited_reads Post verb text largest (Err TooLarge) (Err e) h is f = rw (f TooLarge e is) (refl, h)
limited_reads Post verb text largest (Err why) (Ok v) h is f = absurd is

-- What a place is read as where there is no word.
abbrev pub nothing : Bor (List ℕ)
nothing = record { ref_ptr = (0, 0); now = [] }

-- The word at a place.
pub word_read : (words : List (Bor (List ℕ))) (i : ℕ) (d : Bor (List ℕ)) → i < length words → (get_or words i d).now ≡ word_at words i
word_read [] i d lt = absurd (omega arith)
word_read (w ∷ words) zero d lt = refl
word_read (w ∷ words) (suc i) d lt = word_read words i d (omega arith)

-- What holds of the text of an element holds of the word at its place.
at_word : (P : List ℕ → Type 0) (words : List (Bor (List ℕ))) (i : ℕ) → i < length words → P (get_or words i nothing).now → P (word_at words i)
at_word P words i lt h = rw (← word_read words i nothing lt) h

-- One word that writes a number.
pub one_says : (words : List (Bor (List ℕ))) (n : ℕ) → 1 ≤ length words → length words < 2 → Writes (get_or words 0 nothing).now n
    → (length words ≡ 1) × Writes (word_at words 0) n
one_says words n low high h = (omega arith, at_word (λ t. Writes t n) words 0 (omega arith) h)

-- Two words that write numbers.
pub two_say : (make : ℕ → ℕ → Command) (words : List (Bor (List ℕ))) (r : Result Command Wrong) (Q : Wrong → Type 0) → 2 ≤ length words → length words < 3
    → MatchResult r (λ c. (m : ℕ) × (n : ℕ) × (c ≡ make m n) × Writes (get_or words 0 nothing).now m × Writes (get_or words 1 nothing).now n) Q
    → ((m n : ℕ) → (length words ≡ 2) × Writes (word_at words 0) m × Writes (word_at words 1) n → Says words (make m n)) → IfOk r (Says words)
two_say make words (Ok c) Q low high (m, n, is, first, second) f =
    rw is (f m n (omega arith, at_word (λ t. Writes t m) words 0 (omega arith) first, at_word (λ t. Writes t n) words 1 (omega arith) second))
two_say make words (Err e) Q low high h f = tt

-- A word that is no number is a fault of the words of the verb that it stands behind.
number_faulty : (verb known named : Verb) (words : List (Bor (List ℕ))) (Misses : NotNumber → Type 0) (e : Wrong) → verb ≡ known → named ≡ verb
    → IsMisread named Misses e → ((why : NotNumber) → Misses why → NoNumber known words why) → Faulty verb words e
number_faulty verb known named words Misses (Number v why) is same h f = (h.0 ∙ same, rw is (f why h.1))
number_faulty verb known named words Misses _ is same h f = absurd h

-- One word that is no number.
pub one_faulty : {A : Type 0} (r : Result A Wrong) (verb known : Verb) (words : List (Bor (List ℕ))) (Misses : List ℕ → NotNumber → Type 0) (e : Wrong)
    → IsErrAnd r (λ y. y ≡ e) → verb ≡ known → 1 ≤ length words → IsMisread verb (Misses (get_or words 0 nothing).now) e
    → ((why : NotNumber) → Misses (word_at words 0) why → NoNumber known words why) → IfErr r (Faulty verb words)
one_faulty (Err y) verb known words Misses e same is low h f =
    rw same (number_faulty verb known verb words (Misses (get_or words 0 nothing).now) e is refl h
    (λ why m. f why (at_word (λ t. Misses t why) words 0 (omega arith) m)))
one_faulty (Ok x) verb known words Misses e same is low h f = tt

-- Two words, of which one is no number.
pub two_faulty : (r : Result Command Wrong) (Q : Command → Type 0) (verb known : Verb) (words : List (Bor (List ℕ))) (First Second : List ℕ → NotNumber → Type 0)
    → verb ≡ known → 2 ≤ length words
    → MatchResult r Q (IsMisread known (λ why. First (get_or words 0 nothing).now why ⊎ Second (get_or words 1 nothing).now why))
    → ((why : NotNumber) → First (word_at words 0) why ⊎ Second (word_at words 1) why → NoNumber known words why) → IfErr r (Faulty verb words)
two_faulty (Ok c) Q verb known words First Second is low h f = tt
two_faulty (Err e) Q verb known words First Second is low h f =
    number_faulty verb known known words (λ why. First (get_or words 0 nothing).now why ⊎ Second (get_or words 1 nothing).now why) e is (sym is) h
    (λ why m. f why (⊎_elim
    (λ (a : First (get_or words 0 nothing).now why). inl (at_word (λ t. First t why) words 0 (omega arith) a))
    (λ (b : Second (get_or words 1 nothing).now why). inr (at_word (λ t. Second t why) words 1 (omega arith) b)) m))

-- Three words, of which one is no number.
pub three_faulty : (r : Result Command Wrong) (Q : Command → Type 0) (verb known : Verb) (words : List (Bor (List ℕ))) (First Second Third : List ℕ → NotNumber → Type 0)
    → verb ≡ known → 3 ≤ length words
    → MatchResult r Q (IsMisread known (λ why. First (get_or words 0 nothing).now why ⊎ (Second (get_or words 1 nothing).now why ⊎ Third (get_or words 2 nothing).now why)))
    → ((why : NotNumber) → First (word_at words 0) why ⊎ (Second (word_at words 1) why ⊎ Third (word_at words 2) why) → NoNumber known words why)
    → IfErr r (Faulty verb words)
three_faulty (Ok c) Q verb known words First Second Third is low h f = tt
three_faulty (Err e) Q verb known words First Second Third is low h f =
    number_faulty verb known known words
    (λ why. First (get_or words 0 nothing).now why ⊎ (Second (get_or words 1 nothing).now why ⊎ Third (get_or words 2 nothing).now why)) e is (sym is) h
    (λ why m. f why (⊎_elim
    (λ (a : First (get_or words 0 nothing).now why). inl (at_word (λ t. First t why) words 0 (omega arith) a))
    (λ (b : Second (get_or words 1 nothing).now why ⊎ Third (get_or words 2 nothing).now why). inr (⊎_elim
    (λ (x : Second (get_or words 1 nothing).now why). inl (at_word (λ t. Second t why) words 1 (omega arith) x))
    (λ (y : Third (get_or words 2 nothing).now why). inr (at_word (λ t. Third t why) words 2 (omega arith) y)) b)) m))

-- A fault of the words is one of them behind the verb that is known.
pub known_faulty : {A : Type 0} (r : Result A Wrong) (verb known : Verb) (words : List (Bor (List ℕ))) (e : Wrong) → IsErrAnd r (λ y. y ≡ e)
    → verb ≡ known → Faulty known words e → IfErr r (Faulty verb words)
known_faulty (Err y) verb known words e same is h = rw (same, is) h
known_faulty (Ok x) verb known words e same is h = tt

-- One byte more.
pub bytes_more : (words : List (Bor (List ℕ))) (bytes : List ℕ) (i n : ℕ) → i < length words → WriteBytes (take i words) bytes
    → Writes (get_or words i nothing).now n → WriteBytes (take (i + 1) words) (bytes ++ n ∷ [])
bytes_more words bytes i n lt had h =
    rw (take_more words i nothing lt) (all_zip_push (λ (w : Bor (List ℕ)) byte. Writes w.now byte) (take i words) bytes (get_or words i nothing) n had h)

byte_error : (words : List (Bor (List ℕ))) (i : ℕ) (e : Wrong) → i < length words → IsMisread Alter (NoByte (get_or words i nothing).now) e → BytesFaulty words e
byte_error words i (Number v why) lt h = (h.0, (i, lt, at_word (λ t. NoByte t why) words i lt h.1))
byte_error words i _ lt h = absurd h

-- A word that is no byte.
pub byte_misread : {A : Type 0} (r : Result A Wrong) (Q : A → Type 0) (words : List (Bor (List ℕ))) (i : ℕ) (e : Wrong) → IsErrAnd r (λ y. y ≡ e)
    → i < length words → IsMisread Alter (NoByte (get_or words i nothing).now) e → MatchResult r Q (BytesFaulty words)
byte_misread (Ok x) Q words i e same lt h = absurd same
byte_misread (Err y) Q words i e same lt h = rw same (byte_error words i e lt h)

-- The words behind the first, as a slice.
pub behind_first : (words : List (Bor (List ℕ))) → take (length words - 1) (drop 1 words) ≡ drop 1 words
behind_first words = take_all (length words - 1) (drop 1 words) (simp length-drop (omega arith))

bytes_error : (words : List (Bor (List ℕ))) (e : Wrong) → 2 ≤ length words → BytesFaulty (drop 1 words) e → Faulty Alter words e
bytes_error words (Number v why) low h = (h.0, (low, inr h.1))
bytes_error words Memory low h = tt
bytes_error words _ low h = absurd h

-- Words of ALTER that are no bytes.
pub bytes_faulty : {A : Type 0} (r : Result A Wrong) (words : List (Bor (List ℕ))) (e : Wrong) → 2 ≤ length words → IsErrAnd r (λ y. y ≡ e)
    → BytesFaulty (take (length words - 1) (drop 1 words)) e → IfErr r (Faulty Alter words)
bytes_faulty (Ok x) words e low same h = tt
bytes_faulty (Err y) words e low same h = rw same (bytes_error words e low (subst (λ part. BytesFaulty part e) (behind_first words) h))

-- What is said of the words of ALTER.
pub alter_says : (words : List (Bor (List ℕ))) (address : ℕ) (bytes : List ℕ) → 2 ≤ length words → Writes (get_or words 0 nothing).now address
    → WriteBytes (take (length words - 1) (drop 1 words)) bytes → (2 ≤ length words) × Writes (word_at words 0) address × WriteBytes (drop 1 words) bytes
alter_says words address bytes low first rest =
    (low, at_word (λ t. Writes t address) words 0 (omega arith) first, subst (λ part. WriteBytes part bytes) (behind_first words) rest)
