-- Lines: what stands in front of a comment, the words, and the command that a line writes.
use Rattle.std.specs.Prelude.{◌≡◌, ◌≢◌, ℕ, ◌<◌, ◌⊎◌, true, List, [], ◌∷◌, ◌++◌, length, take, Ok, Err, None, Option, Result, MatchResult, IsSomeAnd, slice_index}
use Rattle.std.specs.Char.{is_ascii_whitespace}
use Rattle.std.specs.List.{AllPass}
use Rattle.std.specs.Str.{IsUtf8, NoCharPasses}
use Rattle.std.proofs.Common.{Bor}
use Rattle.script.specs.Commands.{Says, verb_of}
use Rattle.script.specs.Faults.{Faulty}
use Rattle.script.specs.Verbs.{spelled}
use Rattle.script.specs.declared.command.Command.{Command}
use Rattle.script.specs.declared.verb.Verb.{Verb}
use Rattle.script.specs.declared.wrong.Wrong.{Wrong}
use Rattle.script.specs.declared.wrong.Wrong.TheVariants.{Memory, NoCommand, NotText}

-- A text is the part of a line in front of its first #, or the whole line where it has none.
pub record IsUncommented (line text : List ℕ) : Type 0 where
  pub front : text ≡ take (length text) line
  pub clear : (k : ℕ) → k < length text → slice_index line k ≢ 35
  pub stops : length text < length line → slice_index line (length text) ≡ 35

-- The first word of a text: white space in front of it, none in it, and behind it white space or the end.
pub record IsFirstWord (text word : List ℕ) : Type 0 where
  pub gap : List ℕ
  pub rest : List ℕ
  pub parts : text ≡ gap ++ (word ++ rest)
  pub white : AllPass is_ascii_whitespace gap
  pub some : 0 < length word
  pub plain : NoCharPasses is_ascii_whitespace word
  pub ends : 0 < length rest → is_ascii_whitespace (slice_index rest 0) ≡ true

-- The words that stand in a text, in their order.
abbrev pub AreWords : List ℕ → List (Bor (List ℕ)) → Type 0
AreWords text [] = AllPass is_ascii_whitespace text
AreWords text (word ∷ words) = (first : IsFirstWord text word.now) × AreWords first.rest words

-- A command of the verb that says the words, or an error that is a true fault of them.
abbrev pub Answers : Verb → List (Bor (List ℕ)) → Result (Option Command) Wrong → Type 0
Answers verb words r = MatchResult r (λ o. IsSomeAnd o (λ c. (verb_of c ≡ verb) × Says words c)) (Faulty verb words)

-- The answer to a line by its first word and what stands behind it: what the verb that the word spells makes of the words
-- behind it, or that there is no memory to hold them; or that the word is no command.
abbrev pub Calls : List ℕ → List ℕ → Result (Option Command) Wrong → Type 0
Calls word rest r =
    ((v : Verb) × (spelled v ≡ word) × ((r ≡ Err Memory) ⊎ ((words : List (Bor (List ℕ))) × AreWords rest words × Answers v words r)))
    ⊎ (((v : Verb) → spelled v ≢ word) × (r ≡ Err NoCommand))

-- The answer to a line by its text: that it is none, nothing where it has no word, or what its first word calls.
abbrev pub ParsesText : List ℕ → Result (Option Command) Wrong → Type 0
ParsesText text r =
    (¬ IsUtf8 text × (r ≡ Err NotText))
    ⊎ ((AllPass is_ascii_whitespace text × (r ≡ Ok None)) ⊎ ((word : List ℕ) × (first : IsFirstWord text word) × Calls word first.rest r))

-- The answer to a line, by its text in front of the comment.
abbrev pub Parses : List ℕ → Result (Option Command) Wrong → Type 0
Parses line r = (text : List ℕ) × IsUncommented line text × ParsesText text r
