-- The words of a text, and what a line with a first one writes.
use Rattle.std.proofs.Common.{◌≡◌, ◌≢◌, ℕ, ◌+◌, ◌<◌, ◌≤◌, List, [], ◌∷◌, ◌++◌, length, true, Option, Result, Err, Ok, Bor, refl, sym, ap, subst, ◌∙◌, inl, inr, append_assoc, arith}
use Rattle.std.specs.Result.{IsErrAnd}
use Rattle.std.specs.Char.{is_ascii_whitespace}
use Rattle.std.specs.Iterator.{Yields}
use Rattle.std.specs.List.{AllPass, slice_index}
use Rattle.std.specs.Str.{NoCharPasses}
use Rattle.std.specs.Str.Iter.{IsAsciiSeparator, split_ascii_whitespace_steps, split_ascii_whitespace_text}
use Rattle.std.specs.declared.str.SplitAsciiWhitespace.{SplitAscii}
use Rattle.std.proofs.lemmas.List.Elements.{All-append}
use Rattle.script.specs.Lines.{Answers, AreWords, IsFirstWord, IsUncommented, Parses}
use Rattle.script.specs.Verbs.{spelled}
use Rattle.script.specs.declared.command.Command.{Command}
use Rattle.script.specs.declared.verb.Verb.{Verb}
use Rattle.script.specs.declared.wrong.Wrong.{Wrong}
use Rattle.script.specs.declared.wrong.Wrong.TheVariants.{Memory, NoCommand}

-- What stands behind a word that came off begins with white space.
pub white_behind : (sep rest : List ℕ) → IsAsciiSeparator sep rest → 0 < length (sep ++ rest) → is_ascii_whitespace (slice_index (sep ++ rest) 0) ≡ true
white_behind [] rest h lt = absurd (let none = h.2 refl in omega arith)
white_behind (c ∷ sep) rest h lt = h.0 0 c (omega arith)

-- The word that comes off the front of a text is its first.
abbrev pub first_word : (text whole word rest : List ℕ) → whole ≡ text
    → (0 < length word) × NoCharPasses is_ascii_whitespace word × (length word + length rest ≤ length whole)
    × ((gap : List ℕ) × (sep : List ℕ) × (whole ≡ gap ++ (word ++ (sep ++ rest))) × AllPass is_ascii_whitespace gap × IsAsciiSeparator sep rest)
    → IsFirstWord text word
first_word text whole word rest e (some, plain, fits, (gap, sep, parts, white, behind)) = record {
  gap = gap;
  rest = sep ++ rest;
  parts = sym e ∙ parts;
  white = white;
  some = some;
  plain = plain;
  ends = white_behind sep rest behind;
}

white_both : (xs ys : List ℕ) → AllPass is_ascii_whitespace xs → AllPass is_ascii_whitespace ys → AllPass is_ascii_whitespace (xs ++ ys)
white_both xs ys h k = All-append (λ c. is_ascii_whitespace c ≡ true) xs ys h k

-- White space in front of a text adds no word.
white_front : (sep text : List ℕ) (words : List (Bor (List ℕ))) → AllPass is_ascii_whitespace sep → AreWords text words → AreWords (sep ++ text) words
white_front sep text [] white h = white_both sep text white h
white_front sep text (word ∷ words) white h = (
  record {
    gap = sep ++ h.0.gap;
    rest = h.0.rest;
    parts = ap (λ t. sep ++ t) h.0.parts ∙ sym (append_assoc sep h.0.gap (word.now ++ h.0.rest));
    white = white_both sep h.0.gap white h.0.white;
    some = h.0.some;
    plain = h.0.plain;
    ends = h.0.ends;
  },
  h.1,
)

-- The words that come off a text until only white space is left are its words.
pub words_yielded : (words : List (Bor (List ℕ))) (s t : SplitAscii) → Yields split_ascii_whitespace_steps s words t
    → AllPass is_ascii_whitespace (split_ascii_whitespace_text t) → AreWords (split_ascii_whitespace_text s) words
words_yielded [] s t h white = subst (λ u. AllPass is_ascii_whitespace (split_ascii_whitespace_text u)) (sym h) white
words_yielded (word ∷ words) s t (j, cut, more) white = (
  first_word (split_ascii_whitespace_text s) (split_ascii_whitespace_text s) word.now (split_ascii_whitespace_text j) refl cut,
  white_front cut.3.1 (split_ascii_whitespace_text j) words cut.3.4.0 (words_yielded words j t more white),
)

-- A line whose first word spells no verb.
pub parses_unknown : (line text word : List ℕ) (r : Result (Option Command) Wrong) → IsUncommented line text → IsFirstWord text word
    → ((v : Verb) → spelled v ≢ word) → r ≡ Err NoCommand → Parses line r
parses_unknown line text word r front first none e = (text, front, inr (inr (word, first, inr (none, e))))

-- A line whose first word spells a verb, where there is no memory for the words behind it.
pub parses_full : (line text word : List ℕ) (r : Result (Option Command) Wrong) (v : Verb) → IsUncommented line text → IsFirstWord text word
    → spelled v ≡ word → IsErrAnd r (λ e. e ≡ Memory) → Parses line r
parses_full line text word (Err e) v front first is full = (text, front, inr (inr (word, first, inl (v, is, inl (ap (λ x. Err x) full)))))
parses_full line text word (Ok o) v front first is full = absurd full

-- A line whose first word spells a verb.
pub parses_verb : (line text whole word rest : List ℕ) (r : Result (Option Command) Wrong) (v : Verb) (words : List (Bor (List ℕ))) → IsUncommented line text
    → (e : whole ≡ text) → (cut : (0 < length word) × NoCharPasses is_ascii_whitespace word × (length word + length rest ≤ length whole)
    × ((gap : List ℕ) × (sep : List ℕ) × (whole ≡ gap ++ (word ++ (sep ++ rest))) × AllPass is_ascii_whitespace gap × IsAsciiSeparator sep rest))
    → spelled v ≡ word → AreWords rest words → Answers v words r → Parses line r
parses_verb line text whole word rest r v words front e cut is behind h =
    (text, front, inr (inr (word, first_word text whole word rest e cut, inl (v, is, inr (words, white_front cut.3.1 rest words cut.3.4.0 behind, h)))))
