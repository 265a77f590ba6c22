use Rattle.std.proofs.Common.{rules, subst, sym}
use Rattle.std.specs.Str.Iter.{split_ascii_whitespace_text}
use Rattle.script.specs.Lines.{AreWords}
use Rattle.script.proofs.FirstWord.{first_word, parses_full, parses_unknown, parses_verb, words_yielded}
use Rattle.script.proofs.command.parse.Goals as goal

pub returns-in_err-verb : goal.returns-in_err-verb
returns-in_err-verb c =
    let first = first_word c.in_ok-text.text.now _ _ _ c.split_ascii_whitespace-words.ensures.text c.in-Some.ensures.steps in
    parses_unknown c.args.line.now c.in_ok-text.text.now c.in-Some.first.now _ (search rules) first c.in_err-verb.ensures.value.1 (search rules)

pub returns-in_err-words : goal.returns-in_err-words
returns-in_err-words c =
    let first = first_word c.in_ok-text.text.now _ _ _ c.split_ascii_whitespace-words.ensures.text c.in-Some.ensures.steps in
    parses_full c.args.line.now c.in_ok-text.text.now c.in-Some.first.now _ c.in_ok-verb.verb (search rules) first c.in_ok-verb.ensures.value c.from_residual-in_err-words.ensures.1

pub returns : goal.returns
returns c =
    let ran = c.in_ok-words.ensures.ran in
    let words = words_yielded ran.0 c.next.new.self ran.1.0 ran.1.1 ((ran.1.2 tt).1.0) in
    let held = subst (λ list. AreWords (split_ascii_whitespace_text c.next.new.self) list) (sym ran.2.0) words in
    parses_verb c.args.line.now c.in_ok-text.text.now _ c.in-Some.first.now _ _ c.in_ok-verb.verb c.deref.result.now (search rules)
    c.split_ascii_whitespace-words.ensures.text c.in-Some.ensures.steps c.in_ok-verb.ensures.value (rw c.deref.ensures.value held) (search rules)
