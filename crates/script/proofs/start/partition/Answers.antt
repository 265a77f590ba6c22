use Rattle.std.proofs.Common.{ap, inl, inr, subst, ◌∙◌}
use Rattle.std.specs.List.{after_first, before_first}
use Rattle.script.specs.Faults.{HasComma, is_comma, NoByte, NoWord}
use Rattle.script.proofs.WordFaulty.{cut_comma, partition_misread}
use Rattle.script.proofs.start.partition.Goals as goal

pub returns-in_err-word_of : goal.returns-in_err-word_of
returns-in_err-word_of c =
    let first = cut_comma c.args.value.now _ _ c.split_once.ensures.cases c.in_ok-first.ensures.ok_part in
    let second = cut_comma c.in_ok-first.rest.now _ _ c.split_once-2.ensures.cases c.in_ok-count.ensures.ok_part in
    partition_misread _ _ c.args.value.now (NoWord _) _ c.from_residual-in_err-word_of.ensures.1 c.in_err-word_of.ensures
    (λ why m. (first.2, subst HasComma first.1 second.2, inl (subst (λ t. NoWord t why) first.0 m)))

pub returns-in_err-word_of-2 : goal.returns-in_err-word_of-2
returns-in_err-word_of-2 c =
    let first = cut_comma c.args.value.now _ _ c.split_once.ensures.cases c.in_ok-first.ensures.ok_part in
    let second = cut_comma c.in_ok-first.rest.now _ _ c.split_once-2.ensures.cases c.in_ok-count.ensures.ok_part in
    partition_misread _ _ c.args.value.now (NoWord _) _ c.from_residual-in_err-word_of-2.ensures.1 c.in_err-word_of-2.ensures
    (λ why m. (first.2, subst HasComma first.1 second.2, inr (inl (subst (λ t. NoWord t why) (second.0 ∙ ap (before_first is_comma) first.1) m))))

pub returns-in_err-byte_of : goal.returns-in_err-byte_of
returns-in_err-byte_of c =
    let first = cut_comma c.args.value.now _ _ c.split_once.ensures.cases c.in_ok-first.ensures.ok_part in
    let second = cut_comma c.in_ok-first.rest.now _ _ c.split_once-2.ensures.cases c.in_ok-count.ensures.ok_part in
    partition_misread _ _ c.args.value.now (NoByte _) _ c.from_residual-in_err-byte_of.ensures.1 c.in_err-byte_of.ensures
    (λ why m. (first.2, subst HasComma first.1 second.2, inr (inr (subst (λ t. NoByte t why) (second.1 ∙ ap (after_first is_comma) first.1) m))))
