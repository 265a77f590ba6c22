use Rattle.std.proofs.Common.{codes, refl, ap, inl, inr}
use Rattle.script.specs.Faults.{NoWord}
use Rattle.script.specs.Numbers.{Writes}
use Rattle.script.specs.Said.{value_for}
use Rattle.script.specs.Starts.{start_names}
use Rattle.script.proofs.Named.{cut, is_named, takes_first, takes_none}
use Rattle.script.proofs.WordFaulty.{start_bare, start_misread, start_partition}
use Rattle.script.proofs.start.Words.take_in.Goals as goal

pub returns-in_ok-word_of-in-frames-clause-frames : goal.returns-in_ok-word_of-in-frames-clause-frames
returns-in_ok-word_of-in-frames-clause-frames c =
    let e = cut c.args.word.now _ _ (codes "frames") c.split_once.ensures.cases c.in_ok-name.ensures.ok_part c.in-frames.is in
    takes_first Writes _ _ _ _ _ _ _ (ap (value_for (codes "frames")) e) c.once.ensures c.in_ok-word_of-in-frames.ensures

pub returns-in_ok-word_of-in-supervisor-clause-supervisor : goal.returns-in_ok-word_of-in-supervisor-clause-supervisor
returns-in_ok-word_of-in-supervisor-clause-supervisor c =
    let e = cut c.args.word.now _ _ (codes "supervisor") c.split_once.ensures.cases c.in_ok-name.ensures.ok_part c.in-supervisor.is in
    takes_first Writes _ _ _ _ _ _ _ (ap (value_for (codes "supervisor")) e) c.once-in-supervisor.ensures c.in_ok-word_of-in-supervisor.ensures

pub returns-in_ok-push-in-partition-clause-frames : goal.returns-in_ok-push-in-partition-clause-frames
returns-in_ok-push-in-partition-clause-frames c =
    let e = cut c.args.word.now _ _ (codes "partition") c.split_once.ensures.cases c.in_ok-name.ensures.ok_part c.in-partition.is in
    takes_none Writes _ _ (ap (value_for (codes "frames")) e)

pub returns-in_ok-push-in-partition-clause-pages : goal.returns-in_ok-push-in-partition-clause-pages
returns-in_ok-push-in-partition-clause-pages c =
    let e = cut c.args.word.now _ _ (codes "partition") c.split_once.ensures.cases c.in_ok-name.ensures.ok_part c.in-partition.is in
    takes_none Writes _ _ (ap (value_for (codes "pages")) e)

pub returns-in_err-name-clause-faulty : goal.returns-in_err-name-clause-faulty
returns-in_err-name-clause-faulty c =
    start_bare _ c.args.self.now c.args.word.now _ _ c.from_residual.ensures.1 c.in_err-name.ensures.value c.in_err-name.ensures.ok_part c.split_once.ensures.cases

pub returns-in_err-word_of-in-frames-clause-faulty : goal.returns-in_err-word_of-in-frames-clause-faulty
returns-in_err-word_of-in-frames-clause-faulty c =
    let e = cut c.args.word.now _ _ (codes "frames") c.split_once.ensures.cases c.in_ok-name.ensures.ok_part c.in-frames.is in
    start_misread _ c.args.self.now c.args.word.now (NoWord _) _ c.from_residual-in_err-word_of-in-frames.ensures.1 c.in_err-word_of-in-frames.ensures
    (λ why m. inl (rw e m))

pub returns-in_err-word_of-in-supervisor-clause-faulty : goal.returns-in_err-word_of-in-supervisor-clause-faulty
returns-in_err-word_of-in-supervisor-clause-faulty c =
    let e = cut c.args.word.now _ _ (codes "supervisor") c.split_once.ensures.cases c.in_ok-name.ensures.ok_part c.in-supervisor.is in
    start_misread _ c.args.self.now c.args.word.now (NoWord _) _ c.from_residual-in_err-word_of-in-supervisor.ensures.1 c.in_err-word_of-in-supervisor.ensures
    (λ why m. inr (inl (rw e m)))

pub returns-in_err-word_of-in-pages-clause-faulty : goal.returns-in_err-word_of-in-pages-clause-faulty
returns-in_err-word_of-in-pages-clause-faulty c =
    let e = cut c.args.word.now _ _ (codes "pages") c.split_once.ensures.cases c.in_ok-name.ensures.ok_part c.in-pages.is in
    start_misread _ c.args.self.now c.args.word.now (NoWord _) _ c.from_residual-in_err-word_of-in-pages.ensures.1 c.in_err-word_of-in-pages.ensures
    (λ why m. inr (inr (inl (rw e m))))

pub returns-in_err-partition-in-partition-clause-faulty : goal.returns-in_err-partition-in-partition-clause-faulty
returns-in_err-partition-in-partition-clause-faulty c =
    let e = cut c.args.word.now _ _ (codes "partition") c.split_once.ensures.cases c.in_ok-name.ensures.ok_part c.in-partition.is in
    start_partition _ c.args.self.now c.args.word.now _ _ c.from_residual-in_err-partition-in-partition.ensures.1 (ap (value_for (codes "partition")) e) c.in_err-partition-in-partition.ensures

pub returns-in_ok-word_of-in-frames-clause-known : goal.returns-in_ok-word_of-in-frames-clause-known
returns-in_ok-word_of-in-frames-clause-known c =
    is_named start_names _ _ _ (cut c.args.word.now _ _ (codes "frames") c.split_once.ensures.cases c.in_ok-name.ensures.ok_part c.in-frames.is) refl

pub returns-in_ok-word_of-in-supervisor-clause-known : goal.returns-in_ok-word_of-in-supervisor-clause-known
returns-in_ok-word_of-in-supervisor-clause-known c =
    is_named start_names _ _ _ (cut c.args.word.now _ _ (codes "supervisor") c.split_once.ensures.cases c.in_ok-name.ensures.ok_part c.in-supervisor.is) refl
