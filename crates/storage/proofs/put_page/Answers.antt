use Rattle.std.proofs.Common.{◌≡◌, ◌+◌, ◌++◌, cond, length, take, drop, ap, ◌∙◌, arith}
use Rattle.storage.specs.Bytes.{put_page}
use Rattle.storage.proofs.put_page.Goals as goal

pub returns-then-page-eq-PAGE-clause-after : goal.returns-then-page-eq-PAGE-clause-after
unfolding put_page
returns-then-page-eq-PAGE-clause-after c =
    let s = c.args.storage.now in
    let long : length c.args.page.now ≡ 2048 = omega arith in
    c.put_bytes.ensures.after ∙ ap (λ n. cond c.put_bytes.result (take c.args.at s ++ (c.args.page.now ++ drop (c.args.at + n) s)) s) long
