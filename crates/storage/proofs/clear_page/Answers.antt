use Rattle.std.proofs.Common.{ap, ◌∙◌, arith}
use Rattle.storage.proofs.Parted.{put_mid_lem, cleared}
use Rattle.storage.specs.Bytes.{put_page}
use Rattle.storage.proofs.clear_page.Goals as goal

pub returns-clause-after : goal.returns-clause-after
returns-clause-after c =
    put_mid_lem c.args.storage.now c.fill.new.self c.args.at _ (omega arith)
    ∙ ap (put_page c.args.storage.now c.args.at) (cleared c.fill.new.self _ (omega arith) (c.fill.ensures.after (λ y e. e)))
