use Rattle.std.proofs.Common.{◌+◌, ◌-◌, sym, refl, arith}
use Rattle.paging.proofs.Told.{read_told}
use Rattle.paging.proofs.own.Own.read_in.Goals as goal

pub returns-then-holds : goal.returns-then-holds
returns-then-holds g c =
    read_told g.S.PageStore.rules (g.S.PageStore.model c.args.self.now.store) (c.args.of - c.args.self.now.state.config.supervisor) c.args.storage.now
    c.args.frame c.place-at.result (c.place-at.result + 2048 - c.place-at.result) c.slot.result _ c.read.new.page c.place-at.ensures (omega arith)
    (sym c.if-holds.ensures) c.slot.ensures refl c.read.ensures.after
