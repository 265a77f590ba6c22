use Rattle.std.proofs.Common.{◌-◌, sym, ap, ◌∙◌}
use Rattle.std.specs.Option.{option_map}
use Rattle.paging.proofs.Told.{not_put}
use Rattle.paging.specs.Seen.{seen, with_store}
use Rattle.paging.proofs.own.Own.put_out.Goals as goal

pub returns-in_default : goal.returns-in_default
returns-in_default g c =
    ap (with_store (seen g.T.Translator g.P.Policy g.S.PageStore c.args.self.now c.args.storage.now))
    (not_put g.S.PageStore.rules (g.S.PageStore.model c.args.self.now.store) (c.args.of - c.args.self.now.state.config.supervisor) c.args.storage.now
    c.args.frame c.place.result c.place.ensures (sym (ap (option_map (λ x. x.now)) c.in_default.is) ∙ c.page.ensures))
