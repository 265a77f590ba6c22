use Rattle.model.specs.World.{LawfulParts, parts_of}
use Rattle.model.proofs.Certainly.{certain_of}
use Rattle.model.proofs.Runs.{law_of, steady_of}
use Rattle.model.proofs.Tested.{found_of, purge_test_of, refused_of, settle_test_of, tables_of, test_of}
use Rattle.model.proofs.law.law_stands.Goals as goal

pub returns : goal.returns
returns g c =
    let r = parts_of g.T.Translator.rules g.P.Policy.rules g.S.PageStore.rules in
    let lawful : LawfulParts r = record { translator = g.met.T.Translator.lawful; policy = g.met.P.Policy.lawful; store = g.met.S.PageStore.lawful } in
    record {
      law = law_of r lawful;
      tables = tables_of;
      refused = refused_of r;
      found = found_of r;
      test = test_of r;
      settle_test = settle_test_of r;
      purge_test = purge_test_of r;
      certain = certain_of r lawful;
      steady = steady_of r lawful;
    }
