use Rattle.std.proofs.Common.{◌≡◌, ◌-◌, ◌++◌, ◌∙◌, length, take, drop, sym, arith, length-append, length-drop}
use Rattle.std.proofs.lemmas.List.{length-take-le}
use Rattle.table.proofs.Sweeps.{own_pages-more, own_pages-past}
use Rattle.table.proofs.FrameTable.own_pages.Goals as goal

pub loop-f-preserved : goal.loop-f-preserved
loop-f-preserved c =
    let long : length c.self.inside.records ≡ 256 = c.self.invariant in
    let own : length (take c.from-own.result c.self.inside.records) ≡ c.from-own.result = length-take-le _ _ (omega (arith, c.min.ensures)) in
    own_pages-more c.loop-f.f c.args.count c.loop-f.record-items _ (omega (arith, c.min.ensures)) (omega arith) ∙ c.loop-f.invariant

pub returns-clause-records : goal.returns-clause-records
returns-clause-records c =
    let records = c.self.inside.records in
    let long : length records ≡ 256 = c.self.invariant in
    let own : length (take c.from-own.result records) ≡ c.from-own.result = length-take-le _ _ (omega (arith, c.min.ensures)) in
    sym (own_pages-past c.loop-f.f (c.args.count - c.loop-f.f) (c.loop-f.record-items ++ drop c.from-own.result records) (λ h.
    omega (arith, c.min.ensures, length-append c.loop-f.record-items (drop c.from-own.result records), length-drop c.from-own.result records)))
    ∙ rw c.self.view_is c.loop-f.invariant
