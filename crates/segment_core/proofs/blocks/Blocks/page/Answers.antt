use Rattle.std.proofs.Common.{sym, ◌∙◌}
use Rattle.segment_core.specs.declared.blocks.Blocks.{Blocks}
use Rattle.segment_core.specs.Blocks.{place_of}
use Rattle.segment_core.proofs.ListPlaces.{kept}
use Rattle.segment_core.proofs.blocks.Blocks.page.Goals as goal

pub returns-in-Some-clause-same : goal.returns-in-Some-clause-same
returns-in-Some-clause-same c b =
    let blocks : Blocks = c.args.self.now in
    kept blocks c.in-Some.place c.index_mut.result.now c.page.new.self (blocks.inside c.args.block c.in-Some.place (sym c.get.ensures ∙ c.in-Some.is)) c.index_mut.ensures.value c.page.ensures.same (place_of blocks b)
