use Rattle.std.proofs.Common.{replicate, sym, ◌∙◌}
use Rattle.segment_core.specs.BlockList.{redos_in}
use Rattle.segment_core.proofs.AppliedPages.{page-all, page-kept}
use Rattle.segment_core.proofs.block_list.BlockList.page.Goals as goal

pub returns-in-Some-clause-page : goal.returns-in-Some-clause-page
returns-in-Some-clause-page c =
    c.deref.ensures
    ∙ c.args.self.now.all_applied c.in-Some.page c.in-Some.is
    ∙ sym (page-all (replicate 512 0) c.args.block c.args.point (redos_in c.args.self.now) c.requires (c.ends_by.ensures c.if-not-ends_by.false))

pub invariant_of-self : goal.invariant_of-self
invariant_of-self c = record {
  in_order = c.args.self.now.in_order;
  all_applied = page-kept (redos_in c.args.self.now) c.args.block c.args.point c.in_ok-new.field-0 (c.in_ok-new.ensures.ok ∙ c.page-page.ensures) c.requires (c.ends_by.ensures c.if-not-ends_by.false);
}
