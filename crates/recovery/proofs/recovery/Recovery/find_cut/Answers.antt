use Rattle.std.proofs.Common.{◌≡◌, List, Option, Some, None, is_some, false, refl, sym, ◌∙◌, true≢false}
use Rattle.volume_model.specs.Common.{Plan, ClientGroup}
use Rattle.writer_core.specs.Groups.{groups_in, group_states_plan}
use Rattle.recovery.specs.declared.found.Found.{Found}
use Rattle.recovery.proofs.Leaves.{cut-found}
use Rattle.recovery.proofs.recovery.Recovery.find_cut.Goals as goal

is-none : (o : Option Found) → is_some o ≡ false → o ≡ None
is-none None h = refl
is-none (Some x) h = absurd (true≢false h)

pub returns : goal.returns
returns c =
    let self = c.args.self.now in
    let plan : Plan = group_states_plan self.group_states in
    let groups : List ClientGroup = groups_in self.group_states in
    cut-found plan self.volume groups self.found (is-none self.found (sym c.is_some.ensures ∙ c.if-is_some.false)) (sym c.has_read.ensures ∙ c.if-not-has_read.false) c.find.result c.find.ensures.lineage c.find.ensures.log
