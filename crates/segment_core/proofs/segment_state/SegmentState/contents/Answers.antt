use Rattle.std.proofs.Common.{◌≡◌, ◌∙◌, ap, subst, Result, Ok, Err, Option, Some, option_map, Global}
use Rattle.std.proofs.Math.Logic.{∥∥₁_elim}
use Rattle.std.proofs.Props.{props}
use Rattle.std.specs.Arc.{arc_value}
use Rattle.std.specs.declared.sync.Arc.{Arc}
use Rattle.std.specs.Result.{IfOk, MatchResult}
use Rattle.std.specs.declared.alloc.AllocError.{AllocError}
use Rattle.volume_model.specs.Lineage as model
use Rattle.wire.specs.declared.contents.Contents.{Contents}
use Rattle.wire.specs.Common.{contents_of}
use Rattle.segment_core.specs.SegmentState.{state_contents}
use Rattle.segment_core.specs.Reported.{IsReported}
use Rattle.segment_core.proofs.segment_state.SegmentState.contents.Goals as goal

-- what shares that which was reported last is what is held
reported_again : (P : AllocError → Type 0) (r : Result (Arc Contents Global) AllocError) (last : Arc Contents Global) (reported : Option (Arc Contents Global)) (held : model.Contents) → reported ≡ Some last → ∥ IsReported (option_map arc_value reported) held ∥₁
    → MatchResult r (λ copy. arc_value copy ≡ arc_value last) P → IfOk r (λ copy. contents_of (arc_value copy) ≡ held)
reported_again P (Ok copy) last reported held is is_report same = ap contents_of same ∙ ∥∥₁_elim is_report (hlevel props) (λ t. subst (λ o. IsReported (option_map arc_value o) held) is t)
reported_again P (Err e) last reported held is is_report same = tt

pub returns-in-Some-clause-contents : goal.returns-in-Some-clause-contents
returns-in-Some-clause-contents c = reported_again _ c.clone.result c.in-Some.reported c.args.self.now.reported (state_contents c.args.self.now) c.in-Some.is c.args.self.now.is_report c.clone.ensures.cases
