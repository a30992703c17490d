use Rattle.std.proofs.Common.{◌≡◌, ℕ, ◌/◌, ◌%◌, length, Option, Some, slice_get}
use Rattle.std.specs.Arc.{arc_value}
use Rattle.plan.specs.Common.{checked_model}
use Rattle.segment_core.specs.declared.segment.Segment.{Segment}
use Rattle.world.specs.Homes.{IsPlace}
use Rattle.world.proofs.OneNode.{IsNewborn}
use Rattle.world.proofs.nodes.all_born.Given as goal

abbrev pub invariant-loop-k : goal.invariant-loop-k
invariant-loop-k l = record {
  long : length l.slots.items ≡ l.k;
  place : (k : ℕ) (o : Option Segment) → slice_get l.slots.items k ≡ Some o → IsPlace (checked_model (arc_value l.plan)) (k / 64) (k % 64) o;
  newborn : (k : ℕ) (o : Option Segment) → slice_get l.slots.items k ≡ Some o → IsNewborn (checked_model (arc_value l.plan)) (k / 64) (k % 64) o;
}
