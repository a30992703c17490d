use Rattle.std.proofs.Common.{List, map, subst}
use Rattle.redo_record.specs.SharedList.{IsKnownEpoch, IsVolumeChain, IsGroupChain}
use Rattle.redo_record.specs.SharedRecord.{shared_redo}
use Rattle.redo_record.specs.declared.shared_record.SharedRecord.{SharedRecord}
use Rattle.redo_record.proofs.shared_list.SharedList.new.Goals as goal

pub invariant_of-result : goal.invariant_of-result
invariant_of-result c = record {
  of_epoch = subst (λ (ps : List SharedRecord). IsKnownEpoch c.epoch_of-volume_epoch.result (map shared_redo ps)) c.deref.ensures.value c.epoch_of-volume_epoch.ensures;
  in_volume = λ on. subst (λ (ps : List SharedRecord). IsVolumeChain (map shared_redo ps)) c.deref-2.ensures.value (c.is_volume_chain-is_volume_chain.ensures on);
  in_group = λ on. subst (λ (ps : List SharedRecord). IsGroupChain (map shared_redo ps)) c.deref-3.ensures.value (c.is_group_chain-is_group_chain.ensures on);
}
