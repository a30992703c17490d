use Rattle.std.proofs.Common.{◌≡◌, ◌<◌, ◌≤◌, ℕ, vec_len, Some, slice_get}
use Rattle.cert_search.specs.declared.own.Own.{Own}
use Rattle.cert_search.specs.Dealing.{GetsMarks}
use Rattle.cert_search.proofs.table.close_all.Given as goal

abbrev pub invariant-loop-which : goal.invariant-loop-which
invariant-loop-which l = record {
  count : vec_len l.owns ≡ vec_len l.initial.owns;
  before : (d : ℕ) (old new : Own) → d < l.which → slice_get l.initial.owns.items d ≡ Some old → slice_get l.owns.items d ≡ Some new → GetsMarks l.workers old new;
  after : (d : ℕ) → l.which ≤ d → slice_get l.owns.items d ≡ slice_get l.initial.owns.items d;
}
