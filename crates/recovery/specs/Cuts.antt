-- Reports that a recovery may keep.
use Rattle.std.specs.Prelude.{ℕ, Bool, nat_lt, List}
use Rattle.volume_model.specs.Common.{every, last_epoch, ClientGroup}

-- the lineage of each report of a group is older than this volume epoch
abbrev pub is_older : ℕ → ClientGroup → Bool
is_older volume group = every (λ report. nat_lt (last_epoch report.contents.lineage) volume) group.reports

-- the same for all groups
abbrev pub are_older : ℕ → List ClientGroup → Bool
are_older volume groups = every (is_older volume) groups
