use Rattle.std.proofs.Common.{◌≡◌, true, List, sym, ◌∙◌}
use Rattle.volume_model.specs.Common.{Redo, scl}
use Rattle.redo_record.specs.Common.{records_of}
use Rattle.segment_core.specs.Chains as chains
use Rattle.segment_core.proofs.OneChains.{one_chain}
use Rattle.segment_core.proofs.Rises.{runs-fall}
use Rattle.segment_core.proofs.chains.Chains.of_set.Goals as goal

pub returns-in-Some : goal.returns-in-Some
returns-in-Some c =
    let records : List Redo = records_of c.args.set.now in
    let both : (chains.is_line 0 records ≡ true) × (c.in-Some.point ≡ scl records) = one_chain records c.in-Some.point (runs-fall c.args.set.now.runs.items) c.in-Some.ensures in
    record { line = λ e. both.0; point = both.1 }

pub returns : goal.returns
returns c = record { line = λ e. sym c.is_line.ensures ∙ e; point = c.in_ok-complete_point.ensures }
