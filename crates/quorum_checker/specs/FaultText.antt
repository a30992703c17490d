-- How a fault of a certificate is printed.
use Rattle.std.specs.Prelude.{ℕ, List, ◌++◌, codes}
use Rattle.volume_model.specs.Common.{fault_text}
use Rattle.quorum_checker.specs.declared.fault.FaultAt.{FaultAt}
use Rattle.quorum_checker.specs.PathText.{path_text}

-- the fault's number and name, and its path
abbrev pub fault_at_text : FaultAt → List ℕ
fault_at_text e = fault_text e.fault ++ codes " at " ++ path_text e.path
